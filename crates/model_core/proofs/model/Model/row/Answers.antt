use Rattle.model_core.proofs.ModelLemmas.{from_ascends, IsRow-at}
use Rattle.model_core.proofs.model.Model.row.Goals as goal

pub row_of-requires-clause-order : goal.row_of-requires-clause-order
row_of-requires-clause-order c = rw c.deref.ensures.value (from_ascends _ c.self.invariant.lists)

pub returns-clause-ascending : goal.returns-clause-ascending
returns-clause-ascending c =
    (IsRow-at _ _ c.args.s _ _ c.self.view_is c.self.invariant.lists c.deref.ensures.value c.row_of.ensures).ascending

pub returns-clause-transitions : goal.returns-clause-transitions
returns-clause-transitions c =
    (IsRow-at _ _ c.args.s _ _ c.self.view_is c.self.invariant.lists c.deref.ensures.value c.row_of.ensures).transitions

pub returns-clause-of_state : goal.returns-clause-of_state
returns-clause-of_state c =
    (IsRow-at _ _ c.args.s _ _ c.self.view_is c.self.invariant.lists c.deref.ensures.value c.row_of.ensures).of_state

pub returns-clause-bound : goal.returns-clause-bound
returns-clause-bound c = (IsRow-at _ _ c.args.s _ _ c.self.view_is c.self.invariant.lists c.deref.ensures.value c.row_of.ensures).bound

pub returns-clause-rates_into : goal.returns-clause-rates_into
returns-clause-rates_into c =
    (IsRow-at _ _ c.args.s _ _ c.self.view_is c.self.invariant.lists c.deref.ensures.value c.row_of.ensures).rates_into
