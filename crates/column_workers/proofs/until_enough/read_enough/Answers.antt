use Rattle.std.proofs.Common.{inr}
use Rattle.bound_grid.specs.Passes.{notes_of}
use Rattle.bound_grid.proofs.KnownLemmas.{knows_then}
use Rattle.bound_grid.proofs.NoteLemmas.{no_worse_trans}
use Rattle.column_workers.proofs.ReadBefore.{read_before}
use Rattle.step_core.specs.Limits.{sizes_of}
use Rattle.column_workers.proofs.until_enough.read_enough.Goals as goal

pub returns-clause-knows : goal.returns-clause-knows
returns-clause-knows g c =
    let b = c.args.board.now in
    knows_then b _ _ _ (knows_then b _ _ _ c.read_states.ensures.knows c.finish.ensures.knows) c.read_states-2.ensures.knows

pub returns-clause-brackets : goal.returns-clause-brackets
returns-clause-brackets g c =
    let p = c.args.board.now.plan in
    read_before p (notes_of c.args.pass.now) (notes_of c.finish.new.pass) c.read_states-2.new.brackets.items c.requires.sound
    (no_worse_trans (sizes_of p) _ _ _ c.read_states.ensures.knows.more c.finish.ensures.knows.more) c.read_states-2.ensures.read

pub returns-clause-enough : goal.returns-clause-enough
returns-clause-enough g c = inr (c.read_states-2.ensures.sealed c.finish.ensures.sealed)
