use Rattle.std.proofs.Common.{rules}
use Rattle.std.proofs.lemmas.List.Sorted.{answers_always}
use Rattle.model_core.specs.declared.rate.Rate.{Rate}
use Rattle.model_core.specs.Pairs.{pair_number}
use Rattle.model_core.proofs.RateSearch.{found_rate, no_rate}
use Rattle.model_core.proofs.model.Model.rate.Goals as goal

pub returns-in-Ok : goal.returns-in-Ok
returns-in-Ok c =
    found_rate _ _ c.args.s c.args.t _ _ c.self.view_is c.self.invariant.lists c.deref.ensures.value c.pair_number-number.ensures _ _
    c.ranges.t.fits c.in-Ok.ensures.bound
    (c.in-Ok.ensures.position (λ (r : Rate). pair_number r.from r.to) (answers_always _ _ _ (λ f a r g called. search rules)))
    c.index.ensures

pub returns-in-Err : goal.returns-in-Err
returns-in-Err c =
    no_rate _ _ c.args.s c.args.t _ _ c.self.view_is c.self.invariant.lists c.deref.ensures.value c.pair_number-number.ensures _
    (c.in-Err.ensures.position (λ (r : Rate). pair_number r.from r.to) (answers_always _ _ _ (λ f a r g called. search rules)))
