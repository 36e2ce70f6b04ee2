use Rattle.std.proofs.Common.{◌≡◌, ◌∙◌, ap, cond, map}
use Rattle.ctmc_semantics.specs.RoundedTables.{one_word}
use Rattle.model_core.specs.Model.{model_chain}
use Rattle.uniformise.proofs.PlanOf.{unbounded_plan}
use Rattle.uniformise.proofs.unbounded.plan_over.Goals as goal

pub returns : goal.returns
returns c =
    let frame = c.in_ok-frame.ensures in
    let start : c.in_ok-start_upper.start_upper.items ≡ map (λ holds. cond holds one_word 0) c.in_ok-reach.reach.items =
    c.in_ok-start_upper.ensures ∙ ap (map (λ holds. cond holds one_word 0)) c.deref.ensures.value in
    rw start
    (unbounded_plan c.in_ok-frame.frame frame.sound c.in_ok-reach.reach.items c.in_ok-reach.ensures.exact (model_chain c.args.model.now)
    c.args.sets frame.stand frame.sets_are frame.divisors c.args.jumps c.requires.some_jumps c.requires.few_jumps)
