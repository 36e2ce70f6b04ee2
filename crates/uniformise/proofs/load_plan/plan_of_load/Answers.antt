use Rattle.std.proofs.Common.{◌≡◌, ◌∙◌, ap, cond, map, refl, rules}
use Rattle.ctmc_semantics.specs.RoundedTables.{one_word}
use Rattle.uniformise.proofs.PlanOf.{time_plan}
use Rattle.uniformise.proofs.load_plan.plan_of_load.Goals as goal

pub returns-clause-plan : goal.returns-clause-plan
returns-clause-plan c = λ chain stand.
    let frame = c.args.frame in
    let weights = c.in_ok-weights.ensures in
    let goal : c.deref.result.now ≡ frame.sets.goal_may = search rules in
    let start : c.in_ok-start_upper.start_upper.items ≡ map (λ holds. cond holds one_word 0) frame.sets.goal_may =
    c.in_ok-start_upper.ensures ∙ ap (map (λ holds. cond holds one_word 0)) goal in
    rw (c.frame.view_is, start)
    (time_plan frame c.requires.sound c.in_ok-reach.reach.items c.in_ok-reach.ensures.exact chain frame.sets stand refl c.args.load.now
    c.args.bits c.args.last c.in_ok-weights.field-0 c.requires.last c.requires.some_bits c.requires.few_bits c.requires.few weights.divisor
    weights.of_load weights.sound)
