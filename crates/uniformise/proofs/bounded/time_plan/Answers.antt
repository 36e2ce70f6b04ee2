use Rattle.std.proofs.Common.{◌≡◌, All, sym, subst}
use Rattle.ctmc_semantics.specs.Fraction.{Fraction}
use Rattle.ctmc_semantics.specs.Uniformised.{time_load, uniform_rate}
use Rattle.model_core.specs.Model.{model_chain}
use Rattle.step_core.specs.FrameLists.{FrameLists, SetLists}
use Rattle.uniformise.specs.TimePlan.{IsTimePlan}
use Rattle.uniformise.proofs.bounded.time_plan.Goals as goal

pub returns-clause-plan : goal.returns-clause-plan
returns-clause-plan c =
    let chain = model_chain c.args.model.now in
    let frame = c.in_ok-frame.ensures in
    let plan = c.in_ok-plan_of_load.field-0 in
    subst (λ (sets : SetLists). IsTimePlan chain (time_load chain c.args.model.now.scale c.args.time.c c.args.time.x) c.args.bits sets plan)
    frame.sets_are
    (subst (λ (load : Fraction). IsTimePlan chain load c.args.bits c.in_ok-frame.frame.sets plan) c.time_load-load.ensures
    (c.in_ok-plan_of_load.ensures.plan chain frame.stand))

pub returns-clause-divisors : goal.returns-clause-divisors
returns-clause-divisors c =
    let uniform = uniform_rate (model_chain c.args.model.now) in
    subst (λ (f : FrameLists). All (λ row. row.den ≡ uniform) f.rows) (sym c.in_ok-plan_of_load.ensures.frame)
    c.in_ok-frame.ensures.divisors
