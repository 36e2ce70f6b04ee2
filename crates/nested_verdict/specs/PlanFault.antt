-- What is wrong with a formula whose until has no plan.
use Rattle.nested_verdict.specs.declared.check_fault.CheckFault.{CheckFault}
use Rattle.nested_verdict.specs.declared.check_fault.CheckFault.TheVariants.{Refused, Memory}
use Rattle.step_core.specs.declared.plan_error.PlanError.{PlanError}
use Rattle.step_core.specs.declared.plan_error.PlanError.TheVariants as why

-- the until is refused, or there is no memory
abbrev pub plan_fault : PlanError → CheckFault
plan_fault why.TooLong = Refused why.TooLong
plan_fault why.TooLarge = Refused why.TooLarge
plan_fault why.NoRewards = Refused why.NoRewards
plan_fault (why.ZeroReward s) = Refused (why.ZeroReward s)
plan_fault (why.RewardRange s) = Refused (why.RewardRange s)
plan_fault why.BoundRange = Refused why.BoundRange
plan_fault why.Memory = Memory
