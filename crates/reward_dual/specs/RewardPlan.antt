-- The plan of an until with a bound on the reward.
use Rattle.std.specs.Prelude.{ℕ}
use Rattle.csl_semantics.specs.Dual.{EarnsEverywhere, dual, reward_load}
use Rattle.decimal_text.specs.DecimalNumber.{DecimalNumber}
use Rattle.model_core.specs.Model.{LabelledChain}
use Rattle.step_core.specs.FrameLists.{SetLists}
use Rattle.step_core.specs.PlanLists.{PlanLists}
use Rattle.uniformise.specs.TimePlan.{IsTimePlan}

-- each state earns, and the plan is that of the same until in the dual chain, within the reward in place of a time
pub record IsRewardPlan (over : LabelledChain) (bits : ℕ) (r : DecimalNumber) (sets : SetLists) (plan : PlanLists) : Type 0 where
  pub earns : EarnsEverywhere over
  pub is : IsTimePlan (dual over.chain earns.rewards.reward) (reward_load over earns.rewards r) bits sets plan
