-- The plan of an until without a bound.
use Rattle.std.specs.Prelude.{◌≡◌, ℕ, All}
use Rattle.ctmc_semantics.specs.Chain.{Chain}
use Rattle.ctmc_semantics.specs.Uniformised.{uniform_rate, uniformised}
use Rattle.step_core.specs.FrameLists.{SetLists}
use Rattle.step_core.specs.FrameRows.{StandFor}
use Rattle.step_core.specs.PlanLists.{PlanLists}
use Rattle.step_core.specs.SoundPlan.{IsSoundPlan}
use Rattle.step_core.specs.declared.mix.Mix.TheVariants.{Last}

-- the plan is that of reaching the goal through live states within any number of jumps, looked at up to so many: it is sound, its rows stand
-- for the uniformised chain, over that chain's rate, its sets are these, and its bracket is read of the last layer alone
pub record IsUnboundedPlan (chain : Chain) (jumps : ℕ) (sets : SetLists) (plan : PlanLists) : Type 0 where
  pub sound : IsSoundPlan plan
  pub rows : StandFor plan.frame.rows (uniformised chain)
  pub divisors : All (λ row. row.den ≡ uniform_rate chain) plan.frame.rows
  pub sets_are : plan.frame.sets ≡ sets
  pub is_mix : plan.mix ≡ Last
  pub last : plan.layers ≡ jumps
