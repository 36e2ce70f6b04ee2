-- The plan of a time-bounded until, and when there is none.
use Rattle.std.specs.Prelude.{◌≡◌, ℕ, suc, ◌*◌, if◌then◌else◌, nat_lt, Option, Some, None}
use Rattle.ctmc_semantics.specs.Chain.{Chain}
use Rattle.ctmc_semantics.specs.Fraction.{Fraction}
use Rattle.ctmc_semantics.specs.Horizon.{horizon}
use Rattle.ctmc_semantics.specs.Uniformised.{time_load, uniformised}
use Rattle.decimal_text.specs.DecimalNumber.{DecimalNumber}
use Rattle.poisson_tail.specs.declared.layers.TheConstants.{MOST_LAYERS}
use Rattle.step_core.specs.FrameLists.{SetLists}
use Rattle.step_core.specs.FrameRows.{StandFor}
use Rattle.step_core.specs.PlanLists.{PlanLists}
use Rattle.step_core.specs.PlanLoad.{FitsPoisson}
use Rattle.step_core.specs.SoundPlan.{IsSoundPlan}
use Rattle.step_core.specs.WeightLists.{WeightLists}
use Rattle.step_core.specs.declared.mix.Mix.TheVariants.{Poisson}
use Rattle.step_core.specs.declared.plan_error.PlanError.{PlanError}
use Rattle.step_core.specs.declared.plan_error.PlanError.TheVariants.{TooLong, TooLarge}
use Rattle.uniformise.specs.declared.limits.TheConstants.{MOST_WORDS}

-- the plan is that of reaching the goal through live states within the load's time: it is sound, its rows stand for the uniformised chain,
-- its sets are these, its weights are the load's, and its last layer is the load's horizon
pub record IsTimePlan (chain : Chain) (load : Fraction) (bits : ℕ) (sets : SetLists) (plan : PlanLists) : Type 0 where
  pub sound : IsSoundPlan plan
  pub rows : StandFor plan.frame.rows (uniformised chain)
  pub sets_are : plan.frame.sets ≡ sets
  pub weights : WeightLists
  pub is_mix : plan.mix ≡ Poisson weights bits
  pub fits : FitsPoisson load plan.layers weights bits

-- a table of the numbers of jumps up to `last` has a word for each of them and each state, and none may have too many
abbrev pub table_refusal : ℕ → ℕ → Option PlanError
table_refusal last states = if nat_lt MOST_WORDS (suc last * states) then Some TooLarge else None

-- a bounded until may have to look too far
abbrev pub plan_refusal : ℕ → ℕ → Option PlanError
plan_refusal last states = if nat_lt MOST_LAYERS last then Some TooLong else table_refusal last states

-- jumps are looked at up to the horizon of the load, past which at most `2^-bits` is left
abbrev pub time_refusal : Chain → ℕ → ℕ → DecimalNumber → Option PlanError
time_refusal chain rate_decimals bits time =
    plan_refusal (horizon (time_load chain rate_decimals time.c time.x) bits) chain.states
