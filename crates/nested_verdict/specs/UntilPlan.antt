-- The plan of an until, by its bound.
use Rattle.std.specs.Prelude.{ℕ, Option, Some, None}
use Rattle.ctmc_semantics.specs.Horizon.{horizon}
use Rattle.command_words.specs.declared.command.Options.{Options}
use Rattle.csl_semantics.specs.Meaning.{load_of}
use Rattle.csl_syntax.specs.declared.formula.Bound.{Bound}
use Rattle.csl_syntax.specs.declared.formula.Bound.TheVariants.{Unbounded, Time, Reward}
use Rattle.csl_semantics.specs.Dual.{dual, reward_load}
use Rattle.ctmc_semantics.specs.Chain.{Chain}
use Rattle.ctmc_semantics.specs.Fraction.{Fraction, fraction}
use Rattle.decimal_text.specs.DecimalNumber.{DecimalNumber}
use Rattle.model_core.specs.Model.{LabelledChain, Rewards}
use Rattle.reward_dual.specs.RewardPlan.{IsRewardPlan}
use Rattle.reward_dual.specs.RewardRefusal.{reward_refusal}
use Rattle.step_core.specs.FrameLists.{SetLists}
use Rattle.step_core.specs.PlanLists.{PlanLists}
use Rattle.step_core.specs.declared.plan_error.PlanError.{PlanError}
use Rattle.uniformise.specs.TimePlan.{IsTimePlan, table_refusal, time_refusal}
use Rattle.uniformise.specs.UnboundedPlan.{IsUnboundedPlan}

-- the load of a bound on the reward, by the rewards of the states; without any there is none
abbrev pub load_by : LabelledChain → DecimalNumber → Option Rewards → Fraction
load_by over r None = fraction 0 1
load_by over r (Some rewards) = reward_load over rewards r

abbrev pub dual_by : LabelledChain → Option Rewards → Chain
dual_by over None = over.chain
dual_by over (Some rewards) = dual over.chain rewards.reward

-- how many jumps are looked at: of an until without a bound as many as the options say, of one with a bound on the time so many that at
-- most `2^-bits` lies past them, and of one with a bound on the reward as many of the dual chain
abbrev pub last_jumps : LabelledChain → Options → Bound → ℕ
last_jumps over options Unbounded = options.jumps
last_jumps over options (Time t) = horizon (load_of over t) options.bits
last_jumps over options (Reward r) = horizon (load_by over r over.rewards) options.bits

-- why the until has no plan
abbrev pub bound_refusal : LabelledChain → Options → Bound → Option PlanError
bound_refusal over options Unbounded = table_refusal options.jumps over.chain.states
bound_refusal over options (Time t) = time_refusal over.chain over.rate_decimals options.bits t
bound_refusal over options (Reward r) = reward_refusal over options.bits r

-- this is the plan of the until over the sets
abbrev pub IsPlanOf : LabelledChain → Options → Bound → SetLists → PlanLists → Type 0
IsPlanOf over options Unbounded sets plan = IsUnboundedPlan over.chain options.jumps sets plan
IsPlanOf over options (Time t) sets plan = IsTimePlan over.chain (load_of over t) options.bits sets plan
IsPlanOf over options (Reward r) sets plan = IsRewardPlan over options.bits r sets plan
