-- When an until with a bound on the reward has no plan.
use Rattle.std.specs.Prelude.{ℕ, zero, suc, ◌*◌, ◌^◌, ◌==◌, Bool, nat_le, if◌then◌else◌, Option, Some, None}
use Rattle.ctmc_semantics.specs.Horizon.{horizon}
use Rattle.csl_semantics.specs.Dual.{reward_load}
use Rattle.decimal_text.specs.DecimalNumber.{DecimalNumber}
use Rattle.model_core.specs.Model.{LabelledChain, Rewards}
use Rattle.reward_dual.specs.Deciding.{deciding_rate}
use Rattle.reward_dual.specs.LowestTerms.{fits_load, lowest_terms}
use Rattle.step_core.specs.declared.plan_error.PlanError.{PlanError}
use Rattle.step_core.specs.declared.plan_error.PlanError.TheVariants.{NoRewards, ZeroReward, RewardRange, BoundRange}
use Rattle.uniformise.specs.TimePlan.{plan_refusal}

-- the earlier state, or this one where the test holds of it
abbrev pub or_this : Option ℕ → ℕ → Bool → Option ℕ
or_this (Some s) n holds = Some s
or_this None n holds = if holds then Some n else None

-- the first of the first n states of which the test holds
abbrev pub first_below : ℕ → (ℕ → Bool) → Option ℕ
first_below zero test = None
first_below (suc n) test = or_this (first_below n test) n (test n)

-- refused for the state, or else as what is tried later says
abbrev pub refused_at : Option ℕ → (ℕ → PlanError) → Option PlanError → Option PlanError
refused_at (Some s) why later = Some (why s)
refused_at None why later = later

-- a state earns nothing
abbrev pub earns_nothing : Rewards → ℕ → Bool
earns_nothing rewards s = rewards.reward s == 0

-- the divisor of a state's row doesn't fit
abbrev pub passes_range : LabelledChain → Rewards → ℕ → Bool
passes_range over rewards s = nat_le (2 ^ 63) (rewards.reward s * deciding_rate over.chain rewards.reward)

abbrev pub earning_refusal : LabelledChain → Rewards → ℕ → DecimalNumber → Option PlanError
earning_refusal over rewards bits r =
    refused_at (first_below over.chain.states (earns_nothing rewards)) ZeroReward
    (refused_at (first_below over.chain.states (passes_range over rewards)) RewardRange
    (if fits_load (lowest_terms (reward_load over rewards r)) then plan_refusal (horizon (reward_load over rewards r) bits) over.chain.states
    else Some BoundRange))

-- why an until with a bound on the reward has no plan, by the rewards of the states
abbrev pub refusal_of : LabelledChain → ℕ → DecimalNumber → Option Rewards → Option PlanError
refusal_of over bits r None = Some NoRewards
refusal_of over bits r (Some rewards) = earning_refusal over rewards bits r

abbrev pub reward_refusal : LabelledChain → ℕ → DecimalNumber → Option PlanError
reward_refusal over bits r = refusal_of over bits r over.rewards
