-- What is so where an until with a bound on the reward isn't refused.
use Rattle.std.proofs.Common.{◌≡◌, ℕ, zero, suc, ◌*◌, ◌^◌, ◌<◌, eqb, Bool, true, false, Option, Some, None, nat_le, if◌then◌else◌, refl, ap, ◌∙◌, arith}
use Rattle.std.proofs.Math.Decide.{dec_le}
use Rattle.std.proofs.lemmas.Bool.{leb-false}
use Rattle.ctmc_semantics.specs.Horizon.{horizon}
use Rattle.csl_semantics.specs.Dual.{EarnsEverywhere, reward_load}
use Rattle.decimal_text.specs.DecimalNumber.{DecimalNumber}
use Rattle.model_core.specs.Model.{LabelledChain, Rewards}
use Rattle.step_core.specs.declared.plan_error.PlanError.{PlanError}
use Rattle.step_core.specs.declared.plan_error.PlanError.TheVariants.{ZeroReward, RewardRange, BoundRange}
use Rattle.uniformise.specs.TimePlan.{plan_refusal}
use Rattle.reward_dual.specs.Deciding.{deciding_rate}
use Rattle.reward_dual.specs.LowestTerms.{fits_load, lowest_terms}
use Rattle.reward_dual.specs.RewardRefusal.{first_below, or_this, refused_at, earns_nothing, passes_range, refusal_of, reward_refusal}

none_or : (o : Option ℕ) (n : ℕ) (b : Bool) → or_this o n b ≡ None → (o ≡ None) × (b ≡ false)
none_or None n false e = (refl, refl)
none_or None n true e = cc
none_or (Some s) n b e = cc

-- where none is the first, the test holds of no state
pub none_below : (n : ℕ) (test : ℕ → Bool) → first_below n test ≡ None → (s : ℕ) → s < n → test s ≡ false
none_below zero test e s l = absurd (omega (arith, l))
none_below (suc n) test e s l =
    let parts = none_or (first_below n test) n (test n) e in
    elim (dec_le (suc s) n) [
      | yes i ↦ none_below n test parts.0 s i
      | no g ↦ (let same : s ≡ n = omega (arith, g, l) in ap test same ∙ parts.1)
    ]

pub none_refused : (o : Option ℕ) (why : ℕ → PlanError) (later : Option PlanError) → refused_at o why later ≡ None
    → (o ≡ None) × (later ≡ None)
none_refused None why later e = (refl, e)
none_refused (Some s) why later e = cc

pub earns_some : (n : ℕ) (rewards : Rewards) → first_below n (earns_nothing rewards) ≡ None → (s : ℕ) → s < n → 0 < rewards.reward s
earns_some n rewards e s l = not_zero (rewards.reward s) (none_below n (earns_nothing rewards) e s l)
  where
    not_zero : (x : ℕ) → eqb x 0 ≡ false → 0 < x
    not_zero zero e = cc
    not_zero (suc x) e = omega arith

pub range_fits : (over : LabelledChain) (rewards : Rewards) → first_below over.chain.states (passes_range over rewards) ≡ None → (s : ℕ)
    → s < over.chain.states → rewards.reward s * deciding_rate over.chain rewards.reward < 2 ^ 63
range_fits over rewards e s l =
    let past : nat_le (2 ^ 63) (rewards.reward s * deciding_rate over.chain rewards.reward) ≡ false =
    none_below over.chain.states (passes_range over rewards) e s l in
    omega (arith, leb-false (2 ^ 63) (rewards.reward s * deciding_rate over.chain rewards.reward) past)

-- the states earn, the rows' divisors and the load fit, and the plan is none too large
pub record IsAccepted (over : LabelledChain) (bits : ℕ) (r : DecimalNumber) : Type 0 where
  pub earns : EarnsEverywhere over
  pub ranges : (s : ℕ) → s < over.chain.states → earns.rewards.reward s * deciding_rate over.chain earns.rewards.reward < 2 ^ 63
  pub plan : plan_refusal (horizon (reward_load over earns.rewards r) bits) over.chain.states ≡ None

none_range : (fits : Bool) (plan : Option PlanError) → (if fits then plan else Some BoundRange) ≡ None → plan ≡ None
none_range true plan e = e
none_range false plan e = cc

module _ (over : LabelledChain) (bits : ℕ) (r : DecimalNumber) where
  by_rewards : (listed : Option Rewards) → over.rewards ≡ listed → refusal_of over bits r listed ≡ None → IsAccepted over bits r
  by_rewards None is e = cc
  by_rewards (Some rewards) is e =
      let n = over.chain.states in
      let zero_ok = none_refused (first_below n (earns_nothing rewards)) ZeroReward _ e in
      let range_ok = none_refused (first_below n (passes_range over rewards)) RewardRange _ zero_ok.1 in
      record {
        earns = record {
          rewards = rewards;
          are = is;
          positive = earns_some n rewards zero_ok.0;
        };
        ranges = range_fits over rewards range_ok.0;
        plan =
            none_range (fits_load (lowest_terms (reward_load over rewards r))) (plan_refusal (horizon (reward_load over rewards r) bits) n)
            range_ok.1;
      }

  pub accepted : reward_refusal over bits r ≡ None → IsAccepted over bits r
  accepted e = by_rewards over.rewards refl e
