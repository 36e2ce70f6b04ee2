-- What the tests before a plan tell of it.
use Rattle.std.proofs.Common.{◌≡◌, ℕ, ◌+◌, ◌*◌, ◌^◌, ◌<◌, Bool, true, false, Option, Some, None, option_map, MatchOption, if◌then◌else◌, sym, ap, ◌∙◌, arith}
use Rattle.ctmc_semantics.specs.Chain.{Chain}
use Rattle.ctmc_semantics.specs.Fraction.{Fraction, fraction}
use Rattle.ctmc_semantics.specs.Horizon.{horizon}
use Rattle.ctmc_semantics.proofs.Powers.{power_le}
use Rattle.csl_semantics.specs.Dual.{product_below, others_product, reward_load}
use Rattle.decimal_text.specs.DecimalNumber.{DecimalNumber}
use Rattle.model_core.specs.Files.{RewLists}
use Rattle.model_core.specs.Model.{LabelledChain, Rewards, listed_rewards}
use Rattle.step_core.specs.declared.plan_error.PlanError.{PlanError}
use Rattle.step_core.specs.declared.plan_error.PlanError.TheVariants.{ZeroReward, RewardRange, BoundRange}
use Rattle.step_core.specs.FrameLists.{SetLists}
use Rattle.step_core.specs.PlanLists.{PlanLists}
use Rattle.uniformise.specs.TimePlan.{IsTimePlan, plan_refusal}
use Rattle.reward_dual.specs.Deciding.{deciding_rate, deciding_state}
use Rattle.reward_dual.specs.LowestTerms.{fits_load, gcd, lowest_terms}
use Rattle.reward_dual.specs.RewardRefusal.{first_below, refused_at, earns_nothing, passes_range, refusal_of, reward_refusal}
use Rattle.reward_dual.proofs.Accepted.{earns_some, range_fits}
use Rattle.reward_dual.proofs.Coprime.{divided_coprime}
use Rattle.reward_dual.proofs.Fastest.{decides_inside, dual_greatest}
use Rattle.reward_dual.proofs.LowestProducts.{same_lowest}
use Rattle.reward_dual.proofs.SameLoads.{same_fit, same_horizon}
use Rattle.reward_dual.proofs.Products.{others_times, positive_times, product_positive}

module _ (over : LabelledChain) (bits : ℕ) (r : DecimalNumber) (rewards : Rewards) (some : 0 < over.chain.states)
    (are : over.rewards ≡ Some rewards) (none_zero : first_below over.chain.states (earns_nothing rewards) ≡ None)
    (none_past : first_below over.chain.states (passes_range over rewards) ≡ None) where
  abbrev load : Fraction
  load = reward_load over rewards r

  abbrev later : Option PlanError
  later = if fits_load (lowest_terms load) then plan_refusal (horizon load bits) over.chain.states else Some BoundRange

  -- what is left to refuse
  pub refusal_is : reward_refusal over bits r ≡ later
  refusal_is =
      ap (refusal_of over bits r) are
      ∙ ap (λ o. refused_at o ZeroReward (refused_at (first_below over.chain.states (passes_range over rewards)) RewardRange later)) none_zero
      ∙ ap (λ o. refused_at o RewardRange later) none_past

  pub positive : (s : ℕ) → s < over.chain.states → 0 < rewards.reward s
  positive s l = earns_some over.chain.states rewards none_zero s l

  pub fits : (s : ℕ) → s < over.chain.states → rewards.reward s * deciding_rate over.chain rewards.reward < 2 ^ 63
  fits s l = range_fits over rewards none_past s l

  abbrev decides : ℕ
  decides = deciding_state over.chain rewards.reward

  pub deciding_earns : 0 < rewards.reward decides
  deciding_earns = positive decides (decides_inside over.chain rewards.reward some positive)

  -- ---- the load over the deciding state alone is the same number
  abbrev pub deciding_load : Fraction
  deciding_load =
      fraction (deciding_rate over.chain rewards.reward * r.c * 10 ^ rewards.decimals)
      (10 ^ (over.rate_decimals + r.x) * rewards.reward decides)

  power : 0 < 10 ^ (over.rate_decimals + r.x)
  power = omega (arith, power_le 10 0 (over.rate_decimals + r.x) (omega arith) (omega arith))

  pub deciding_positive : 0 < deciding_load.den
  deciding_positive = positive_times (10 ^ (over.rate_decimals + r.x)) (rewards.reward decides) power deciding_earns

  pub load_positive : 0 < load.den
  load_positive =
      positive_times (10 ^ (over.rate_decimals + r.x)) (product_below over.chain.states rewards.reward) power
      (product_positive over.chain.states rewards.reward positive)

  pub same_load : deciding_load.num * load.den ≡ load.num * deciding_load.den
  same_load =
      let rate = deciding_rate over.chain rewards.reward in
      let others = others_product over.chain.states rewards.reward decides in
      let ten = 10 ^ (over.rate_decimals + r.x) in
      let whole : others * rewards.reward decides ≡ product_below over.chain.states rewards.reward =
      others_times over.chain.states decides rewards.reward (decides_inside over.chain rewards.reward some positive) in
      ap (λ p. rate * r.c * 10 ^ rewards.decimals * (ten * p)) (sym whole)
      ∙ shuffled rate r.c (10 ^ rewards.decimals) ten others (rewards.reward decides)
      ∙ ap (λ g. g * r.c * 10 ^ rewards.decimals * (ten * rewards.reward decides))
      (sym (dual_greatest over.chain rewards.reward some positive))
    where
      shuffled : (e c d t o q : ℕ) → e * c * d * (t * (o * q)) ≡ e * o * c * d * (t * q)
      shuffled e c d t o q = omega arith

  pub lowest_same : lowest_terms deciding_load ≡ lowest_terms load
  lowest_same = same_lowest deciding_load load deciding_positive load_positive same_load

  -- ---- by whether the load fits
  pub refused_range : fits_load (lowest_terms load) ≡ false → reward_refusal over bits r ≡ Some BoundRange
  refused_range e =
      refusal_is ∙ ap (λ (b : Bool). if b then plan_refusal (horizon load bits) over.chain.states else Some BoundRange) e

  pub left_to_plan : fits_load (lowest_terms load) ≡ true → reward_refusal over bits r ≡ plan_refusal (horizon load bits) over.chain.states
  left_to_plan e =
      refusal_is ∙ ap (λ (b : Bool). if b then plan_refusal (horizon load bits) over.chain.states else Some BoundRange) e

  -- the load as it is computed
  pub computed_load : (exit q e places digits : ℕ) → exit ≡ deciding_rate over.chain rewards.reward → q ≡ rewards.reward decides
      → e ≡ rewards.decimals → places ≡ over.rate_decimals + r.x → digits ≡ r.c
      → lowest_terms (fraction (exit * digits * 10 ^ e) (10 ^ places * q)) ≡ lowest_terms load
  computed_load exit q e places digits x y z p k =
      let rate = deciding_rate over.chain rewards.reward in
      ap (λ v. lowest_terms (fraction (v * digits * 10 ^ e) (10 ^ places * q))) x
      ∙ ap (λ v. lowest_terms (fraction (rate * v * 10 ^ e) (10 ^ places * q))) k
      ∙ ap (λ v. lowest_terms (fraction (rate * r.c * 10 ^ e) (10 ^ places * v))) y
      ∙ ap (λ v. lowest_terms (fraction (rate * r.c * 10 ^ v) (10 ^ places * rewards.reward decides))) z
      ∙ ap (λ v. lowest_terms (fraction (rate * r.c * 10 ^ rewards.decimals) (10 ^ v * rewards.reward decides))) p
      ∙ lowest_same

  -- ---- where it fits, its lowest terms serve
  abbrev pub lowest : Fraction
  lowest = lowest_terms load

  lowest_den : 0 < lowest.den
  lowest_den = (divided_coprime load.num load.den load_positive).positive

  lowest_cross : lowest.num * load.den ≡ load.num * lowest.den
  lowest_cross =
      let parts = divided_coprime load.num load.den load_positive in
      let g = gcd load.num load.den in
      ap (λ d. lowest.num * d) (sym parts.second) ∙ turned lowest.num lowest.den g ∙ ap (λ n. n * lowest.den) parts.first
    where
      turned : (n d g : ℕ) → n * (d * g) ≡ n * g * d
      turned n d g = omega arith

  pub lowest_refusal : fits_load lowest ≡ true → reward_refusal over bits r ≡ plan_refusal (horizon lowest bits) over.chain.states
  lowest_refusal e =
      left_to_plan e
      ∙ ap (λ h. plan_refusal h over.chain.states) (sym (same_horizon lowest load lowest_den load_positive lowest_cross bits))

  pub lowest_plan : (chain : Chain) (sets : SetLists) (plan : PlanLists) → IsTimePlan chain lowest bits sets plan
      → IsTimePlan chain load bits sets plan
  lowest_plan chain sets plan is = record {
    sound = is.sound;
    rows = is.rows;
    sets_are = is.sets_are;
    weights = is.weights;
    is_mix = is.is_mix;
    fits = same_fit lowest load lowest_den load_positive lowest_cross plan.layers is.weights bits is.fits;
  }

-- the decimals of the rewards, as they are read
pub decimals_are : (listed : Option RewLists) (rewards : Rewards) (e : ℕ) → option_map listed_rewards listed ≡ Some rewards
    → MatchOption listed (e ≡ 0) (λ rew. e ≡ rew.scale) → e ≡ rewards.decimals
decimals_are None rewards e are h = cc
decimals_are (Some rew) rewards e are h = h ∙ ap (λ (w : Rewards). w.decimals) (same (listed_rewards rew) rewards are)
  where
    same : (a b : Rewards) → Some a ≡ Some b → a ≡ b
    same a b e = cc
