-- Loads that are the same number have the same horizon and the same weights.
use Rattle.std.proofs.Common.{◌≡◌, ℕ, zero, suc, ◌+◌, ◌-◌, ◌*◌, ◌/◌, ◌^◌, ◌≤◌, ◌<◌, if◌then◌else◌, nat_lt, refl, sym, ap, ◌∙◌, arith}
use Rattle.std.specs.Int.{div_ceil}
use Rattle.std.proofs.Math.Nat.{div-mul-le_self, le_of_mul-le-mul_right, mul-le-mul_right}
use Rattle.std.proofs.lemmas.Nat.{le-div}
use Rattle.ctmc_semantics.specs.Fraction.{Fraction}
use Rattle.ctmc_semantics.specs.Horizon.{horizon}
use Rattle.ctmc_semantics.specs.Weights.{mode, fine_load, low_upward, low_downward, low_weight, high_upward, high_downward, high_weight}
use Rattle.ctmc_semantics.proofs.OneStep.{le_ceil, ceil_le}
use Rattle.step_core.specs.PlanLoad.{FitsPoisson}
use Rattle.step_core.specs.WeightLists.{WeightLists}

-- ---- quotients of the same number
floor_below : (a b c d : ℕ) → 0 < b → 0 < d → a * d ≡ c * b → a / b ≤ c / d
floor_below a b c d some other same =
    le-div (a / b) c d other
    (le_of_mul-le-mul_right {k = b} (omega (arith, same, mul-le-mul_right d (div-mul-le_self a b))) some)

pub floor_same : (a b c d : ℕ) → 0 < b → 0 < d → a * d ≡ c * b → a / b ≡ c / d
floor_same a b c d some other same = omega (arith, floor_below a b c d some other same, floor_below c d a b other some (sym same))

ceil_below : (a b c d : ℕ) → 0 < b → 0 < d → a * d ≡ c * b → div_ceil a b ≤ div_ceil c d
ceil_below a b c d some other same =
    ceil_le a b (div_ceil c d) some
    (le_of_mul-le-mul_right {k = d} (omega (arith, same, mul-le-mul_right b (le_ceil c d other))) other)

ceil_same : (a b c d : ℕ) → 0 < b → 0 < d → a * d ≡ c * b → div_ceil a b ≡ div_ceil c d
ceil_same a b c d some other same = omega (arith, ceil_below a b c d some other same, ceil_below c d a b other some (sym same))

module _ (p q : Fraction) (some : 0 < p.den) (other : 0 < q.den) (same : p.num * q.den ≡ q.num * p.den) where
  pub same_mode : mode p ≡ mode q
  same_mode = floor_same p.num p.den q.num q.den some other same

  same_fine : fine_load p ≡ fine_load q
  same_fine =
      floor_same (p.num * 2 ^ 50) p.den (q.num * 2 ^ 50) q.den some other (omega (arith, ap (λ z. z * 2 ^ 50) same))

  pub same_horizon : (bits : ℕ) → horizon p bits ≡ horizon q bits
  same_horizon bits =
      ap (λ h. h + bits) (ceil_same (2 * p.num) p.den (2 * q.num) q.den some other (omega (arith, ap (λ z. 2 * z) same)))

  -- ---- the weights
  same_low_upward : (i : ℕ) → low_upward p i ≡ low_upward q i
  same_low_upward zero = refl
  same_low_upward (suc i) =
      ap (λ w. w * fine_load p / (2 ^ 50 * suc (mode p + i))) (same_low_upward i)
      ∙ ap (λ f. low_upward q i * f / (2 ^ 50 * suc (mode p + i))) same_fine
      ∙ ap (λ m. low_upward q i * fine_load q / (2 ^ 50 * suc (m + i))) same_mode

  same_low_downward : (i : ℕ) → low_downward p i ≡ low_downward q i
  same_low_downward zero = refl
  same_low_downward (suc i) =
      ap (λ w. w * (mode p - i) * 2 ^ 50 / suc (fine_load p)) (same_low_downward i)
      ∙ ap (λ m. low_downward q i * (m - i) * 2 ^ 50 / suc (fine_load p)) same_mode
      ∙ ap (λ f. low_downward q i * (mode q - i) * 2 ^ 50 / suc f) same_fine

  same_high_upward : (i : ℕ) → high_upward p i ≡ high_upward q i
  same_high_upward zero = refl
  same_high_upward (suc i) =
      ap (λ w. div_ceil (w * suc (fine_load p)) (2 ^ 50 * suc (mode p + i))) (same_high_upward i)
      ∙ ap (λ f. div_ceil (high_upward q i * suc f) (2 ^ 50 * suc (mode p + i))) same_fine
      ∙ ap (λ m. div_ceil (high_upward q i * suc (fine_load q)) (2 ^ 50 * suc (m + i))) same_mode

  same_high_downward : (i : ℕ) → high_downward p i ≡ high_downward q i
  same_high_downward zero = refl
  same_high_downward (suc i) =
      ap (λ w. div_ceil (w * (mode p - i) * 2 ^ 50) (fine_load p)) (same_high_downward i)
      ∙ ap (λ m. div_ceil (high_downward q i * (m - i) * 2 ^ 50) (fine_load p)) same_mode
      ∙ ap (λ f. div_ceil (high_downward q i * (mode q - i) * 2 ^ 50) f) same_fine

  pub same_low : (k : ℕ) → low_weight p k ≡ low_weight q k
  same_low k =
      ap (λ m. if nat_lt k m then low_downward p (m - k) else low_upward p (k - m)) same_mode
      ∙ ap (λ d. if nat_lt k (mode q) then d else low_upward p (k - mode q)) (same_low_downward (mode q - k))
      ∙ ap (λ u. if nat_lt k (mode q) then low_downward q (mode q - k) else u) (same_low_upward (k - mode q))

  pub same_high : (k : ℕ) → high_weight p k ≡ high_weight q k
  same_high k =
      ap (λ m. if nat_lt k m then high_downward p (m - k) else high_upward p (k - m)) same_mode
      ∙ ap (λ d. if nat_lt k (mode q) then d else high_upward p (k - mode q)) (same_high_downward (mode q - k))
      ∙ ap (λ u. if nat_lt k (mode q) then high_downward q (mode q - k) else u) (same_high_upward (k - mode q))

  -- what fits the one fits the other
  pub same_fit : (last : ℕ) (weights : WeightLists) (bits : ℕ) → FitsPoisson p last weights bits → FitsPoisson q last weights bits
  same_fit last weights bits fits = record {
    positive = other;
    weights_of = record {
      low = λ k l. fits.weights_of.low k l ∙ same_low k;
      high = λ k l. fits.weights_of.high k l ∙ same_high k;
    };
    last_layer = fits.last_layer ∙ same_horizon bits;
  }
