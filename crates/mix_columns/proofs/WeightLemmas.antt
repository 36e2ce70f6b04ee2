-- Bounds of sums of weighted words, and the divisors of a sound plan.
use Rattle.std.proofs.Common.{◌≡◌, ℕ, zero, suc, ◌+◌, ◌*◌, ◌/◌, ◌^◌, ◌≤◌, ◌<◌, refl, ap, arith}
use Rattle.std.proofs.Math.Decide.{dec_le}
use Rattle.std.proofs.Math.Nat.{mul-le-mul_left}
use Rattle.std.proofs.lemmas.Nat.{le-div, mul-le}
use Rattle.std.specs.Int.{div_ceil}
use Rattle.std.specs.Prelude.{slice_index}
use Rattle.ctmc_semantics.specs.RoundedTables.{one_word}
use Rattle.ctmc_semantics.specs.Sum.{sum_below}
use Rattle.ctmc_semantics.proofs.MixNarrow.{sum_capped, sum_below_whole, cap_whole}
use Rattle.ctmc_semantics.proofs.OneStep.{le_ceil, ceil_le}
use Rattle.ctmc_semantics.proofs.Sums.{sum_below-same, term_le}
use Rattle.step_core.specs.SoundPlan.{AreSoundWeights}
use Rattle.step_core.specs.WeightLists.{WeightLists}

-- ---- a product of two words, in units of 2^14
pub floor_le : (w x : ℕ) → w ≤ 2 ^ 62 → x ≤ 2 ^ 62 → w * x / 2 ^ 14 ≤ 2 ^ 110
floor_le w x h k = omega (arith, mul-le w x (2 ^ 62) (2 ^ 62) h k)

pub ceil_whole : (w x : ℕ) → x ≤ 2 ^ 62 → div_ceil (w * x) (2 ^ 14) ≤ 2 ^ 48 * w
ceil_whole w x h = ceil_le (w * x) (2 ^ 14) (2 ^ 48 * w) (omega arith) (omega (arith, mul-le-mul_left w h))

-- a weight times 1 has no rest
pub ceil_one : (w : ℕ) → div_ceil (w * 2 ^ 62) (2 ^ 14) ≡ 2 ^ 48 * w
ceil_one w =
    let up : w * 2 ^ 62 ≤ div_ceil (w * 2 ^ 62) (2 ^ 14) * 2 ^ 14 = le_ceil (w * 2 ^ 62) (2 ^ 14) (omega arith) in
    omega (arith, up, ceil_whole w (2 ^ 62) (omega arith))

-- ---- sums whose later terms are known
-- from place n on the terms of f are c times those of h, and before it they are those of g
pub sum_filled : (m n c : ℕ) (f g h : ℕ → ℕ) → n ≤ m → ((k : ℕ) → k < n → f k ≡ g k) → ((k : ℕ) → n ≤ k → f k ≡ c * h k)
    → sum_below m f + c * sum_below n h ≡ sum_below n g + c * sum_below m h
sum_filled zero n c f g h l i j = let e : n ≡ 0 = omega arith in rw e (omega arith)
sum_filled (suc m) n c f g h l i j =
    elim (dec_le n m) [
      | yes o ↦ omega (arith, sum_filled m n c f g h o i j, j m o)
      | no o ↦ (
          let e : n ≡ suc m = omega arith in
          let same = sum_below-same n f g i in
          omega (arith, rw e at same, ap (λ z. c * sum_below z h) e, ap (λ z. sum_below z g) e)
          )
    ]

-- the terms of f are 0 from place n on
pub sum_cut : (m n : ℕ) (f : ℕ → ℕ) → n ≤ m → ((k : ℕ) → n ≤ k → f k ≡ 0) → sum_below m f ≡ sum_below n f
sum_cut m n f l j = omega (arith, sum_filled m n 0 f f f l (λ k i. refl) (λ k i. omega (arith, j k i)))

-- ---- the sums of sound weights
module _ (last : ℕ) (weights : WeightLists) (sound : AreSoundWeights last weights) where
  abbrev low : ℕ → ℕ
  low = slice_index weights.low

  abbrev high : ℕ → ℕ
  high = slice_index weights.high

  pub low_at_most_one : (k : ℕ) → k ≤ last → low k ≤ 2 ^ 62
  low_at_most_one k l = omega (arith, sound.ordered k l, sound.at_most_one k l)

  pub low_some : one_word ≤ sum_below (suc last) low
  low_some = omega (arith, term_le (suc last) sound.mode low (omega (arith, sound.mode_layer)), sound.mode_low)

  pub high_some : one_word ≤ sum_below (suc last) high
  high_some = omega (arith, term_le (suc last) sound.mode high (omega (arith, sound.mode_layer)), sound.mode_high)

  pub floor_positive : 0 < sum_below (suc last) low / 2 ^ 14
  floor_positive = omega (arith, le-div 1 (sum_below (suc last) low) (2 ^ 14) (omega arith) (omega (arith, low_some)))

  pub ceil_positive : 0 < div_ceil (sum_below (suc last) high) (2 ^ 14)
  ceil_positive = omega (arith, le_ceil (sum_below (suc last) high) (2 ^ 14) (omega arith), high_some)

  -- the average of words by the low weights over the high ones is at most 1
  pub lower_le : (x : ℕ → ℕ) → ((k : ℕ) → k ≤ last → x k ≤ 2 ^ 62)
      → sum_below (suc last) (λ k. low k * x k / 2 ^ 14) / div_ceil (sum_below (suc last) high) (2 ^ 14) ≤ 2 ^ 62
  lower_le x h =
      cap_whole (2 ^ 62) (2 ^ 14) _ (div_ceil (sum_below (suc last) high) (2 ^ 14)) (sum_below (suc last) (λ k. low k * x k))
      (sum_below (suc last) high)
      (omega arith) ceil_positive
      (sum_below_whole (suc last) (2 ^ 14) (λ k. low k * x k))
      (sum_capped (suc last) (2 ^ 62) low high x (λ k l. sound.ordered k (omega arith)) (λ k l. h k (omega arith)))
      (le_ceil (sum_below (suc last) high) (2 ^ 14) (omega arith))

  pub floors_le : (n : ℕ) (x : ℕ → ℕ) → n ≤ suc last → ((k : ℕ) → x k ≤ 2 ^ 62)
      → sum_below n (λ k. low k * x k / 2 ^ 14) ≤ n * 2 ^ 110
  floors_le zero x l h = omega arith
  floors_le (suc n) x l h =
      omega (arith, floors_le n x (omega arith) h, floor_le (low n) (x n) (low_at_most_one n (omega arith)) (h n))

  pub weights_le : (n : ℕ) → n ≤ suc last → sum_below n high ≤ n * 2 ^ 62
  weights_le zero l = omega arith
  weights_le (suc n) l = omega (arith, weights_le n (omega arith), sound.at_most_one n (omega arith))

  pub ceils_le : (n : ℕ) (y : ℕ → ℕ) → ((k : ℕ) → k < n → y k ≤ 2 ^ 62)
      → sum_below n (λ k. div_ceil (high k * y k) (2 ^ 14)) ≤ 2 ^ 48 * sum_below n high
  ceils_le zero y h = omega arith
  ceils_le (suc n) y h =
      omega (arith, ceils_le n y (λ k l. h k (omega arith)), ceil_whole (high n) (y n) (h n (omega arith)))
