-- The mix against the averages.
use Rattle.std.proofs.Common.{◌≡◌, ℕ, suc, ◌+◌, ◌-◌, ◌*◌, ◌/◌, ◌^◌, ◌≤◌, ◌<◌, min, false, ltb, subst, sym, ap, ◌∙◌, arith}
use Rattle.std.proofs.Math.Nat.{mul-le-mul_left, mul-le-mul_right, div-mul-le_self, le_of_mul-le-mul_right, mul-pos}
use Rattle.std.proofs.Math.Decide.{dec_le}
use Rattle.std.proofs.lemmas.Nat.{pow-add, pow_pos, le-div}
use Rattle.std.proofs.lemmas.Bool.Decides.{nat_tests}
use Rattle.std.specs.Int.{div_ceil}
use Rattle.ctmc_semantics.specs.Sum.{sum_below}
use Rattle.ctmc_semantics.specs.Fraction.{Fraction, fraction, ◌≼◌}
use Rattle.ctmc_semantics.specs.Poisson.{poisson_weight, poisson_average}
use Rattle.ctmc_semantics.specs.RoundedTables.{one_word}
use Rattle.ctmc_semantics.specs.Weights.{mode, low_weight, high_weight}
use Rattle.ctmc_semantics.specs.Horizon.{horizon}
use Rattle.ctmc_semantics.specs.Mix.{mix_low, mix_high}
use Rattle.ctmc_semantics.proofs.Sums.{sum_scaled, sum_scaled', term_le}
use Rattle.ctmc_semantics.proofs.AverageLemmas.{den_positive, at_most_one, later}
use Rattle.ctmc_semantics.proofs.Powers.{power_split}
use Rattle.ctmc_semantics.proofs.Crosswise.{le_trans}
use Rattle.ctmc_semantics.proofs.HorizonLemmas.{average_tail}
use Rattle.ctmc_semantics.proofs.WeightSides.{low_weight_below, high_weight_above}
use Rattle.ctmc_semantics.proofs.OneStep.{le_ceil, twice_load}

-- ---- over plain numbers: m the mode's weight, p the power of the total, t and s the average's two sums
-- one term: x the rounded weight, y the word, w the exact weight, v the value, q q' the powers with p = q * q'
term_low : (one g m x y w v p q q' : ℕ) → p ≡ q * q' → x * m ≤ one * w → y * q ≤ one * v
    → x * y / g * (g * m * p) ≤ one * one * (w * v * q')
term_low one g m x y w v p q q' e h k =
    rw e (omega (
      arith,
      mul-le-mul_right (m * q * q') (div-mul-le_self (x * y) g),
      mul-le-mul_right (y * q * q') h,
      mul-le-mul_left (one * w * q') k,
    ))

term_high : (one g m x y w v p q q' : ℕ) → p ≡ q * q' → 0 < g → one * w ≤ x * m → one * v ≤ y * q
    → one * one * (w * v * q') ≤ div_ceil (x * y) g * (g * m * p)
term_high one g m x y w v p q q' e pos h k =
    rw e (omega (
      arith,
      mul-le-mul_right (m * q * q') (le_ceil (x * y) g pos),
      mul-le-mul_right (one * v * q') h,
      mul-le-mul_left (x * m * q') k,
    ))

-- the whole: top the mix's sum, dh and dl its divisors, h and l the sums of the weights
whole_low : (one g m p top d h s t : ℕ) → 0 < one → top * (g * m * p) ≤ one * one * t → h ≤ d * g → one * s ≤ h * m
    → top / d * (p * s) ≤ t * one
whole_low one g m p top d h s t pos a b c =
    le_of_mul-le-mul_right {k = one}
    (omega (
      arith,
      a,
      mul-le-mul_right (g * m * p) (div-mul-le_self top d),
      mul-le-mul_left (top / d * m * p) b,
      mul-le-mul_left (top / d * p) c,
    ))
    pos

whole_high : (one g m p top d l s t : ℕ) → 0 < one → 0 < d → one * one * t ≤ top * (g * m * p) → d * g ≤ l → l * m ≤ one * s
    → t * one ≤ div_ceil top d * (p * s)
whole_high one g m p top d l s t pos pd a b c =
    le_of_mul-le-mul_right {k = one}
    (omega (
      arith,
      a,
      mul-le-mul_right (g * m * p) (le_ceil top d pd),
      mul-le-mul_left (div_ceil top d * m * p) b,
      mul-le-mul_left (div_ceil top d * p) c,
    ))
    pos

-- the tail: num / den the average at the horizon, two the power of the bits, unit * two = one
with_tail : (one unit two c num den top bottom : ℕ) → 0 < den → 0 < two → unit * two ≡ one → num * one ≤ c * den
    → top * (den * two) ≤ (num * two + den) * bottom → top * one ≤ (c + unit) * bottom
with_tail one unit two c num den top bottom pd pt e h k =
    le_of_mul-le-mul_right {k = den * two}
    (omega (arith, mul-le-mul_right one k, mul-le-mul_right (two * bottom) h, ap (λ z. den * bottom * z) e))
    (mul-pos pd pt)

under_both : (t x y d : ℕ) → t ≤ x * d → t ≤ y * d → t ≤ min x y * d
under_both t x y d h k =
    elim (dec_le x y) [
      | yes i ↦ (let e : min x y ≡ x = omega arith in rw e h)
      | no g ↦ (let e : min x y ≡ y = omega arith in rw e k)
    ]

-- ---- the mix at the layers 0 to n, by any weights that lie on their sides of the exact ones
module _ (load : Fraction) (total n : ℕ) (value low high : ℕ → ℕ) (m : ℕ) where
  abbrev w : ℕ → ℕ
  w = poisson_weight load.num load.den n

  abbrev here : Fraction
  here = poisson_average load total value n

  abbrev term : ℕ → ℕ
  term k = w k * value k * total ^ (n - k)

  mix_low_below : (x : ℕ → ℕ) → ((k : ℕ) → k ≤ n → low k * m ≤ one_word * w k) → ((k : ℕ) → k ≤ n → one_word * w k ≤ high k * m)
      → ((k : ℕ) → k ≤ n → x k * total ^ k ≤ one_word * value k)
      → fraction (mix_low n low high x) one_word ≼ here
  mix_low_below x l h v =
      whole_low one_word (2 ^ 14) m (total ^ n) _ _ (sum_below (suc n) high) (sum_below (suc n) w) here.num (omega arith)
      (sum_scaled (suc n) (2 ^ 14 * m * total ^ n) (one_word * one_word) (λ k. low k * x k / 2 ^ 14) term
      (λ k i. term_low one_word (2 ^ 14) m (low k) (x k) (w k) (value k) (total ^ n) (total ^ k) (total ^ (n - k))
      (power_split total k n (omega arith)) (l k (omega arith)) (v k (omega arith))))
      (le_ceil (sum_below (suc n) high) (2 ^ 14) (omega arith))
      (sum_scaled' (suc n) m one_word high w (λ k i. h k (omega arith)))

  mix_high_above : (x : ℕ → ℕ) → ((k : ℕ) → k ≤ n → low k * m ≤ one_word * w k) → ((k : ℕ) → k ≤ n → one_word * w k ≤ high k * m)
      → ((k : ℕ) → k ≤ n → one_word * value k ≤ x k * total ^ k) → one_word ≤ sum_below (suc n) low
      → here.num * one_word
      ≤ div_ceil (sum_below (suc n) (λ k. div_ceil (high k * x k) (2 ^ 14))) (sum_below (suc n) low / 2 ^ 14) * here.den
  mix_high_above x l h v some =
      let divisor : 1 ≤ sum_below (suc n) low / 2 ^ 14 = le-div 1 (sum_below (suc n) low) (2 ^ 14) (omega arith) (omega (arith, some)) in
      whole_high one_word (2 ^ 14) m (total ^ n) _ _ (sum_below (suc n) low) (sum_below (suc n) w) here.num (omega arith) divisor
      (sum_scaled' (suc n) (2 ^ 14 * m * total ^ n) (one_word * one_word) (λ k. div_ceil (high k * x k) (2 ^ 14)) term
      (λ k i. term_high one_word (2 ^ 14) m (high k) (x k) (w k) (value k) (total ^ n) (total ^ k) (total ^ (n - k))
      (power_split total k n (omega arith)) (omega arith) (h k (omega arith)) (v k (omega arith))))
      (div-mul-le_self (sum_below (suc n) low) (2 ^ 14))
      (sum_scaled (suc n) m one_word low w (λ k i. l k (omega arith)))

pub mode_one : (load : Fraction) → (low_weight load (mode load) ≡ one_word) × (high_weight load (mode load) ≡ one_word)
mode_one load =
    let t : ltb (mode load) (mode load) ≡ false = grind (arith, nat_tests) in
    let z : mode load - mode load ≡ 0 = omega arith in
    (rw (t, z), rw (t, z))

-- ---- the load's own weights, at its horizon
module _ (load : Fraction) (pos : 0 < load.den) (bits : ℕ) where
  abbrev last : ℕ
  last = horizon load bits

  pub mode_in : mode load ≤ last
  mode_in =
      let inner : mode load ≤ div_ceil (2 * load.num) load.den =
      le_of_mul-le-mul_right {k = load.den} (omega (arith, twice_load load pos, div-mul-le_self load.num load.den)) pos in
      omega arith

  pub sum_one : one_word ≤ sum_below (suc last) (low_weight load)
  sum_one = omega (arith, term_le (suc last) (mode load) (low_weight load) (omega (arith, mode_in)), (mode_one load).0)

  unit_times : bits ≤ 62 → 2 ^ (62 - bits) * 2 ^ bits ≡ one_word
  unit_times h = let e : 62 - bits + bits ≡ 62 = omega arith in sym (pow-add 2 (62 - bits) bits) ∙ ap (λ z. 2 ^ z) e

  module _ (total : ℕ) (value : ℕ → ℕ) (some : 0 < total) where
    pub low_end : (n : ℕ) (x : ℕ → ℕ) → last ≤ n → ((k : ℕ) → total * value k ≤ value (suc k))
        → ((k : ℕ) → k ≤ last → x k * total ^ k ≤ one_word * value k)
        → fraction (mix_low last (low_weight load) (high_weight load) x) one_word ≼ poisson_average load total value n
    low_end n x l rises v =
        let e : last + (n - last) ≡ n = omega arith in
        subst (λ (z : ℕ). fraction (mix_low last (low_weight load) (high_weight load) x) one_word ≼ poisson_average load total value z) e
        (le_trans _ one_word (poisson_average load total value last).num (poisson_average load total value last).den _ _
        (den_positive load total value pos some last)
        (mix_low_below load total last value (low_weight load) (high_weight load) (poisson_weight load.num load.den last (mode load)) x
        (λ k i. low_weight_below load pos last k i mode_in) (λ k i. high_weight_above load pos last k i mode_in) v)
        (later load total value pos some rises last (n - last)))

    pub high_end : (n : ℕ) (x : ℕ → ℕ) → last ≤ n → bits ≤ 62 → ((k : ℕ) → value k ≤ total ^ k)
        → ((k : ℕ) → k ≤ last → one_word * value k ≤ x k * total ^ k)
        → poisson_average load total value n ≼ fraction (mix_high last bits (low_weight load) (high_weight load) x) one_word
    high_end n x l b capped v =
        let e : last + (n - last) ≡ n = omega arith in
        under_both ((poisson_average load total value n).num * one_word) one_word _ (poisson_average load total value n).den
        (omega (arith, at_most_one load total value capped n))
        (subst
        (λ (z : ℕ). (poisson_average load total value z).num * one_word
        ≤
        (div_ceil (sum_below (suc last) (λ k. div_ceil (high_weight load k * x k) (2 ^ 14)))
        (sum_below (suc last) (low_weight load) / 2 ^ 14) + 2 ^ (62 - bits)) * (poisson_average load total value z).den) e
        (with_tail one_word (2 ^ (62 - bits)) (2 ^ bits) _ (poisson_average load total value last).num
        (poisson_average load total value last).den _ _
        (den_positive load total value pos some last) (pow_pos bits) (unit_times b)
        (mix_high_above load total last value (low_weight load) (high_weight load) (poisson_weight load.num load.den last (mode load)) x
        (λ k i. low_weight_below load pos last k i mode_in) (λ k i. high_weight_above load pos last k i mode_in) v sum_one)
        (average_tail load.num load.den total value capped (div_ceil (2 * load.num) load.den) bits (n - last) pos (twice_load load pos))))
