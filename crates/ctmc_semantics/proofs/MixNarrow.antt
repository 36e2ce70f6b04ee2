-- The mix never falls when a word rises, and its two ends are near each other.
use Rattle.std.proofs.Common.{◌≡◌, ℕ, zero, suc, ◌+◌, ◌-◌, ◌*◌, ◌/◌, ◌^◌, ◌≤◌, ◌<◌, min, ap, ◌∙◌, arith}
use Rattle.std.proofs.Math.Nat.{mul-le-mul_left, mul-le-mul_right, div-mul-le_self, lt-div-mul-add, le_of_mul-le-mul_right, mul-pos}
use Rattle.std.proofs.lemmas.Nat.{le-div, mul-le}
use Rattle.std.proofs.lemmas.Grind.{div_ceil_times}
use Rattle.std.specs.Int.{div_ceil}
use Rattle.ctmc_semantics.specs.Sum.{sum_below}
use Rattle.ctmc_semantics.specs.Fraction.{Fraction}
use Rattle.ctmc_semantics.specs.RoundedTables.{one_word}
use Rattle.ctmc_semantics.specs.Weights.{low_weight, high_weight}
use Rattle.ctmc_semantics.specs.Horizon.{horizon}
use Rattle.ctmc_semantics.specs.Mix.{mix_low, mix_high}
use Rattle.ctmc_semantics.proofs.Sums.{sum_below-le, sum_below-same}
use Rattle.ctmc_semantics.proofs.OneStep.{le_ceil, ceil_le}
use Rattle.ctmc_semantics.proofs.WeightsNear.{ordered, near}
use Rattle.ctmc_semantics.proofs.MixBounds.{mode_in, sum_one}

-- ---- quotients never fall
div_rises : (x y d : ℕ) → 0 < d → x ≤ y → x / d ≤ y / d
div_rises x y d pos h = le-div (x / d) y d pos (omega (arith, div-mul-le_self x d))

ceil_rises : (x y d : ℕ) → 0 < d → x ≤ y → div_ceil x d ≤ div_ceil y d
ceil_rises x y d pos h = ceil_le x d (div_ceil y d) pos (omega (arith, le_ceil y d pos))

pub mix_low_rises : (n : ℕ) (low high x y : ℕ → ℕ) → one_word ≤ sum_below (suc n) high → ((k : ℕ) → k ≤ n → x k ≤ y k)
    → mix_low n low high x ≤ mix_low n low high y
mix_low_rises n low high x y some h =
    let divisor : 0 < div_ceil (sum_below (suc n) high) (2 ^ 14) =
    omega (arith, le_ceil (sum_below (suc n) high) (2 ^ 14) (omega arith)) in
    div_rises _ _ (div_ceil (sum_below (suc n) high) (2 ^ 14)) divisor
    (sum_below-le (suc n) (λ k. low k * x k / 2 ^ 14) (λ k. low k * y k / 2 ^ 14)
    (λ k l. div_rises (low k * x k) (low k * y k) (2 ^ 14) (omega arith) (mul-le-mul_left (low k) (h k (omega arith)))))

pub mix_high_rises : (n bits : ℕ) (low high x y : ℕ → ℕ) → one_word ≤ sum_below (suc n) low → ((k : ℕ) → k ≤ n → x k ≤ y k)
    → mix_high n bits low high x ≤ mix_high n bits low high y
mix_high_rises n bits low high x y some h =
    let divisor : 1 ≤ sum_below (suc n) low / 2 ^ 14 = le-div 1 (sum_below (suc n) low) (2 ^ 14) (omega arith) (omega (arith, some)) in
    let inner : div_ceil (sum_below (suc n) (λ k. div_ceil (high k * x k) (2 ^ 14))) (sum_below (suc n) low / 2 ^ 14)
    ≤ div_ceil (sum_below (suc n) (λ k. div_ceil (high k * y k) (2 ^ 14))) (sum_below (suc n) low / 2 ^ 14) =
    ceil_rises _ _ (sum_below (suc n) low / 2 ^ 14) divisor
    (sum_below-le (suc n) (λ k. div_ceil (high k * x k) (2 ^ 14)) (λ k. div_ceil (high k * y k) (2 ^ 14))
    (λ k l. ceil_rises (high k * x k) (high k * y k) (2 ^ 14) (omega arith) (mul-le-mul_left (high k) (h k (omega arith))))) in
    omega (arith, inner)

-- ---- the width, over plain numbers: x and y the two quotients, over dl and dh; e what the weights lack, over all layers
narrow : (one g e n x y nh nl dh dl p sh : ℕ) → 0 < dl * g → x * dl ≤ nh + dl → nl ≤ y * dh + dh
    → nh * g ≤ p + suc n * g + e * one + 2 * n * sh → p ≤ nl * g + suc n * g
    → dh * g ≤ dl * g + 2 * g + e → y ≤ one → one ≤ dl * g → sh ≤ dl * g + g + e
    → 2 * g + e + 2 * (suc n * g) + 2 * n * (g + e) ≤ 6 * one
    → x ≤ y + (2 * e + 2 * g + 2 * n + 8)
narrow one g e n x y nh nl dh dl p sh pos a b c d f cap some h small =
    le_of_mul-le-mul_right {k = dl * g}
    (omega (
      arith,
      mul-le-mul_right g a,
      mul-le-mul_right g b,
      c,
      d,
      f,
      mul-le-mul_left y f,
      mul-le-mul_right (2 * g + e) cap,
      mul-le-mul_left (2 * g + 2 * e) some,
      mul-le-mul_left (2 * n) h,
      some,
      small,
    ))
    pos

pub cap_whole : (one g nl dh p sh : ℕ) → 0 < g → 0 < dh → nl * g ≤ p → p ≤ one * sh → sh ≤ dh * g → nl / dh ≤ one
cap_whole one g nl dh p sh pg pd x y z =
    le_of_mul-le-mul_right {k = dh * g}
    (omega (arith, mul-le-mul_right g (div-mul-le_self nl dh), x, y, mul-le-mul_left one z)) (mul-pos pd pg)

-- ---- sums
term_high : (g d one two l h a b : ℕ) → 0 < g → h ≤ l + d → a ≤ one → b ≤ a + two
    → div_ceil (h * b) g * g ≤ l * a + (d * one + g) + two * h
term_high g d one two l h a b pos i j k =
    let up : div_ceil (h * b) g * g < h * b + g = (div_ceil_times (h * b) g pos).1 in
    omega (arith, up, mul-le-mul_left h k, mul-le-mul_right a i, mul-le-mul_left d j)

sum_high : (n g d one two : ℕ) (l h a b : ℕ → ℕ) → 0 < g → ((k : ℕ) → k < n → h k ≤ l k + d) → ((k : ℕ) → k < n → a k ≤ one)
    → ((k : ℕ) → k < n → b k ≤ a k + two)
    → sum_below n (λ k. div_ceil (h k * b k) g) * g ≤ sum_below n (λ k. l k * a k) + n * (d * one + g) + two * sum_below n h
sum_high zero g d one two l h a b pos i j k = omega arith
sum_high (suc n) g d one two l h a b pos i j k =
    omega (
      arith,
      sum_high n g d one two l h a b pos (λ t s. i t (omega arith)) (λ t s. j t (omega arith)) (λ t s. k t (omega arith)),
      term_high g d one two (l n) (h n) (a n) (b n) pos (i n (omega arith)) (j n (omega arith)) (k n (omega arith)),
    )

sum_low : (n g : ℕ) (f : ℕ → ℕ) → 0 < g → sum_below n f ≤ sum_below n (λ k. f k / g) * g + n * g
sum_low zero g f pos = omega arith
sum_low (suc n) g f pos = let down : f n < f n / g * g + g = lt-div-mul-add pos in omega (arith, sum_low n g f pos, down)

pub sum_below_whole : (n g : ℕ) (f : ℕ → ℕ) → sum_below n (λ k. f k / g) * g ≤ sum_below n f
sum_below_whole zero g f = omega arith
sum_below_whole (suc n) g f = omega (arith, sum_below_whole n g f, div-mul-le_self (f n) g)

sum_near : (n d : ℕ) (l h : ℕ → ℕ) → ((k : ℕ) → k < n → h k ≤ l k + d) → sum_below n h ≤ sum_below n l + n * d
sum_near zero d l h i = omega arith
sum_near (suc n) d l h i = omega (arith, sum_near n d l h (λ t s. i t (omega arith)), i n (omega arith))

pub sum_capped : (n one : ℕ) (l h a : ℕ → ℕ) → ((k : ℕ) → k < n → l k ≤ h k) → ((k : ℕ) → k < n → a k ≤ one)
    → sum_below n (λ k. l k * a k) ≤ one * sum_below n h
sum_capped zero one l h a i j = omega arith
sum_capped (suc n) one l h a i j =
    omega (
      arith,
      sum_capped n one l h a (λ t s. i t (omega arith)) (λ t s. j t (omega arith)),
      mul-le-mul_left (l n) (j n (omega arith)),
      mul-le-mul_left one (i n (omega arith)),
    )

small_enough : (n bits : ℕ) → n ≤ 16384 → bits ≤ 48
    → let e = suc n * (2 ^ 12 * (bits + 2) + 2 * n) in 2 * 2 ^ 14 + e + 2 * (suc n * 2 ^ 14) + 2 * n * (2 ^ 14 + e) ≤ 6 * one_word
small_enough n bits h k =
    let e : ℕ = suc n * (2 ^ 12 * (bits + 2) + 2 * n) in
    let first : suc n * (2 ^ 12 * (bits + 2) + 2 * n) ≤ 16385 * 237568 =
    mul-le (suc n) (2 ^ 12 * (bits + 2) + 2 * n) 16385 237568 (omega arith) (omega arith) in
    let second : 2 * n * (2 ^ 14 + suc n * (2 ^ 12 * (bits + 2) + 2 * n)) ≤ 32768 * (16384 + 16385 * 237568) =
    mul-le (2 * n) (2 ^ 14 + suc n * (2 ^ 12 * (bits + 2) + 2 * n)) 32768 (16384 + 16385 * 237568) (omega arith) (omega (arith, first)) in
    last n (suc n * (2 ^ 12 * (bits + 2) + 2 * n)) h first second
  where
    last : (n e : ℕ) → n ≤ 16384 → e ≤ 16385 * 237568 → 2 * n * (2 ^ 14 + e) ≤ 32768 * (16384 + 16385 * 237568)
        → 2 * 2 ^ 14 + e + 2 * (suc n * 2 ^ 14) + 2 * n * (2 ^ 14 + e) ≤ 6 * one_word
    last n e h f s = omega (arith, f, s)

module _ (load : Fraction) (pos : 0 < load.den) (bits : ℕ) (few : bits ≤ 48) (short : horizon load bits ≤ 16384) (a b : ℕ → ℕ) where
  abbrev n : ℕ
  n = horizon load bits

  abbrev l : ℕ → ℕ
  l = low_weight load

  abbrev h : ℕ → ℕ
  h = high_weight load

  abbrev d : ℕ
  d = 2 ^ 12 * (bits + 2) + 2 * n

  abbrev g : ℕ
  g = 2 ^ 14

  module _ (capped_word : (k : ℕ) → k ≤ n → a k ≤ one_word) (near_word : (k : ℕ) → k ≤ n → b k ≤ a k + 2 * n) where
    near_here : (k : ℕ) → k < suc n → h k ≤ l k + d
    near_here k i = near load pos bits k (mode_in load pos bits) (omega arith)

    sums_near : sum_below (suc n) h ≤ sum_below (suc n) l + suc n * d
    sums_near = sum_near (suc n) d l h near_here

    divisor : 2 ^ 48 ≤ sum_below (suc n) l / g
    divisor = le-div (2 ^ 48) (sum_below (suc n) l) g (omega arith) (omega (arith, sum_one load pos bits))

    low_sum : sum_below (suc n) l ≤ sum_below (suc n) l / g * g + g
    low_sum = let next : sum_below (suc n) l < sum_below (suc n) l / g * g + g = lt-div-mul-add (omega arith) in omega arith

    high_sum : div_ceil (sum_below (suc n) h) g * g ≤ sum_below (suc n) h + g
    high_sum =
        let next : div_ceil (sum_below (suc n) h) g * g < sum_below (suc n) h + g =
        (div_ceil_times (sum_below (suc n) h) g (omega arith)).1 in omega arith

    high_divisor : 0 < div_ceil (sum_below (suc n) h) g
    high_divisor =
        omega (
          arith,
          le_ceil (sum_below (suc n) h) g (omega arith),
          sum_one load pos bits,
          sum_below-le (suc n) l h (λ k i. ordered load pos k),
        )

    abbrev nl : ℕ
    nl = sum_below (suc n) (λ k. l k * a k / g)

    abbrev nh : ℕ
    nh = sum_below (suc n) (λ k. div_ceil (h k * b k) g)

    abbrev dl : ℕ
    dl = sum_below (suc n) l / g

    abbrev dh : ℕ
    dh = div_ceil (sum_below (suc n) h) g

    low_capped : nl / dh ≤ one_word
    low_capped =
        cap_whole one_word g nl dh (sum_below (suc n) (λ k. l k * a k)) (sum_below (suc n) h) (omega arith) high_divisor
        (sum_below_whole (suc n) g (λ k. l k * a k))
        (sum_capped (suc n) one_word l h a (λ k i. ordered load pos k) (λ k i. capped_word k (omega arith)))
        (le_ceil (sum_below (suc n) h) g (omega arith))

    quotients_near : div_ceil nh dl ≤ nl / dh + (2 * (suc n * d) + 2 * g + 2 * n + 8)
    quotients_near =
        let over : div_ceil nh dl * dl < nh + dl = (div_ceil_times nh dl (omega (arith, divisor))).1 in
        let under : nl < nl / dh * dh + dh = lt-div-mul-add high_divisor in
        narrow one_word g (suc n * d) n (div_ceil nh dl) (nl / dh) nh nl dh dl (sum_below (suc n) (λ k. l k * a k)) (sum_below (suc n) h)
        (omega (arith, divisor)) (omega (arith, over)) (omega (arith, under))
        (omega (
          arith,
          sum_high (suc n) g d one_word (2 * n) l h a b (omega arith) near_here (λ k i. capped_word k (omega arith))
              (λ k i. near_word k (omega arith)),
        ))
        (sum_low (suc n) g (λ k. l k * a k) (omega arith))
        (omega (arith, high_sum, sums_near, low_sum)) low_capped (omega (arith, divisor)) (omega (arith, sums_near, low_sum))
        (small_enough n bits short few)

    pub narrow_mix : mix_high n bits l h b ≤ mix_low n l h a + (2 ^ (62 - bits) + (2 * (suc n * d) + 2 ^ 15 + 2 * n + 8))
    narrow_mix = omega (arith, quotients_near)

-- ---- the mix reads no other layer
pub mix_low_reads : (n : ℕ) (low high x low' high' x' : ℕ → ℕ)
    → ((k : ℕ) → k ≤ n → low k ≡ low' k) → ((k : ℕ) → k ≤ n → high k ≡ high' k) → ((k : ℕ) → k ≤ n → x k ≡ x' k)
    → mix_low n low high x ≡ mix_low n low' high' x'
mix_low_reads n low high x low' high' x' e f i =
    let top : sum_below (suc n) (λ k. low k * x k / 2 ^ 14) ≡ sum_below (suc n) (λ k. low' k * x' k / 2 ^ 14) =
    sum_below-same (suc n) (λ k. low k * x k / 2 ^ 14) (λ k. low' k * x' k / 2 ^ 14)
    (λ k l. let here : k ≤ n = omega arith in ap (λ z. z * x k / 2 ^ 14) (e k here) ∙ ap (λ z. low' k * z / 2 ^ 14) (i k here)) in
    let bottom : sum_below (suc n) high ≡ sum_below (suc n) high' = sum_below-same (suc n) high high' (λ k l. f k (omega arith)) in
    rw (top, bottom)

pub mix_high_reads : (n bits : ℕ) (low high x low' high' x' : ℕ → ℕ)
    → ((k : ℕ) → k ≤ n → low k ≡ low' k) → ((k : ℕ) → k ≤ n → high k ≡ high' k) → ((k : ℕ) → k ≤ n → x k ≡ x' k)
    → mix_high n bits low high x ≡ mix_high n bits low' high' x'
mix_high_reads n bits low high x low' high' x' e f i =
    let top : sum_below (suc n) (λ k. div_ceil (high k * x k) (2 ^ 14)) ≡ sum_below (suc n) (λ k. div_ceil (high' k * x' k) (2 ^ 14)) =
    sum_below-same (suc n) (λ k. div_ceil (high k * x k) (2 ^ 14)) (λ k. div_ceil (high' k * x' k) (2 ^ 14))
    (λ k l. let here : k ≤ n = omega arith in ap (λ z. div_ceil (z * x k) (2 ^ 14)) (f k here)
    ∙ ap (λ z. div_ceil (high' k * z) (2 ^ 14)) (i k here)) in
    let bottom : sum_below (suc n) low ≡ sum_below (suc n) low' = sum_below-same (suc n) low low' (λ k l. e k (omega arith)) in
    ap (λ z. min one_word (div_ceil z (sum_below (suc n) low / 2 ^ 14) + 2 ^ (62 - bits))) top
    ∙ ap (λ z. min one_word (div_ceil (sum_below (suc n) (λ k. div_ceil (high' k * x' k) (2 ^ 14))) (z / 2 ^ 14) + 2 ^ (62 - bits))) bottom
