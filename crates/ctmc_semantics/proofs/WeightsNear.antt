-- The two lists of rounded weights: in order, at most 1, and near each other.
use Rattle.std.proofs.Common.{◌≡◌, ℕ, zero, suc, ◌+◌, ◌-◌, ◌*◌, ◌/◌, ◌^◌, ◌≤◌, ◌<◌, true, false, ltb, ap, arith}
use Rattle.std.proofs.Math.Nat.{mul-le-mul_left, mul-le-mul_right, div-mul-le_self, lt-div-mul-add, le_of_mul-le-mul_right}
use Rattle.std.proofs.Math.Nat.{le_of_mul-le-mul_left, mul_assoc}
use Rattle.std.proofs.Math.Decide.{dec_le}
use Rattle.std.proofs.lemmas.Bool.Decides.{nat_tests}
use Rattle.std.proofs.lemmas.Grind.{div_ceil_times}
use Rattle.std.specs.Int.{div_ceil}
use Rattle.ctmc_semantics.specs.Fraction.{Fraction}
use Rattle.ctmc_semantics.specs.RoundedTables.{one_word}
use Rattle.ctmc_semantics.specs.Weights.{mode, fine_load, low_upward, low_downward, low_weight, high_upward, high_downward, high_weight}
use Rattle.ctmc_semantics.specs.Horizon.{horizon}
use Rattle.ctmc_semantics.proofs.OneStep.{le_ceil, ceil_le}
use Rattle.ctmc_semantics.proofs.FineLoad.{fine_large, fine_small}

-- ---- one step, over plain numbers: s the divisor, p the load's words, x and y the low and the high weight
low_under_high : (s x y p q : ℕ) → 0 < s → x ≤ y → p ≤ q → x * p / s ≤ div_ceil (y * q) s
low_under_high s x y p q pos h k =
    le_of_mul-le-mul_right {k = s}
    (omega (arith, div-mul-le_self (x * p) s, le_ceil (y * q) s pos, mul-le-mul_right p h, mul-le-mul_left y k)) pos

low_under_high' : (s x y p q : ℕ) → 0 < p → x ≤ y → p ≤ q → x * s / q ≤ div_ceil (y * s) p
low_under_high' s x y p q pos h k =
    le_of_mul-le-mul_right {k = q}
    (omega (
      arith,
      div-mul-le_self (x * s) q,
      le_ceil (y * s) p pos,
      mul-le-mul_right s h,
      mul-le-mul_left (div_ceil (y * s) p) k,
    )) (omega arith)

high_capped : (one s q y : ℕ) → 0 < s → y ≤ one → q ≤ s → div_ceil (y * q) s ≤ one
high_capped one s q y pos h k =
    ceil_le (y * q) s one pos (omega (arith, mul-le-mul_right q h, mul-le-mul_left one k))

-- upward, g = one / e the grid, n the mode and 1, c = e + 2 n
near_up : (g e one n s p x y i : ℕ) → 0 < s → one ≡ e * g → n * g ≤ s → p ≤ s → y ≤ one → n * y ≤ n * x + i * (e + 2 * n)
    → n * div_ceil (y * suc p) s ≤ n * (x * p / s) + suc i * (e + 2 * n)
near_up g e one n s p x y i pos grid large small cap h =
    let up : div_ceil (y * suc p) s * s < y * suc p + s = (div_ceil_times (y * suc p) s pos).1 in
    let up' : div_ceil (y * suc p) s * s ≤ y * suc p + s = omega arith in
    let down : x * p < x * p / s * s + s = lt-div-mul-add pos in
    let down' : x * p ≤ x * p / s * s + s = omega arith in
    le_of_mul-le-mul_right {k = s}
    (omega (
      arith,
      mul-le-mul_left n up',
      mul-le-mul_left n down',
      mul-le-mul_right p h,
      mul-le-mul_left (i * (e + 2 * n)) small,
      mul-le-mul_left n cap,
      mul-le-mul_left e large,
      ap (λ z. n * z) grid,
    ))
    pos

-- downward, c = one + 2 (p + 1)
near_down : (one s p x y i : ℕ) → 0 < p → s ≤ p → x ≤ one → suc p * y ≤ suc p * x + i * (one + 2 * suc p)
    → suc p * div_ceil (y * s) p ≤ suc p * (x * s / suc p) + suc i * (one + 2 * suc p)
near_down one s p x y i pos small cap h =
    let up : div_ceil (y * s) p * p < y * s + p = (div_ceil_times (y * s) p pos).1 in
    let up' : div_ceil (y * s) p * p ≤ y * s + p = omega arith in
    let down : x * s < x * s / suc p * suc p + suc p = lt-div-mul-add (omega arith) in
    let down' : x * s ≤ x * s / suc p * suc p + suc p = omega arith in
    le_of_mul-le-mul_right {k = p}
    (omega (
      arith,
      mul-le-mul_left (suc p) up',
      mul-le-mul_left p down',
      mul-le-mul_right s h,
      mul-le-mul_left (i * (one + 2 * suc p)) small,
      mul-le-mul_left s cap,
      mul-le-mul_left one small,
    ))
    pos

module _ (load : Fraction) (pos : 0 < load.den) where
  abbrev m : ℕ
  m = mode load

  abbrev p : ℕ
  p = fine_load load

  small : (i : ℕ) → suc p ≤ 2 ^ 50 * suc (m + i)
  small i = omega (arith, fine_small load pos)

  large : (i : ℕ) → (m - i) * 2 ^ 50 ≤ p
  large i = omega (arith, fine_large load pos)

  some : 0 < m → 0 < p
  some h = omega (arith, fine_large load pos)

  upward_ordered : (i : ℕ) → low_upward load i ≤ high_upward load i
  upward_ordered zero = omega arith
  upward_ordered (suc i) =
      low_under_high (2 ^ 50 * suc (m + i)) (low_upward load i) (high_upward load i) p (suc p) (omega arith) (upward_ordered i)
      (omega arith)

  upward_capped : (i : ℕ) → high_upward load i ≤ one_word
  upward_capped zero = omega arith
  upward_capped (suc i) =
      high_capped one_word (2 ^ 50 * suc (m + i)) (suc p) (high_upward load i) (omega arith) (upward_capped i) (small i)

  upward_near : (i : ℕ) → suc m * high_upward load i ≤ suc m * low_upward load i + i * (2 ^ 12 + 2 * suc m)
  upward_near zero = omega arith
  upward_near (suc i) =
      near_up (2 ^ 50) (2 ^ 12) one_word (suc m) (2 ^ 50 * suc (m + i)) p (low_upward load i) (high_upward load i) i (omega arith)
      (omega arith) (omega arith)
      (omega (arith, small i)) (upward_capped i) (upward_near i)

  downward_ordered : (i : ℕ) → i ≤ m → low_downward load i ≤ high_downward load i
  downward_ordered zero l = omega arith
  downward_ordered (suc i) l =
      grouped (low_downward load i) (high_downward load i) (m - i) (2 ^ 50)
      (low_under_high' ((m - i) * 2 ^ 50) (low_downward load i) (high_downward load i) p (suc p) (some (omega arith))
      (downward_ordered i (omega arith)) (omega arith))
    where
      grouped : (x y n g : ℕ) → x * (n * g) / suc p ≤ div_ceil (y * (n * g)) p → x * n * g / suc p ≤ div_ceil (y * n * g) p
      grouped x y n g h = rw (mul_assoc x n g, mul_assoc y n g) h

  downward_capped : (i : ℕ) → i ≤ m → high_downward load i ≤ one_word
  downward_capped zero l = omega arith
  downward_capped (suc i) l =
      rw (mul_assoc (high_downward load i) (m - i) (2 ^ 50))
      (high_capped one_word p ((m - i) * 2 ^ 50) (high_downward load i) (some (omega arith)) (downward_capped i (omega arith)) (large i))

  downward_near : (i : ℕ) → i ≤ m → suc p * high_downward load i ≤ suc p * low_downward load i + i * (one_word + 2 * suc p)
  downward_near zero l = omega arith
  downward_near (suc i) l =
      rw (mul_assoc (high_downward load i) (m - i) (2 ^ 50), mul_assoc (low_downward load i) (m - i) (2 ^ 50))
      (near_down one_word ((m - i) * 2 ^ 50) p (low_downward load i) (high_downward load i) i (some (omega arith)) (large i)
      (omega (arith, downward_ordered i (omega arith), downward_capped i (omega arith))) (downward_near i (omega arith)))

  -- ---- up to the horizon
  twice_mode : (bits : ℕ) → horizon load bits ≤ m + m + 2 + bits
  twice_mode bits =
      let next : load.num < load.num / load.den * load.den + load.den = lt-div-mul-add pos in
      let up : div_ceil (2 * load.num) load.den ≤ m + m + 2 = ceil_le (2 * load.num) load.den (m + m + 2) pos (omega (arith, next)) in
      omega arith

  upward_last : (bits i : ℕ) → m + i ≤ horizon load bits
      → high_upward load i ≤ low_upward load i + (2 ^ 12 * (bits + 2) + 2 * horizon load bits)
  upward_last bits i l =
      let few : i ≤ (bits + 2) * suc m = omega (arith, twice_mode bits) in
      let last : i ≤ horizon load bits = omega arith in
      le_of_mul-le-mul_left {k = suc m} (omega (
        arith,
        upward_near i,
        mul-le-mul_left (suc m) last,
        mul-le-mul_left (2 ^ 12) few,
      )) (omega arith)

  downward_last : (bits i : ℕ) → i ≤ m → m ≤ horizon load bits
      → high_downward load i ≤ low_downward load i + (2 ^ 12 * (bits + 2) + 2 * horizon load bits)
  downward_last bits i l h =
      let last : i ≤ horizon load bits = omega arith in
      le_of_mul-le-mul_left {k = suc p}
      (omega (arith, downward_near i l, fine_large load pos, mul-le-mul_left (suc p) last)) (omega arith)

  pub ordered : (k : ℕ) → low_weight load k ≤ high_weight load k
  ordered k =
      elim (dec_le (suc k) m) [
        | yes i ↦ (let t : ltb k m ≡ true = grind (arith, nat_tests) in rw t (downward_ordered (m - k) (omega arith)))
        | no g ↦ (let t : ltb k m ≡ false = grind (arith, nat_tests) in rw t (upward_ordered (k - m)))
      ]

  pub capped : (k : ℕ) → high_weight load k ≤ one_word
  capped k =
      elim (dec_le (suc k) m) [
        | yes i ↦ (let t : ltb k m ≡ true = grind (arith, nat_tests) in rw t (downward_capped (m - k) (omega arith)))
        | no g ↦ (let t : ltb k m ≡ false = grind (arith, nat_tests) in rw t (upward_capped (k - m)))
      ]

  pub near : (bits k : ℕ) → m ≤ horizon load bits → k ≤ horizon load bits
      → high_weight load k ≤ low_weight load k + (2 ^ 12 * (bits + 2) + 2 * horizon load bits)
  near bits k h l =
      elim (dec_le (suc k) m) [
        | yes i ↦ (let t : ltb k m ≡ true = grind (arith, nat_tests) in rw t (downward_last bits (m - k) (omega arith) h))
        | no g ↦ (let t : ltb k m ≡ false = grind (arith, nat_tests) in rw t (upward_last bits (k - m) (omega arith)))
      ]
