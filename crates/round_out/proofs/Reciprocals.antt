-- A quotient by a rounded reciprocal: never too large, and at most 1 too small.
use Rattle.std.proofs.Common.{◌≡◌, ℕ, suc, ◌+◌, ◌-◌, ◌*◌, ◌/◌, ◌%◌, ◌^◌, ◌≤◌, ◌<◌, sym, ◌∙◌, ap, lit<, arith}
use Rattle.std.proofs.Math.Nat.{mul-le-mul_left, mul-le-mul_right, le_of_mul-le-mul_right, lt_of_mul-lt-mul_right, div-mul-le_self}
use Rattle.std.proofs.Math.Nat.{lt-div-mul-add}
use Rattle.std.proofs.lemmas.Nat.{div-mul-add, mod-mul-add}
use Rattle.round_out.specs.Reciprocal.{IsPrepared}

-- p the products, d the divisor, m the power of two above it, v the reciprocal in units of `1 / (h * m)`,
-- x four times the products in units of m, q the first quotient
module _ (h m d v p x q : ℕ) (some : 0 < d) (pos : 0 < 4 * (h * m)) (not_above : v * d ≤ h * m) (near : h * m ≤ suc v * d)
    (x_below : x * m ≤ 4 * p) (x_near : 4 * p ≤ suc x * m) (q_below : q * (4 * h) ≤ x * v) (q_near : x * v ≤ suc q * (4 * h))
    (p_small : 4 * p < 2 * h * m) (v_small : v ≤ 2 * h) where
  pub first_below : q * d ≤ p
  first_below =
      le_of_mul-le-mul_right {k = 4 * (h * m)}
      (omega (arith, mul-le-mul_right (d * m) q_below, mul-le-mul_right (v * d) x_below, mul-le-mul_left (4 * p) not_above)) pos

  scaled_small : 4 * p * v + 4 * p + 1 ≤ suc (suc q) * (4 * (h * m))
  scaled_small = omega (arith, mul-le-mul_right v x_near, mul-le-mul_right m q_near, mul-le-mul_right m v_small, p_small)

  pub first_near : p < suc (suc q) * d
  first_near =
      lt_of_mul-lt-mul_right (4 * (h * m))
      (omega (arith, mul-le-mul_left (4 * p) near, mul-le-mul_right d scaled_small, some))

-- the quotient and the rest of a division are the only ones
pub quotient_is : (p d q r : ℕ) → r < d → q * d + r ≡ p → q ≡ p / d
quotient_is p d q r l e = sym (ap (λ z. z / d) (sym e) ∙ div-mul-add q d r l)

pub rest_is : (p d q r : ℕ) → r < d → q * d + r ≡ p → r ≡ p % d
rest_is p d q r l e = sym (ap (λ z. z % d) (sym e) ∙ mod-mul-add q d r l)

-- what a prepared divisor's reciprocal gives
pub record IsNear (p d q : ℕ) : Type 0 where
  pub below : q * d ≤ p
  pub near : p < suc (suc q) * d

pub first_is_near : (d m v bits p x q : ℕ) → IsPrepared d m v bits → p ≤ d * 2 ^ 62 → x ≡ p * 4 / m → q ≡ x * v / 2 ^ 65 → IsNear p d q
first_is_near d m v bits p x q is small ex eq =
    let m_some : 0 < m = omega (arith, is.positive, is.below_power) in
    let v_double : v * d ≤ 2 * 2 ^ 63 * d = omega (arith, is.not_above, is.half_power) in
    let v_small : v ≤ 2 * 2 ^ 63 = le_of_mul-le-mul_right {k = d} v_double is.positive in
    let x_from : p * 4 / m * m ≤ p * 4 = div-mul-le_self (p * 4) m in
    let x_to : p * 4 < p * 4 / m * m + m = lt-div-mul-add m_some in
    let x_same = ap (λ z. z * m) ex in
    let q_from : x * v / 2 ^ 65 * 2 ^ 65 ≤ x * v = div-mul-le_self (x * v) (2 ^ 65) in
    let q_to : x * v < x * v / 2 ^ 65 * 2 ^ 65 + 2 ^ 65 = lt-div-mul-add (lit< tt) in
    let pos : 0 < 4 * (2 ^ 63 * m) = omega (arith, m_some) in
    let not_above : v * d ≤ 2 ^ 63 * m = omega (arith, is.not_above) in
    let x_below : x * m ≤ 4 * p = omega (arith, x_from, x_same) in
    let x_near : 4 * p ≤ suc x * m = omega (arith, x_to, x_same) in
    let q_below : q * (4 * 2 ^ 63) ≤ x * v = omega (arith, q_from, eq) in
    let q_near : x * v ≤ suc q * (4 * 2 ^ 63) = omega (arith, q_to, eq) in
    let p_small : 4 * p < 2 * 2 ^ 63 * m = omega (arith, small, is.below_power) in
    record {
      below = first_below (2 ^ 63) m d v p x q is.positive pos not_above is.near x_below x_near q_below q_near p_small v_small;
      near = first_near (2 ^ 63) m d v p x q is.positive pos not_above is.near x_below x_near q_below q_near p_small v_small;
    }

-- the same as the code has it: n the divisor that is seen, v' and d' the reciprocal and the divisor as wider numbers
module _ {n d m v bits p x v' d' q : ℕ} (is : IsPrepared d m v bits) (seen : d ≡ n) (small : p ≤ n * 2 ^ 62)
    (ex : x ≡ p * 4 / m) (ev : v' ≡ v) (eq : q ≡ x * v' / 2 ^ 65) (ed : d' ≡ d) where
  pub near : IsNear p d q
  near =
      let small' : p ≤ d * 2 ^ 62 = omega (arith, seen, small) in
      first_is_near d m v bits p x q is small' ex (eq ∙ ap (λ z. x * z / 2 ^ 65) ev)

  pub rest_from : q * d' ≤ p
  rest_from = omega (arith, near.below, ap (λ z. q * z) ed)

  pub rest_to : p < q * d' + 2 * d
  rest_to = omega (arith, near.near, ap (λ z. q * z) ed)

  pub exact_quotient : p - q * d' < d → q ≡ p / n
  exact_quotient l =
      let whole : q * n + (p - q * d') ≡ p = omega (arith, rest_from, ap (λ z. q * z) (ed ∙ seen)) in
      let less : p - q * d' < n = omega (arith, l, seen) in
      quotient_is p n q (p - q * d') less whole

  pub exact_rest : p - q * d' < d → p - q * d' ≡ p % n
  exact_rest l =
      let whole : q * n + (p - q * d') ≡ p = omega (arith, rest_from, ap (λ z. q * z) (ed ∙ seen)) in
      let less : p - q * d' < n = omega (arith, l, seen) in
      rest_is p n q (p - q * d') less whole

  pub next_quotient : d ≤ p - q * d' → q + 1 ≡ p / n
  next_quotient l =
      let whole : (q + 1) * n + (p - q * d' - d) ≡ p = omega (arith, rest_from, l, seen, ap (λ z. q * z) (ed ∙ seen)) in
      let less : p - q * d' - d < n = omega (arith, rest_from, rest_to, seen) in
      quotient_is p n (q + 1) (p - q * d' - d) less whole

  pub next_rest : d ≤ p - q * d' → p - q * d' - d ≡ p % n
  next_rest l =
      let whole : (q + 1) * n + (p - q * d' - d) ≡ p = omega (arith, rest_from, l, seen, ap (λ z. q * z) (ed ∙ seen)) in
      let less : p - q * d' - d < n = omega (arith, rest_from, rest_to, seen) in
      rest_is p n (q + 1) (p - q * d' - d) less whole
