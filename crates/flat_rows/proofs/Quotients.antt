-- A quotient from a first one that is at most 1 too small.
use mir.Val.{bool_byte}
use Rattle.std.proofs.Common.{◌≡◌, ℕ, suc, ◌+◌, ◌-◌, ◌*◌, ◌/◌, ◌%◌, ◌^◌, ◌≤◌, ◌<◌, true, false, ltb, leb, ap, sym, ◌∙◌, arith}
use Rattle.std.specs.Int.{div_ceil}
use Rattle.std.proofs.lemmas.Bool.Decides.{nat_tests}
use Rattle.std.proofs.lemmas.Grind.{div_ceil_times}
use Rattle.std.proofs.lemmas.Nat.{div-add-mod', mod_below}
use Rattle.std.proofs.Math.Decide.{dec_le}
use Rattle.std.proofs.Math.Nat.{lt_of_mul-lt-mul_right, mul-le-mul_left, mul-pos}
use Rattle.round_out.proofs.Reciprocals.{quotient_is}

-- the quotient rounded up is the only number whose product is next above the products
pub ceil_only : (p n x : ℕ) → p ≤ x * n → x * n < p + n → x ≡ div_ceil p n
ceil_only p n x above below =
    let some : 0 < n = omega (arith, above, below) in
    let c_above : p ≤ div_ceil p n * n = (div_ceil_times p n some).0 in
    let c_below : div_ceil p n * n < p + n = (div_ceil_times p n some).1 in
    let up : x < suc (div_ceil p n) = lt_of_mul-lt-mul_right n (omega (arith, below, c_above)) in
    let down : div_ceil p n < suc x = lt_of_mul-lt-mul_right n (omega (arith, above, c_below)) in
    omega arith

-- p the products, n the divisor, q the first quotient, r what it leaves over
module _ (p n q r : ℕ) (whole : q * n + r ≡ p) (near : r < 2 * n) where
  pub floor_here : r < n → q + 0 ≡ p / n
  floor_here l = quotient_is p n (q + 0) r l (omega (arith, whole))

  pub floor_next : n ≤ r → q + 1 ≡ p / n
  floor_next l = quotient_is p n (q + 1) (r - n) (omega (arith, near)) (omega (arith, whole))

  pub floor_is : (d z : ℕ) → d ≡ n → z ≡ bool_byte (leb d r) → q + z ≡ p / n
  floor_is d z same e =
      elim (dec_le n r) [
        | yes l ↦ (let t : leb d r ≡ true = grind (arith, nat_tests) in ap (λ x. q + x) (e ∙ ap bool_byte t) ∙ floor_next l)
        | no g ↦ (let t : leb d r ≡ false = grind (arith, nat_tests) in ap (λ x. q + x) (e ∙ ap bool_byte t) ∙ floor_here (omega arith))
      ]

  pub ceil_is : (d y z : ℕ) → d ≡ n → y ≡ bool_byte (ltb 0 r) → z ≡ bool_byte (ltb d r) → q + y + z ≡ div_ceil p n
  ceil_is d y z same e f =
      elim (dec_le (suc n) r) [
        | yes l ↦ (
            let s : ltb 0 r ≡ true = grind (arith, nat_tests) in
            let t : ltb d r ≡ true = grind (arith, nat_tests) in
            let y_is : y ≡ 1 = e ∙ ap bool_byte s in
            let z_is : z ≡ 1 = f ∙ ap bool_byte t in
            rw (y_is, z_is) (ceil_only p n (q + 1 + 1) (omega (arith, whole, near)) (omega (arith, whole))))
        | no g ↦ (
            let t : ltb d r ≡ false = grind (arith, nat_tests) in
            let z_is : z ≡ 0 = f ∙ ap bool_byte t in
            elim (dec_le 1 r) [
              | yes l ↦ (
                  let s : ltb 0 r ≡ true = grind (arith, nat_tests) in
                  let y_is : y ≡ 1 = e ∙ ap bool_byte s in
                  rw (y_is, z_is) (ceil_only p n (q + 1 + 0) (omega (arith, whole)) (omega (arith, whole))))
              | no h ↦ (
                  let s : ltb 0 r ≡ false = grind (arith, nat_tests) in
                  let y_is : y ≡ 0 = e ∙ ap bool_byte s in
                  rw (y_is, z_is) (ceil_only p n (q + 0 + 0) (omega (arith, whole)) (omega (arith, whole, near))))
            ])
      ]

-- a quotient of products that are at most `n * 2^62`
pub ceil_small : (p n x : ℕ) → 0 < n → p ≤ n * 2 ^ 62 → x ≡ div_ceil p n → x ≤ 2 ^ 62
ceil_small p n x some small e =
    let below : div_ceil p n * n < p + n = (div_ceil_times p n some).1 in
    let less : div_ceil p n < suc (2 ^ 62) = lt_of_mul-lt-mul_right n (omega (arith, below, small)) in
    omega (arith, e)

-- quotients of multiplied numbers
pub floor_scaled : (k p d : ℕ) → 0 < k → 0 < d → k * p / (k * d) ≡ p / d
floor_scaled k p d some pos =
    let whole : p / d * d + p % d ≡ p = div-add-mod' p d in
    let rest : p % d < d = mod_below p d pos in
    let more : k * suc (p % d) ≤ k * d = mul-le-mul_left k rest in
    sym (quotient_is (k * p) (k * d) (p / d) (k * (p % d)) (omega (arith, more, some)) (omega (arith, ap (λ z. k * z) whole)))

pub ceil_scaled : (k p d : ℕ) → 0 < k → 0 < d → div_ceil (k * p) (k * d) ≡ div_ceil p d
ceil_scaled k p d some pos =
    let above : p ≤ div_ceil p d * d = (div_ceil_times p d pos).0 in
    let below : div_ceil p d * d < p + d = (div_ceil_times p d pos).1 in
    let above_k : k * p ≤ k * (div_ceil p d * d) = mul-le-mul_left k above in
    let below_k : k * suc (div_ceil p d * d) ≤ k * (p + d) = mul-le-mul_left k below in
    sym (ceil_only (k * p) (k * d) (div_ceil p d) (omega (arith, above_k)) (omega (arith, below_k, some)))

-- quotients of numbers that, multiplied, come out the same
module _ (k p d j q e : ℕ) (some : 0 < k) (other : 0 < j) (pos : 0 < e) (products : k * p ≡ j * q) (divisors : k * d ≡ j * e) where
  some_divisor : 0 < d
  some_divisor =
      elim (dec_le 1 d) [
        | yes l ↦ l
        | no g ↦ (
            let none : d ≡ 0 = omega arith in
            let more : 0 < j * e = mul-pos other pos in
            absurd (omega (arith, more, divisors, ap (λ z. k * z) none)))
      ]

  pub same_floor : p / d ≡ q / e
  same_floor =
      sym (floor_scaled k p d some some_divisor)
      ∙ (ap (λ z. z / (k * d)) products ∙ (ap (λ z. j * q / z) divisors ∙ floor_scaled j q e other pos))

  pub same_ceil : div_ceil p d ≡ div_ceil q e
  same_ceil =
      sym (ceil_scaled k p d some some_divisor)
      ∙ (ap (λ z. div_ceil z (k * d)) products ∙ (ap (λ z. div_ceil (j * q) z) divisors ∙ ceil_scaled j q e other pos))
