use Rattle.std.proofs.Common.{◌-◌, ◌*◌, ◌^◌, ◌≡◌, ℕ, ◌<◌, ◌≤◌, arith, ap, min, ◌∙◌}
use Rattle.std.proofs.Math.Nat.{mul-le-mul_left}
use Rattle.decimal_text.specs.Reading.{up_to_limit}
use Rattle.decimal_text.proofs.Known.{big_shift}
use Rattle.decimal_text.proofs.powers.shifted.Goals as goal

pub returns-then-power-gt18 : goal.returns-then-power-gt18
returns-then-power-gt18 c =
    let big = big_shift c.args.value c.args.power (omega arith) (omega arith) in
    omega arith

below_128_bits : (a b : ℕ) → a < 2 ^ 64 → b < 2 ^ 64 → a * b < 2 ^ 128
below_128_bits a b h k =
    let most : b ≤ 2 ^ 64 - 1 = omega arith in
    omega (arith, mul-le-mul_left a most)

pub overflow_mul-product : goal.overflow_mul-product
overflow_mul-product c =
    let below : c.from.result * c.from-2.result < 2 ^ 128 =
    below_128_bits c.from.result c.from-2.result (omega arith) (omega arith)
    in
    omega arith

product : (a b limit v p k r : ℕ) → a ≡ v → b ≡ p → p ≡ 10 ^ k → limit ≡ 10 ^ 18 → r ≡ min (a * b) limit → r ≡ up_to_limit (v * 10 ^ k)
product a b limit v p k r ea eb ep el er =
    er ∙ ap (λ z. min (z * b) limit) ea ∙ ap (λ z. min (v * z) limit) (eb ∙ ep) ∙ ap (λ z. min (v * 10 ^ k) z) el

pub returns : goal.returns
returns c =
    product c.from.result c.from-2.result c.from-3.result c.args.value c.power_of_ten.result c.args.power c.min.result c.from.ensures
    c.from-2.ensures c.power_of_ten.ensures.power c.from-3.ensures c.min.ensures
