-- Numbers that are known up to `10^18`.
use Rattle.std.proofs.Common.{◌≡◌, ℕ, ◌+◌, ◌*◌, ◌^◌, ◌<◌, ◌≤◌, ◌⊎◌, inl, inr, ap, arith}
use Rattle.std.proofs.Math.Nat.{mul-le-mul_left, mul-le-mul_right, pow-le-pow_right}
use Rattle.decimal_text.specs.Reading.{up_to_limit}

exact_or_big : (a b : ℕ) → a ≡ up_to_limit b → (a ≡ b) ⊎ ((10 ^ 18 ≤ a) × (10 ^ 18 ≤ b))
exact_or_big a b e = Prim.grind arith

both_big : (a b : ℕ) → 10 ^ 18 ≤ a → 10 ^ 18 ≤ b → up_to_limit a ≡ up_to_limit b
both_big a b h k = omega arith

big_times : (a k : ℕ) → 10 ^ 18 ≤ a → 0 < k → 10 ^ 18 ≤ a * k
big_times a k h p = omega (arith, mul-le-mul_left a p)

-- a multiple is known as far
pub known_times : (a b k : ℕ) → a ≡ up_to_limit b → 0 < k → up_to_limit (a * k) ≡ up_to_limit (b * k)
known_times a b k e p =
    elim (exact_or_big a b e) [
      | inl same ↦ ap (λ z. up_to_limit (z * k)) same
      | inr big ↦ both_big (a * k) (b * k) (big_times a k big.0 p) (big_times b k big.1 p)
    ]

-- and so is a sum
pub known_plus : (a b d : ℕ) → a ≡ up_to_limit b → up_to_limit (a + d) ≡ up_to_limit (b + d)
known_plus a b d e = omega arith

-- a power of ten above the seventeenth makes each number but 0 large
pub big_shift : (value k : ℕ) → 0 < value → 18 ≤ k → 10 ^ 18 ≤ value * 10 ^ k
big_shift value k p h =
    let power : 10 ^ 18 ≤ 10 ^ k = pow-le-pow_right (omega arith) h in
    omega (arith, mul-le-mul_left value power, mul-le-mul_right (10 ^ 18) p)
