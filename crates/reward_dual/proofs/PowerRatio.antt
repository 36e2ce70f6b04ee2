-- The quotient of two powers as one power.
use Rattle.std.proofs.Common.{◌≡◌, ℕ, ◌-◌, ◌*◌, ◌^◌, ◌≤◌, ap, arith}
use Rattle.ctmc_semantics.proofs.Powers.{power_split}

-- where at least as many are above
pub power_above : (x k n p : ℕ) → k ≤ n → p ≡ x ^ (n - k) → p * x ^ k ≡ x ^ n * 1
power_above x k n p l e = omega (arith, power_split x k n l, ap (λ z. z * x ^ k) e)

-- where more are below
pub power_below : (x k n p : ℕ) → n ≤ k → p ≡ x ^ (k - n) → 1 * x ^ k ≡ x ^ n * p
power_below x k n p l e = omega (arith, power_split x n k l, ap (λ z. x ^ n * z) e)
