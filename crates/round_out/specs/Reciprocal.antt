-- A divisor that is prepared for divisions.
use Rattle.std.specs.Prelude.{ℕ, suc, ◌*◌, ◌^◌, ◌<◌, ◌≤◌}

-- the divisor has the given number of bits, at most 63, `power` being the next power of two above it, and the reciprocal is
-- `2^63 * power` over the divisor, rounded down, or 1 less where that is a whole number
pub record IsPrepared (den power reciprocal bits : ℕ) : Type 0 where
  pub positive : 0 < den
  pub fits : den < 2 ^ 63
  pub few_bits : bits ≤ 63
  pub below_power : den < power
  pub half_power : power ≤ 2 * den
  pub not_above : reciprocal * den < 2 ^ 63 * power
  pub near : 2 ^ 63 * power ≤ suc reciprocal * den
