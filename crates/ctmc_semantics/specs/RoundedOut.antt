-- Numbers of twelve decimals, in units of `10^-12`, as they are printed: rounded outward.
use Rattle.std.specs.Prelude.{ℕ, ◌≤◌}
use Rattle.ctmc_semantics.specs.Fraction.{Fraction, ◌≼◌, decimal_fraction}
use Rattle.ctmc_semantics.specs.Bracket.{Bracket}

-- the number of units is p, rounded down: the greatest that is at most p
pub record IsRoundedDown (p : Fraction) (units : ℕ) : Type 0 where
  pub at_most : decimal_fraction units 12 ≼ p
  pub greatest : (other : ℕ) → decimal_fraction other 12 ≼ p → other ≤ units

-- the number of units is p, rounded up: the least that is at least p
pub record IsRoundedUp (p : Fraction) (units : ℕ) : Type 0 where
  pub at_least : p ≼ decimal_fraction units 12
  pub least : (other : ℕ) → p ≼ decimal_fraction other 12 → units ≤ other

-- the numbers are the ends of the bracket, the low one rounded down and the high one rounded up
pub record IsRoundedOut (b : Bracket) (low high : ℕ) : Type 0 where
  pub down : IsRoundedDown b.low low
  pub up : IsRoundedUp b.high high
