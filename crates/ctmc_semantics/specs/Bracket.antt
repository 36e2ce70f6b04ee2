-- Brackets round a probability, and what they contain.
use Rattle.std.specs.Prelude.{ℕ, ◌<◌, ◌≤◌}
use Rattle.ctmc_semantics.specs.Fraction.{Fraction, ◌≼◌, decimal_fraction}

pub record Bracket : Type 0 where
  pub low : Fraction
  pub high : Fraction

-- the bracket of two printed numbers, in units of `10^-12`
abbrev pub printed_bracket : ℕ → ℕ → Bracket
printed_bracket low high = record { low = decimal_fraction low 12; high = decimal_fraction high 12 }

-- both ends of the bracket have positive divisors
pub record HasEnds (b : Bracket) : Type 0 where
  pub low : 0 < b.low.den
  pub high : 0 < b.high.den

-- the outer bracket has the inner one in it
pub record Encloses (outer inner : Bracket) : Type 0 where
  pub below : outer.low ≼ inner.low
  pub above : inner.high ≼ outer.high

-- the probability lies in the bracket
pub record ContainsProbability (b : Bracket) (p : Fraction) : Type 0 where
  pub from_low : b.low ≼ p
  pub to_high : p ≼ b.high

-- the bracket contains a bounded until: every average from the horizon on lies in it
abbrev pub ContainsFrom : Bracket → ℕ → (ℕ → Fraction) → Type 0
ContainsFrom b horizon x = (n : ℕ) → horizon ≤ n → ContainsProbability b (x n)

-- the bracket contains an unbounded until: its lower end is reached at the last number of jumps,
-- and no number of jumps passes its upper end
pub record ContainsLimit (b : Bracket) (last : ℕ) (x : ℕ → Fraction) : Type 0 where
  pub reached : b.low ≼ x last
  pub not_passed : (n : ℕ) → x n ≼ b.high
