-- Numbers that have nothing in common.
use Rattle.std.specs.Prelude.{ℕ}
use Rattle.std.specs.Int.{IsGcd}

-- only 1 divides both
abbrev pub AreCoprime : ℕ → ℕ → Type 0
AreCoprime a b = IsGcd a b 1
