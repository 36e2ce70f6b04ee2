-- Decimal digits as bytes: `0` is the byte 48.
use Rattle.std.specs.Prelude.{ℕ, zero, suc, ◌+◌, ◌/◌, ◌%◌, List, [], ◌∷◌, ◌++◌}

-- the last k digits of v, with leading zeros where v has fewer
abbrev pub fixed_digits : ℕ → ℕ → List ℕ
fixed_digits zero v = []
fixed_digits (suc k) v = fixed_digits k (v / 10) ++ (48 + v % 10) ∷ []
