-- Numbers as texts, in bytes.
use Rattle.std.specs.Prelude.{ℕ, ◌/◌, ◌%◌, ◌^◌, List, ◌∷◌, ◌++◌, ◌==◌, decimal, if◌then◌else◌}
use Rattle.decimal_text.specs.Digits.{fixed_digits}
use Rattle.decimal_text.specs.DecimalNumber.{DecimalNumber}

-- `c / 10^x` as its whole part, a point and x digits
abbrev pub point_text : ℕ → ℕ → List ℕ
point_text c x = decimal (c / 10 ^ x) ++ 46 ∷ fixed_digits x (c % 10 ^ x)

-- a number of units of `10^-12` as its whole part, a point and 12 digits
abbrev pub text12 : ℕ → List ℕ
text12 units = point_text units 12

-- a decimal's text: c alone where x is 0, else the whole part, a point and x digits
abbrev pub canonical_text : DecimalNumber → List ℕ
canonical_text d = if d.x == 0 then decimal d.c else point_text d.c d.x
