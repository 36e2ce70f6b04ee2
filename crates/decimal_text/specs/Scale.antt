-- Decimals at one scale.
use Rattle.std.specs.Prelude.{ℕ, ◌-◌, ◌*◌, ◌^◌, max, List, [], ◌∷◌}
use Rattle.decimal_text.specs.DecimalNumber.{DecimalNumber}

-- the greatest number of decimals of these, 0 where there are none
unfoldable pub greatest_decimals : List DecimalNumber → ℕ
greatest_decimals [] = 0
greatest_decimals (d ∷ ds) = max d.x (greatest_decimals ds)

-- the decimal in units of `10^-scale`, where it has no more decimals than the scale
abbrev pub scaled : ℕ → DecimalNumber → ℕ
scaled scale d = d.c * 10 ^ (scale - d.x)
