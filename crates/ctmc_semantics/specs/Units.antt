-- How a fraction is rounded to units of `10^-12`.
use Rattle.std.specs.Prelude.{ℕ, ◌*◌, ◌/◌, ◌^◌}
use Rattle.std.specs.Int.{div_ceil}
use Rattle.ctmc_semantics.specs.Fraction.{Fraction}

-- the whole units in p
abbrev pub units_down : Fraction → ℕ
units_down p = p.num * 10 ^ 12 / p.den

-- the units that hold p
abbrev pub units_up : Fraction → ℕ
units_up p = div_ceil (p.num * 10 ^ 12) p.den
