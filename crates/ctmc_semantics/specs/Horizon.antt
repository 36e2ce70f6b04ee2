-- How many jumps are looked at, and how wide a bracket may be for it.
use Rattle.std.specs.Prelude.{ℕ, suc, ◌+◌, ◌-◌, ◌*◌, ◌^◌}
use Rattle.std.specs.Int.{div_ceil}
use Rattle.ctmc_semantics.specs.Fraction.{Fraction}

-- the number of jumps to look at: twice the load, rounded up, and one more for each bit
abbrev pub horizon : Fraction → ℕ → ℕ
horizon load bits = div_ceil (2 * load.num) load.den + bits

-- by how many words of `2^-62` a bracket over the jumps 0 to n may be wider for the rounding of its words alone
abbrev pub slack : ℕ → ℕ → ℕ
slack n bits = 2 * (suc n * (2 ^ 12 * (bits + 2) + 2 * n)) + 2 ^ 15 + 2 * n + 8

-- how many words of `2^-62` a bracket over the jumps 0 to n may be wide: `2^-bits` for what lies past n, and the slack
abbrev pub greatest_width : ℕ → ℕ → ℕ
greatest_width n bits = 2 ^ (62 - bits) + slack n bits
