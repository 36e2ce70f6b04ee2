-- Fractions in lowest terms.
use Rattle.std.specs.Prelude.{ℕ, zero, suc, ◌/◌, ◌%◌, ◌^◌, ◌==◌, ◌&&◌, Bool, nat_lt, if◌then◌else◌}
use Rattle.ctmc_semantics.specs.Fraction.{Fraction, fraction}

-- the greatest common divisor, found in at most so many steps (Euclid, Elements, book VII)
abbrev pub gcd_within : ℕ → ℕ → ℕ → ℕ
gcd_within zero a b = a
gcd_within (suc k) a b = if b == 0 then a else gcd_within k b (a % b)

abbrev pub gcd : ℕ → ℕ → ℕ
gcd a b = gcd_within (suc b) a b

-- numerator and divisor without what they have in common
abbrev pub lowest_terms : Fraction → Fraction
lowest_terms p = fraction (p.num / gcd p.num p.den) (p.den / gcd p.num p.den)

-- the numbers of a load fit
abbrev pub fits_load : Fraction → Bool
fits_load p = nat_lt p.num (2 ^ 127) && nat_lt p.den (2 ^ 126)
