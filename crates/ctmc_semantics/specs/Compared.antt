-- How a probability is compared with a threshold: crosswise, in whole numbers.
use Rattle.std.specs.Prelude.{◌*◌, Bool, nat_le, nat_lt}
use Rattle.ctmc_semantics.specs.Fraction.{Fraction}
use Rattle.ctmc_semantics.specs.Threshold.{Comparison, Less, AtMost, More, AtLeast}

-- whether p meets q by the comparison
abbrev pub meets_threshold : Comparison → Fraction → Fraction → Bool
meets_threshold Less p q = nat_lt (p.num * q.den) (q.num * p.den)
meets_threshold AtMost p q = nat_le (p.num * q.den) (q.num * p.den)
meets_threshold More p q = nat_lt (q.num * p.den) (p.num * q.den)
meets_threshold AtLeast p q = nat_le (q.num * p.den) (p.num * q.den)
