-- The ends of a bracket over one divisor, as the code keeps them.
use Rattle.std.specs.Prelude.{◌<◌, ◌≤◌, ◌^◌}
use Rattle.ctmc_semantics.specs.Bracket.{Bracket}
use Rattle.ctmc_semantics.specs.Fraction.{fraction}
use Rattle.nested_verdict.specs.declared.state_answer.Ends.{Ends}

-- the bracket that has these ends
abbrev pub ends_bracket : Ends → Bracket
ends_bracket ends = record { low = fraction ends.lower ends.den; high = fraction ends.upper ends.den }

-- no end is above 1, and the divisor is positive and fits
pub record AreProbabilities (ends : Ends) : Type 0 where
  pub lower : ends.lower ≤ ends.den
  pub upper : ends.upper ≤ ends.den
  pub positive : 0 < ends.den
  pub fits : ends.den < 2 ^ 63
