-- How the answer at a state is computed from a bracket round its probability.
use Rattle.std.specs.Prelude.{Bool, if◌then◌else◌}
use Rattle.ctmc_semantics.specs.Bracket.{Bracket}
use Rattle.ctmc_semantics.specs.Compared.{meets_threshold}
use Rattle.ctmc_semantics.specs.Fraction.{Fraction}
use Rattle.ctmc_semantics.specs.Threshold.{Comparison, opposite}
use Rattle.ctmc_semantics.specs.Units.{units_down, units_up}
use Rattle.ctmc_semantics.specs.Verdict.{last_to_meet}
use Rattle.report.specs.declared.answer.Printed.{Printed}
use Rattle.nested_verdict.specs.declared.state_answer.StateAnswer.{StateAnswer}
use Rattle.report.specs.declared.answer.Verdict.{Verdict}
use Rattle.report.specs.declared.answer.Verdict.TheVariants.{Satisfied, Refuted, Undecided}

-- whether each number in the bracket meets the threshold
abbrev pub bracket_satisfies : Comparison → Bracket → Fraction → Bool
bracket_satisfies by b q = meets_threshold by (last_to_meet by b) q

abbrev pub decided_verdict : Bool → Bool → Verdict
decided_verdict satisfied refuted = if satisfied then Satisfied else (if refuted then Refuted else Undecided)

-- what the bracket shows of the threshold
abbrev pub bracket_verdict : Comparison → Bracket → Fraction → Verdict
bracket_verdict by b q = decided_verdict (bracket_satisfies by b q) (bracket_satisfies (opposite by) b q)

-- the ends of the bracket in units of `10^-12`, rounded down and up
abbrev pub printed_units : Bracket → Printed
printed_units b = record { low = units_down b.low; high = units_up b.high }

-- the verdict that the bracket shows, and the bracket as it is printed
abbrev pub bracket_answer : Comparison → Bracket → Fraction → StateAnswer
bracket_answer by b q = record { verdict = bracket_verdict by b q; bracket = printed_units b }
