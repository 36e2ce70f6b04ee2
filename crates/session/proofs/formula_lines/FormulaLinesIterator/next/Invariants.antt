use Rattle.std.proofs.Common.{◌≡◌, length}
use Rattle.session.specs.FormulaLines.{answered_lines}
use Rattle.session.proofs.formula_lines.FormulaLinesIterator.next.Given as goal

abbrev pub invariant-loop-line : goal.invariant-loop-line
invariant-loop-line l = answered_lines l.self-inside.lines ≡ l.fn.self

abbrev pub decreases-loop-line : goal.decreases-loop-line
decreases-loop-line l = length l.self-inside.lines
