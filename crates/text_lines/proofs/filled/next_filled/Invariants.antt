use Rattle.std.proofs.Common.{◌≡◌, length}
use Rattle.text_lines.specs.WordLines.{word_lines_in}
use Rattle.text_lines.proofs.filled.next_filled.Given as goal

abbrev pub invariant-loop-line : goal.invariant-loop-line
invariant-loop-line l = word_lines_in l.initial.lines ≡ word_lines_in l.lines

abbrev pub decreases-loop-line : goal.decreases-loop-line
decreases-loop-line l = length l.lines
