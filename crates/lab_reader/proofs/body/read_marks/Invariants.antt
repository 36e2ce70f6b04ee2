use Rattle.std.proofs.Common.{length}
use Rattle.text_lines.specs.WordLines.{word_lines_in}
use Rattle.lab_reader.proofs.Bodies.{HasMarked}
use Rattle.lab_reader.proofs.body.read_marks.Given as goal

abbrev pub invariant-loop-line : goal.invariant-loop-line
invariant-loop-line l = HasMarked l.n l.names (word_lines_in l.fn.rest) l.marks.items (word_lines_in l.rest)

abbrev pub decreases-loop-line : goal.decreases-loop-line
decreases-loop-line l = length (word_lines_in l.rest)
