use Rattle.std.proofs.Common.{length}
use Rattle.text_lines.specs.WordLines.{word_lines_in, word_lines_of}
use Rattle.lab_reader.specs.Reading.{HasNames}
use Rattle.lab_reader.proofs.declarations.read_names.Given as goal

abbrev pub invariant-loop-line : goal.invariant-loop-line
invariant-loop-line l = HasNames (word_lines_of l.bytes) l.names.items (word_lines_in l.rest)

abbrev pub decreases-loop-line : goal.decreases-loop-line
decreases-loop-line l = length (word_lines_in l.rest)
