use Rattle.text_lines.specs.Items.{line_text}
use Rattle.text_lines.specs.WordLines.{word_line}
use Rattle.lab_reader.specs.Reading.{bytes_of}
use Rattle.lab_reader.proofs.Declared.{HasTaken}
use Rattle.lab_reader.proofs.declarations.declare_line.Given as goal

abbrev pub invariant-loop-word : goal.invariant-loop-word
invariant-loop-word l =
    HasTaken l.initial.names.items (word_line (line_text l.line)).words l.names.items (bytes_of l.word-iterator)
