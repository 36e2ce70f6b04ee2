-- What the items of the iterators are as texts.
use Rattle.std.specs.Prelude.{ℕ, List, map}
use Rattle.text_lines.specs.declared.line.Line.{Line}
use Rattle.text_lines.specs.declared.word.Word.{Word}
use Rattle.text_lines.specs.Lines.{LineText}
use Rattle.text_lines.specs.Words.{WordText}
use Rattle.text_lines.specs.WordLines.{WordLine, word_line}
use Rattle.text_lines.specs.WordsOf.{words_of}

-- the line as a text
abbrev pub line_text : Line → LineText
line_text line = record { number = line.number; bytes = line.bytes.now }

-- the word as a text
abbrev pub word_text : Word → WordText
word_text word = record { column = word.column; bytes = word.bytes.now }

-- the words of a line, each by its bytes
abbrev pub line_words : List ℕ → List (List ℕ)
line_words line = map (λ w. w.bytes) (words_of line)

-- the line by its words
abbrev pub row_of_line : Line → WordLine
row_of_line line = word_line (line_text line)
