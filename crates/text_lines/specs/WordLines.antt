-- The lines of a text that are not blank, each with its words.
use Rattle.std.specs.Prelude.{◌≡◌, ℕ, Bool, true, false, List, [], ◌∷◌, map, filter}
use Rattle.std.specs.List.{AllZip}
use Rattle.text_lines.specs.Lines.{LineText, HasLines}
use Rattle.text_lines.specs.LinesOf.{lines_of}
use Rattle.text_lines.specs.Words.{WordText, HasWords}
use Rattle.text_lines.specs.WordsOf.{words_of}

-- a line by its words: its number, and the bytes of each word in order
pub record WordLine : Type 0 where
  pub number : ℕ
  pub words : List (List ℕ)

-- the line has these words, and the row gives their bytes under the line's number
pub record IsWordLine (line : LineText) (row : WordLine) : Type 0 where
  pub number : row.number ≡ line.number
  pub words : List WordText
  pub are : HasWords line.bytes words
  pub bytes : row.words ≡ map (λ w. w.bytes) words

-- there is a word
abbrev pub is_some_word : List (List ℕ) → Bool
is_some_word [] = false
is_some_word (w ∷ ws) = true

-- the line isn't blank: it has a word
abbrev pub has_words : WordLine → Bool
has_words row = is_some_word row.words

-- these are the text's lines that are not blank, in order, each by its words
pub record HasWordLines (text : List ℕ) (rows : List WordLine) : Type 0 where
  pub lines : List LineText
  pub each : List WordLine
  pub are : HasLines text lines
  pub by_words : AllZip IsWordLine lines each
  pub not_blank : rows ≡ filter has_words each

-- the line by its words
abbrev pub word_line : LineText → WordLine
word_line line = record { number = line.number; words = map (λ w. w.bytes) (words_of line.bytes) }

-- those of the lines that are not blank, each by its words
abbrev pub word_lines_in : List LineText → List WordLine
word_lines_in lines = filter has_words (map word_line lines)

-- those of the text
abbrev pub word_lines_of : List ℕ → List WordLine
word_lines_of text = word_lines_in (lines_of text)
