-- What the laws say.
use Rattle.std.specs.Prelude.{All, IsTrue, ◌↔◌, ◌≡◌, ℕ, List}
use Rattle.text_lines.specs.Lines.{LineText, HasLines}
use Rattle.text_lines.specs.LinesOf.{lines_of}
use Rattle.text_lines.specs.Words.{WordText, is_blank, HasWords, IsBlank}
use Rattle.text_lines.specs.WordsOf.{words_of}
use Rattle.text_lines.specs.WordLines.{WordLine, HasWordLines, word_lines_of}

-- `lines_of` gives a text's lines
abbrev pub LinesOfAreLines : Type 0
LinesOfAreLines = (text : List ℕ) → HasLines text (lines_of text)

-- a text has no other lines
abbrev pub LinesAreUnique : Type 0
LinesAreUnique = (text : List ℕ) (lines : List LineText) → HasLines text lines → lines ≡ lines_of text

-- `words_of` gives a line's words
abbrev pub WordsOfAreWords : Type 0
WordsOfAreWords = (line : List ℕ) → HasWords line (words_of line)

-- a line has no other words
abbrev pub WordsAreUnique : Type 0
WordsAreUnique = (line : List ℕ) (words : List WordText) → HasWords line words → words ≡ words_of line

-- a line is blank exactly where each of its bytes is a blank
abbrev pub BlankLinesHaveBlanksAlone : Type 0
BlankLinesHaveBlanksAlone = (line : List ℕ) → IsBlank line ↔ All (λ b. IsTrue (is_blank b)) line

-- `word_lines_of` gives a text's lines that are not blank, by their words
abbrev pub WordLinesOfAreWordLines : Type 0
WordLinesOfAreWordLines = (text : List ℕ) → HasWordLines text (word_lines_of text)

-- a text has no others
abbrev pub WordLinesAreUnique : Type 0
WordLinesAreUnique = (text : List ℕ) (rows : List WordLine) → HasWordLines text rows → rows ≡ word_lines_of text
