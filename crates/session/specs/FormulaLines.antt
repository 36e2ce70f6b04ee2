-- The lines of the formulas' input that are answered.
use Rattle.std.specs.Prelude.{ℕ, List, [], ◌∷◌, codes, bytes_eq, if◌then◌else◌}
use Rattle.session.specs.declared.formula_lines.LineKind.{LineKind}
use Rattle.session.specs.declared.formula_lines.LineKind.TheVariants.{Blank, Quit, Formula}
use Rattle.text_lines.specs.Items.{line_words}
use Rattle.text_lines.specs.Lines.{LineText}
use Rattle.text_lines.specs.LinesOf.{lines_of}

-- what a line of these words gives, before the lines that come after it: nothing where it is blank, and where `quit` is its only word it is
-- the end
abbrev pub line_then : List (List ℕ) → LineText → List LineText → List LineText
line_then [] line later = later
line_then (word ∷ []) line later = if bytes_eq word (codes "quit") then [] else line ∷ later
line_then (word ∷ more ∷ words) line later = line ∷ later

-- of these lines those that aren't blank, up to the first whose only word is `quit`
abbrev pub answered_lines : List LineText → List LineText
answered_lines [] = []
answered_lines (line ∷ lines) = line_then (line_words line.bytes) line (answered_lines lines)

-- the lines of the input that are answered, with their numbers among all
abbrev pub formula_lines : List ℕ → List LineText
formula_lines input = answered_lines (lines_of input)

-- the kind of a line of these words
abbrev pub line_kind : List (List ℕ) → LineKind
line_kind [] = Blank
line_kind (word ∷ []) = if bytes_eq word (codes "quit") then Quit else Formula
line_kind (word ∷ more ∷ words) = Formula
