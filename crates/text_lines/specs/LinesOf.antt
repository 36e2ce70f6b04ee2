-- The lines of a text as a function of its bytes.
use Rattle.std.specs.Prelude.{ℕ, ◌+◌, Bool, false, ◌&&◌, ◌==◌, if◌then◌else◌, List, [], ◌∷◌, length}
use Rattle.std.specs.List.{onto_first}
use Rattle.text_lines.specs.Lines.{LineText, numbered_from}

-- the first of the bytes is LF
abbrev pub begins_with_lf : List ℕ → Bool
begins_with_lf [] = false
begins_with_lf (b ∷ bs) = b == 10

-- each line's bytes: LF ends a line, CR before LF is no part of one, and any other byte belongs to the line that it stands in
unfoldable pub line_bytes : List ℕ → List (List ℕ)
line_bytes [] = []
line_bytes (b ∷ bs) =
    if b == 10 then [] ∷ line_bytes bs
    else if b == 13 && begins_with_lf bs then line_bytes bs
    else onto_first b (line_bytes bs)

-- the lines of the text, numbered from 1
abbrev pub lines_of : List ℕ → List LineText
lines_of text = numbered_from 1 (line_bytes text)

-- the number of lines plus 1: where a file that lacks a line ends
abbrev pub end_line_of : List ℕ → ℕ
end_line_of text = length (lines_of text) + 1
