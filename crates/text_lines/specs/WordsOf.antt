-- The words of a line as a function of its bytes.
use Rattle.std.specs.Prelude.{ℕ, ◌+◌, Bool, false, not, if◌then◌else◌, List, [], ◌∷◌}
use Rattle.text_lines.specs.Words.{WordText, is_blank}

-- the first of the bytes is there, and no blank
abbrev pub begins_word : List ℕ → Bool
begins_word [] = false
begins_word (b ∷ bs) = not (is_blank b)

-- b, which stands in this column, put before the first of these words
abbrev pub lengthened : ℕ → ℕ → List WordText → List WordText
lengthened column b [] = record { column = column; bytes = b ∷ [] } ∷ []
lengthened column b (w ∷ ws) = record { column = column; bytes = b ∷ w.bytes } ∷ ws

-- the words of bytes of which the first stands in this column, and has no byte of a word before it
unfoldable pub words_from : ℕ → List ℕ → List WordText
words_from column [] = []
words_from column (b ∷ bs) =
    let more = words_from (column + 1) bs in
    if is_blank b then more
    else if begins_word bs then lengthened column b more
    else record { column = column; bytes = b ∷ [] } ∷ more

-- the words of the line, with their columns from 1
abbrev pub words_of : List ℕ → List WordText
words_of line = words_from 1 line
