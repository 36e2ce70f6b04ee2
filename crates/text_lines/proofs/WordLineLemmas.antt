-- The lines that are not blank: `word_lines_of` gives them, and there are no others.
use Rattle.std.proofs.Common.{◌≡◌, List, [], ◌∷◌, map, filter, ℕ, refl, ap, ◌∙◌}
use Rattle.std.specs.List.{AllZip}
use Rattle.text_lines.specs.Lines.{LineText}
use Rattle.text_lines.specs.LinesOf.{lines_of}
use Rattle.text_lines.specs.Words.{WordText}
use Rattle.text_lines.specs.WordsOf.{words_of}
use Rattle.text_lines.specs.WordLines.{WordLine, IsWordLine, has_words, HasWordLines, word_line, word_lines_in, word_lines_of}
use Rattle.text_lines.proofs.LineLemmas.{lines_exist, lines_unique}
use Rattle.text_lines.proofs.WordLemmas.{words_exist, words_unique}

is_word_line : (line : LineText) → IsWordLine line (word_line line)
is_word_line line = record { number = refl; words = words_of line.bytes; are = words_exist line.bytes; bytes = refl }

are_word_lines : (lines : List LineText) → AllZip IsWordLine lines (map word_line lines)
are_word_lines [] = tt
are_word_lines (l ∷ ls) = (is_word_line l, are_word_lines ls)

-- `word_lines_of` gives the lines that are not blank
pub word_lines_exist : (text : List ℕ) → HasWordLines text (word_lines_of text)
word_lines_exist text = record {
  lines = lines_of text;
  each = map word_line (lines_of text);
  are = lines_exist text;
  by_words = are_word_lines (lines_of text);
  not_blank = refl;
}

row_is : (line : LineText) (row : WordLine) → IsWordLine line row → row ≡ word_line line
row_is line row h =
    let words : row.words ≡ map (λ w. w.bytes) (words_of line.bytes) =
    h.bytes ∙ ap (map (λ (w : WordText). w.bytes)) (words_unique line.bytes h.words h.are)
    in
    same_rows row.number line.number row.words (map (λ w. w.bytes) (words_of line.bytes)) h.number words
  where
    same_rows : (m n : ℕ) (vs ws : List (List ℕ)) → m ≡ n → vs ≡ ws
        → ◌≡◌ {A = WordLine} (record { number = m; words = vs }) (record { number = n; words = ws })
    same_rows m n vs ws e f =
        let by_number : ℕ → WordLine = λ z. record { number = z; words = vs } in
        let by_words : List (List ℕ) → WordLine = λ z. record { number = n; words = z } in
        ap by_number e ∙ ap by_words f

rows_are : (lines : List LineText) (rows : List WordLine) → AllZip IsWordLine lines rows → rows ≡ map word_line lines
rows_are [] [] h = refl
rows_are [] (r ∷ rs) h = absurd h
rows_are (l ∷ ls) [] h = absurd h
rows_are (l ∷ ls) (r ∷ rs) h = ap (λ z. z ∷ rs) (row_is l r h.0) ∙ ap (λ z. word_line l ∷ z) (rows_are ls rs h.1)

-- there are no others
pub word_lines_unique : (text : List ℕ) (rows : List WordLine) → HasWordLines text rows → rows ≡ word_lines_of text
word_lines_unique text rows h =
    h.not_blank
    ∙ ap (filter has_words) (rows_are h.lines h.each h.by_words ∙ ap (map word_line) (lines_unique text h.lines h.are))

-- a blank line is left out
pub word_lines_in-blank : (line : LineText) (lines : List LineText) → words_of line.bytes ≡ []
    → word_lines_in (line ∷ lines) ≡ word_lines_in lines
word_lines_in-blank line lines e = left_out line.number (words_of line.bytes) (map word_line lines) e where
  left_out : (n : ℕ) (ws : List WordText) (rows : List WordLine) → ws ≡ []
      → filter has_words (record { number = n; words = map (λ w. w.bytes) ws } ∷ rows) ≡ filter has_words rows
  left_out n [] rows e = refl
  left_out n (w ∷ ws) rows e = cc

-- any other line stands there by its words
pub word_lines_in-filled : (line : LineText) (lines : List LineText) (w : WordText) (ws : List WordText) → words_of line.bytes ≡ w ∷ ws
    → word_lines_in (line ∷ lines) ≡ word_line line ∷ word_lines_in lines
word_lines_in-filled line lines w ws e = stays line.number (words_of line.bytes) (map word_line lines) e where
  stays : (n : ℕ) (vs : List WordText) (rows : List WordLine) → vs ≡ w ∷ ws
      → filter has_words (record { number = n; words = map (λ v. v.bytes) vs } ∷ rows) ≡ record
      { number = n; words = map (λ v. v.bytes) vs } ∷ filter has_words rows
  stays n [] rows e = cc
  stays n (v ∷ vs) rows e = refl
