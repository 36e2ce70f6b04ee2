-- The texts of tokens: words, numbers and symbols. At its place a token is the longest text that fits (the rule of Lex: Lesk 1975).
use Rattle.std.specs.Prelude.{◌≡◌, ℕ, ◌<◌, ◌≤◌, ◌⊎◌, Bool, false, ◌&&◌, ◌||◌, ◌==◌, IsTrue, Option, List, [], ◌∷◌, ◌++◌, length, codes}
use Rattle.std.specs.Prelude.{bytes_eq}
use Rattle.std.specs.Char.{is_ascii_digit}
use Rattle.std.specs.List.{list_all, list_any}
use Rattle.decimal_text.specs.Spelling.{ExponentSpelling, exponent_text, IsExponent}
use Rattle.text_lines.specs.Name.{begins_name, continues_name}

-- a word: an ASCII letter or `_`, then letters, digits and `_`
abbrev pub is_word : List ℕ → Bool
is_word [] = false
is_word (first ∷ rest) = begins_name first && list_all continues_name rest

-- a digit or a point, the byte 46
abbrev pub is_digit_or_point : ℕ → Bool
is_digit_or_point b = is_ascii_digit b || b == 46

-- what begins as a number: digits and points, and then an exponent or none. It need not be a number, as `1.2.3` and `.` are none
pub record IsNumberText (text : List ℕ) : Type 0 where
  pub run : List ℕ
  pub exponent : Option ExponentSpelling
  pub spelled : text ≡ run ++ exponent_text exponent
  pub some : 0 < length run
  pub digits_and_points : IsTrue (list_all is_digit_or_point run)
  pub written : IsExponent exponent

-- the symbols
abbrev pub symbols : List (List ℕ)
symbols =
    codes "&&" ∷ codes "||" ∷ codes "!" ∷ codes "(" ∷ codes ")" ∷ codes "{" ∷ codes "}" ∷ codes "[" ∷ codes "]"
    ∷ codes "," ∷ codes "~" ∷ codes "<=" ∷ codes ">=" ∷ codes "<" ∷ codes ">" ∷ []

-- one of these
abbrev pub is_symbol : List ℕ → Bool
is_symbol text = list_any (bytes_eq text) symbols

-- the text of some token
abbrev pub IsTokenText : List ℕ → Type 0
IsTokenText text = IsTrue (is_word text) ⊎ (IsNumberText text ⊎ IsTrue (is_symbol text))

-- at the head of the bytes stands a token of this text, no longer one fits there, and after it come the others
pub record IsTokenBefore (bytes text after : List ℕ) : Type 0 where
  pub stands : bytes ≡ text ++ after
  pub fits : IsTokenText text
  pub longest : (other more : List ℕ) → bytes ≡ other ++ more → IsTokenText other → length other ≤ length text
