-- Names of labels.
use Rattle.std.specs.Prelude.{ℕ, Bool, false, ◌&&◌, ◌||◌, ◌==◌, not, List, [], ◌∷◌, codes, bytes_eq}
use Rattle.std.specs.Char.{is_ascii_alphabetic, is_ascii_digit}
use Rattle.std.specs.List.{list_all, list_any}

-- a byte that may begin a name: an ASCII letter or `_`
abbrev pub begins_name : ℕ → Bool
begins_name b = is_ascii_alphabetic b || b == 95

-- a byte that may follow in a name: these, and the digits
abbrev pub continues_name : ℕ → Bool
continues_name b = begins_name b || is_ascii_digit b

-- the words that the formula language keeps for itself
abbrev pub reserved_words : List (List ℕ)
reserved_words = codes "tt" ∷ codes "ff" ∷ codes "P" ∷ codes "S" ∷ codes "X" ∷ codes "U" ∷ codes "quit" ∷ []

-- one of these words
abbrev pub is_reserved : List ℕ → Bool
is_reserved word = list_any (bytes_eq word) reserved_words

-- a name: a letter or `_`, then letters, digits and `_`, and no reserved word
abbrev pub is_name : List ℕ → Bool
is_name [] = false
is_name (first ∷ rest) = begins_name first && list_all continues_name rest && not (is_reserved (first ∷ rest))
