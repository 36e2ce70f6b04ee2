-- Whole numbers.
use Rattle.std.specs.Prelude.{◌≡◌, ℕ, List}
use Rattle.std.specs.Str.Parse.{IsNumeral, digits_value}

-- the word is a digit or more and nothing else; leading zeros are allowed
abbrev pub IsWhole : List ℕ → Type 0
IsWhole word = IsNumeral 10 word

-- the number that the digits of a word write
abbrev pub whole_value : List ℕ → ℕ
whole_value word = digits_value 10 word

-- the word writes the whole number n
pub record IsWholeNumber (word : List ℕ) (n : ℕ) : Type 0 where
  pub digits : IsWhole word
  pub value : whole_value word ≡ n
