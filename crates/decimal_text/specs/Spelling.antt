-- Words that write numbers: a mantissa of digits, which may have a point, and an exponent or none.
use Rattle.std.specs.Prelude.{◌≡◌, ℕ, ◌+◌, ◌<◌, ◌⊎◌, Option, Some, None, unwrap_or, List, [], ◌∷◌, ◌++◌, length, ⊤}
use Rattle.std.specs.Str.Parse.{AllDigits, IsNumeral}

-- the digits before the point, and, where there is a point, those after it
pub record MantissaSpelling : Type 0 where
  pub whole : List ℕ
  pub decimals : Option (List ℕ)

-- the digits after the point: none where there is no point
abbrev pub decimals_of : MantissaSpelling → List ℕ
decimals_of m = unwrap_or m.decimals []

-- a point, the byte 46, and what follows it
abbrev pub decimals_text : Option (List ℕ) → List ℕ
decimals_text None = []
decimals_text (Some digits) = 46 ∷ digits

abbrev pub mantissa_text : MantissaSpelling → List ℕ
mantissa_text m = m.whole ++ decimals_text m.decimals

-- a mantissa has digits, before the point or after it, and nothing else but the point
pub record IsMantissa (m : MantissaSpelling) : Type 0 where
  pub whole : AllDigits 10 m.whole
  pub decimals : AllDigits 10 (decimals_of m)
  pub some : 0 < length m.whole + length (decimals_of m)

pub data Sign : Type 0 where
  NoSign : Sign
  Plus : Sign
  Minus : Sign

-- a sign's byte: 43 is `+` and 45 is `-`
abbrev pub sign_text : Sign → List ℕ
sign_text NoSign = []
sign_text Plus = 43 ∷ []
sign_text Minus = 45 ∷ []

-- a letter, a sign or none, and digits
pub record ExponentSpelling : Type 0 where
  pub letter : ℕ
  pub sign : Sign
  pub digits : List ℕ

abbrev pub exponent_text : Option ExponentSpelling → List ℕ
exponent_text None = []
exponent_text (Some e) = e.letter ∷ (sign_text e.sign ++ e.digits)

-- an exponent begins with `e`, the byte 101, or `E`, the byte 69, and has digits
pub record IsWritten (e : ExponentSpelling) : Type 0 where
  pub letter : (e.letter ≡ 101) ⊎ (e.letter ≡ 69)
  pub digits : IsNumeral 10 e.digits

-- a number may have no exponent
abbrev pub IsExponent : Option ExponentSpelling → Type 0
IsExponent None = ⊤
IsExponent (Some e) = IsWritten e

-- the parts of a word
pub record Spelling : Type 0 where
  pub mantissa : MantissaSpelling
  pub exponent : Option ExponentSpelling

abbrev pub spelling_text : Spelling → List ℕ
spelling_text s = mantissa_text s.mantissa ++ exponent_text s.exponent

-- the parts of a number's word
pub record IsSpelling (s : Spelling) : Type 0 where
  pub mantissa : IsMantissa s.mantissa
  pub exponent : IsExponent s.exponent

-- the word has these parts, and they are those of a number
pub record IsSpelledAs (word : List ℕ) (s : Spelling) : Type 0 where
  pub text : word ≡ spelling_text s
  pub parts : IsSpelling s

-- the word is in the grammar of numbers
abbrev pub IsNumber : List ℕ → Type 0
IsNumber word = (s : Spelling) × IsSpelledAs word s
