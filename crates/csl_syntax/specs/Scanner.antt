-- What the scanner's own functions say.
use Rattle.std.specs.Prelude.{◌≡◌, ◌≢◌, ℕ, ◌<◌, ◌⊎◌, ⊤, Bool, false, IsTrue, not, Some, List, [], ◌∷◌, ◌++◌, length, All}
use Rattle.std.specs.Char.{is_ascii_digit}
use Rattle.std.specs.List.{list_all}
use Rattle.decimal_text.specs.Spelling.{ExponentSpelling, exponent_text, IsWritten}
use Rattle.text_lines.specs.Name.{continues_name}
use Rattle.text_lines.specs.Words.{is_blank}
use Rattle.csl_syntax.specs.FormulaFault.{HasNoToken, HasFaultyNumber}
use Rattle.csl_syntax.specs.TokenText.{is_digit_or_point, IsNumberText, is_symbol, IsTokenBefore}
use Rattle.csl_syntax.specs.Tokens.{Writes}
use Rattle.csl_syntax.specs.declared.fault.FormulaWhat.{FormulaWhat}
use Rattle.csl_syntax.specs.declared.fault.FormulaWhat.TheVariants as what
use Rattle.csl_syntax.specs.declared.run.Class.{Class}
use Rattle.csl_syntax.specs.declared.run.Class.TheVariants.{Word, Mantissa, Digit}
use Rattle.csl_syntax.specs.declared.token.Token.{Token}

-- the bytes of the class
abbrev pub passes : Class → ℕ → Bool
passes Word b = continues_name b
passes Mantissa b = is_digit_or_point b
passes Digit b = is_ascii_digit b

-- the first of the bytes, if there is one, doesn't pass
abbrev pub EndsRun : (ℕ → Bool) → List ℕ → Type 0
EndsRun p s = (b : ℕ) (more : List ℕ) → s ≡ b ∷ more → p b ≡ false

-- the bytes are a longest run of bytes that pass, and then the rest
pub record SplitsRun (p : ℕ → Bool) (bytes run rest : List ℕ) : Type 0 where
  pub split : bytes ≡ run ++ rest
  pub all : IsTrue (list_all p run)
  pub ends : EndsRun p rest

-- the bytes are all digits that stand at their head, at least one, and then the rest
pub record BeginsWithDigits (bytes rest : List ℕ) : Type 0 where
  pub digits : List ℕ
  pub some : 0 < length digits
  pub splits : SplitsRun is_ascii_digit bytes digits rest

-- the bytes are an exponent, with all digits that follow, and then the rest
pub record BeginsWithExponent (bytes rest : List ℕ) : Type 0 where
  pub exponent : ExponentSpelling
  pub written : IsWritten exponent
  pub split : bytes ≡ exponent_text (Some exponent) ++ rest
  pub ends : EndsRun is_ascii_digit rest

-- no exponent stands at the head of the bytes
abbrev pub HasNoExponent : List ℕ → Type 0
HasNoExponent bytes = (exponent : ExponentSpelling) (rest : List ℕ) → IsWritten exponent → bytes ≢ exponent_text (Some exponent) ++ rest

-- there are no bytes, or the first is no sign: neither `+`, the byte 43, nor `-`, the byte 45
abbrev pub BeginsWithNoSign : List ℕ → Type 0
BeginsWithNoSign [] = ⊤
BeginsWithNoSign (b ∷ bs) = (b ≢ 43) × (b ≢ 45)

-- the bytes are a sign, and then the rest
abbrev pub BeginsWithSign : List ℕ → List ℕ → Type 0
BeginsWithSign bytes rest = (bytes ≡ 43 ∷ rest) ⊎ (bytes ≡ 45 ∷ rest)

-- the longest token of the bytes is this text, which begins as a number, and then comes the rest
pub record SplitsNumber (bytes text rest : List ℕ) : Type 0 where
  pub longest : IsTokenBefore bytes text rest
  pub number : IsNumberText text

-- the first two bytes, if there are two, are no symbol
abbrev pub HasNoPair : List ℕ → Type 0
HasNoPair bytes = (b c : ℕ) (more : List ℕ) → bytes ≡ b ∷ c ∷ more → is_symbol (b ∷ c ∷ []) ≡ false

-- neither the first byte nor the first two are a symbol
pub record HasNoSymbol (bytes : List ℕ) : Type 0 where
  pub single : (b : ℕ) (more : List ℕ) → bytes ≡ b ∷ more → is_symbol (b ∷ []) ≡ false
  pub pair : HasNoPair bytes

-- the text is a symbol, and writes this token over any labels
pub record IsSymbolOf (text : List ℕ) (token : Token) : Type 0 where
  pub symbol : IsTrue (is_symbol text)
  pub writes : (labels : List (List ℕ)) → Writes labels text token

-- at the head of the bytes stands no token, or what begins as a number and is none
abbrev pub FailsAtHead : List ℕ → FormulaWhat → Type 0
FailsAtHead bytes what.Token = HasNoToken bytes
FailsAtHead bytes what.Number = HasFaultyNumber bytes
FailsAtHead bytes other = ⊥

-- the bytes are blanks, and then the rest, which begins with none
pub record SkipsBlanks (bytes rest : List ℕ) : Type 0 where
  pub blanks : List ℕ
  pub split : bytes ≡ blanks ++ rest
  pub all : All (λ b. IsTrue (is_blank b)) blanks
  pub ends : (b : ℕ) (more : List ℕ) → rest ≡ b ∷ more → IsTrue (not (is_blank b))
