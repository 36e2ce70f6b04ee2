-- The tokens of a line.
use Rattle.std.specs.Prelude.{◌≡◌, ℕ, ◌⊎◌, IsTrue, List, [], ◌∷◌, codes}
use Rattle.std.specs.Str.{bytes_eq}
use Rattle.std.specs.List.{position_or_len}
use Rattle.decimal_text.specs.DecimalWord.{IsDecimalWord}
use Rattle.text_lines.specs.Name.{is_name}
use Rattle.text_lines.specs.Words.{is_blank}
use Rattle.csl_syntax.specs.TokenText.{IsTokenBefore}
use Rattle.csl_syntax.specs.declared.formula.Op.{Op}
use Rattle.csl_syntax.specs.declared.formula.Op.TheVariants.{Less, AtMost, More, AtLeast}
use Rattle.csl_syntax.specs.declared.token.Token.{Token}
use Rattle.csl_syntax.specs.declared.token.Token.TheVariants.{Truth, Falsehood, Name, ProbabilityWord, NextWord, UntilWord, ReservedWord}
use Rattle.csl_syntax.specs.declared.token.Token.TheVariants.{Bang, AndAnd, OrOr, OpenParen, CloseParen, OpenBrace, CloseBrace}
use Rattle.csl_syntax.specs.declared.token.Token.TheVariants.{OpenBracket, CloseBracket, Comma, Tilde, Compare, Number}

-- the place of a name among the labels, or their number where it is none of them
abbrev pub label_number : List (List ℕ) → List ℕ → ℕ
label_number labels name = position_or_len (λ label. bytes_eq label name) labels

-- a comparison as it is written
abbrev pub op_text : Op → List ℕ
op_text Less = codes "<"
op_text AtMost = codes "<="
op_text More = codes ">"
op_text AtLeast = codes ">="

-- over these labels the text writes this token
abbrev pub Writes : List (List ℕ) → List ℕ → Token → Type 0
Writes labels text Truth = text ≡ codes "tt"
Writes labels text Falsehood = text ≡ codes "ff"
Writes labels text (Name j) = IsTrue (is_name text) × (j ≡ label_number labels text)
Writes labels text ProbabilityWord = text ≡ codes "P"
Writes labels text NextWord = text ≡ codes "X"
Writes labels text UntilWord = text ≡ codes "U"
Writes labels text ReservedWord = (text ≡ codes "S") ⊎ (text ≡ codes "quit")
Writes labels text Bang = text ≡ codes "!"
Writes labels text AndAnd = text ≡ codes "&&"
Writes labels text OrOr = text ≡ codes "||"
Writes labels text OpenParen = text ≡ codes "("
Writes labels text CloseParen = text ≡ codes ")"
Writes labels text OpenBrace = text ≡ codes "{"
Writes labels text CloseBrace = text ≡ codes "}"
Writes labels text OpenBracket = text ≡ codes "["
Writes labels text CloseBracket = text ≡ codes "]"
Writes labels text Comma = text ≡ codes ","
Writes labels text Tilde = text ≡ codes "~"
Writes labels text (Compare op) = text ≡ op_text op
Writes labels text (Number value) = IsDecimalWord text value

-- over these labels the token t stands at the head of the bytes, and the rest comes after it
pub record BeginsWithToken (labels : List (List ℕ)) (bytes : List ℕ) (t : Token) (rest : List ℕ) : Type 0 where
  pub text : List ℕ
  pub longest : IsTokenBefore bytes text rest
  pub writes : Writes labels text t

-- over these labels the bytes before the rest are these tokens, each the longest that fits at its place, and spaces and tabs between them
pub data HasTokens (labels : List (List ℕ)) : List ℕ → List Token → List ℕ → Type 0 where
  no_more : {rest : List ℕ} → HasTokens labels rest [] rest
  skip : {bytes more rest : List ℕ} {b : ℕ} {ts : List Token} → bytes ≡ b ∷ more → IsTrue (is_blank b) → HasTokens labels more ts rest
      → HasTokens labels bytes ts rest
  take_token : {bytes more rest : List ℕ} {t : Token} {ts : List Token} → BeginsWithToken labels bytes t more
      → HasTokens labels more ts rest
      → HasTokens labels bytes (t ∷ ts) rest
