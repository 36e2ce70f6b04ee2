-- What is wrong with a line, and in which column: the first of its tokens that doesn't pass. A token is unexpected as soon as no formula
-- begins with the tokens up to and with it (the correct prefix property: Aho, Ullman 1972).
use Rattle.std.specs.Prelude.{◌≡◌, ℕ, ◌+◌, ◌<◌, ◌≤◌, ◌⊎◌, IsTrue, List, [], ◌∷◌, ◌++◌, length, ⊤}
use Rattle.decimal_text.specs.DecimalNumber.{DecimalNumber}
use Rattle.decimal_text.specs.DecimalWord.{HasNumberFault}
use Rattle.decimal_text.specs.declared.number_fault.NumberFault.{NumberFault}
use Rattle.text_lines.specs.Words.{is_blank}
use Rattle.csl_syntax.specs.declared.limits.TheConstants.{MOST_BYTES}
use Rattle.csl_syntax.specs.declared.fault.FormulaWhat.{FormulaWhat}
use Rattle.csl_syntax.specs.declared.fault.FormulaWhat.TheVariants as what
use Rattle.csl_syntax.specs.declared.formula.Op.{Op}
use Rattle.csl_syntax.specs.declared.token.Token.{Token}
use Rattle.csl_syntax.specs.declared.token.Token.TheVariants.{Name, ProbabilityWord, Bang, OpenParen, Compare, Number}
use Rattle.csl_syntax.specs.Tree.{IsUpTo}
use Rattle.csl_syntax.specs.TokenText.{IsNumberText, IsTokenText, IsTokenBefore}
use Rattle.csl_syntax.specs.Tokens.{BeginsWithToken, HasTokens}
use Rattle.csl_syntax.specs.Grammar.{BeginsWithin, Begins, IsSpelled}
use Rattle.csl_syntax.specs.FormulaText.{line_limits}

-- the first of the bytes is there, is no blank, and begins no token
pub record HasNoToken (bytes : List ℕ) : Type 0 where
  pub first : ℕ
  pub others : List ℕ
  pub stands : bytes ≡ first ∷ others
  pub not_blank : ¬ IsTrue (is_blank first)
  pub none : (text more : List ℕ) → bytes ≡ text ++ more → ¬ IsTokenText text

-- at the head of the bytes stands what begins as a number, and it is none, or none within the limits of a decimal
pub record HasFaultyNumber (bytes : List ℕ) : Type 0 where
  pub text : List ℕ
  pub more : List ℕ
  pub longest : IsTokenBefore bytes text more
  pub number : IsNumberText text
  pub fault : NumberFault
  pub has : HasNumberFault text fault

-- at the head of the bytes stands a token such that no formula begins with the tokens before it and with it
pub record HasUnexpectedToken (labels : List (List ℕ)) (before : List Token) (bytes : List ℕ) : Type 0 where
  pub token : Token
  pub more : List ℕ
  pub next : BeginsWithToken labels bytes token more
  pub unexpected : ¬ Begins (before ++ token ∷ [])

-- no bytes are left, and the tokens are no whole formula
pub record EndsTooEarly (before : List Token) (bytes : List ℕ) : Type 0 where
  pub none_left : bytes ≡ []
  pub unfinished : ¬ IsSpelled before

-- at the head of the bytes stands a name that isn't a label's, where a name may stand
pub record HasUnknownName (labels : List (List ℕ)) (before : List Token) (bytes : List ℕ) : Type 0 where
  pub place : ℕ
  pub more : List ℕ
  pub next : BeginsWithToken labels bytes (Name place) more
  pub expected : Begins (before ++ Name place ∷ [])
  pub unknown : length labels ≤ place

-- at the head of the bytes stands, after a comparison, a number that is greater than 1
pub record HasGreatThreshold (labels : List (List ℕ)) (before : List Token) (bytes : List ℕ) : Type 0 where
  pub op : Op
  pub earlier : List Token
  pub after_op : before ≡ earlier ++ Compare op ∷ []
  pub value : DecimalNumber
  pub more : List ℕ
  pub next : BeginsWithToken labels bytes (Number value) more
  pub expected : Begins (before ++ Number value ∷ [])
  pub great : ¬ IsUpTo 1 value

-- with the token a construct begins that encloses others
abbrev pub IsEnclosing : Token → Type 0
IsEnclosing Bang = ⊤
IsEnclosing OpenParen = ⊤
IsEnclosing ProbabilityWord = ⊤
IsEnclosing other = ⊥

-- at the head of the bytes begins a construct that too many others enclose: formulas go on so, but each of them nests more than a
-- line's may
pub record HasDeepConstruct (labels : List (List ℕ)) (before : List Token) (bytes : List ℕ) : Type 0 where
  pub token : Token
  pub encloses : IsEnclosing token
  pub more : List ℕ
  pub next : BeginsWithToken labels bytes token more
  pub expected : Begins (before ++ token ∷ [])
  pub deep : ¬ BeginsWithin (line_limits labels) (before ++ token ∷ [])

-- after the tokens before, all of which pass, the bytes fail so
abbrev pub FailsBy : List (List ℕ) → List Token → List ℕ → FormulaWhat → Type 0
FailsBy labels before bytes what.Token = HasNoToken bytes
FailsBy labels before bytes what.Number = HasFaultyNumber bytes
FailsBy labels before bytes what.Expected = HasUnexpectedToken labels before bytes ⊎ EndsTooEarly before bytes
FailsBy labels before bytes what.UnknownLabel = HasUnknownName labels before bytes
FailsBy labels before bytes what.Threshold = HasGreatThreshold labels before bytes
FailsBy labels before bytes what.Depth = HasDeepConstruct labels before bytes
FailsBy labels before bytes what.Length = ⊥

-- the line isn't too long, and in this column, from 1, it fails so, after tokens all of which pass: a formula within the limits
-- begins with them
pub record LineFailsAt (line : List ℕ) (labels : List (List ℕ)) (column : ℕ) (fault : FormulaWhat) : Type 0 where
  pub short : length line ≤ MOST_BYTES
  pub before : List Token
  pub rest : List ℕ
  pub has : HasTokens labels line before rest
  pub pass : BeginsWithin (line_limits labels) before
  pub here : column + length rest ≡ length line + 1
  pub fails : FailsBy labels before rest fault

-- over these labels the line has this fault in this column: it is too long, which is told behind the last byte that it may have, or the
-- first token that doesn't pass fails so
abbrev pub FormulaFaultAt : List ℕ → List (List ℕ) → ℕ → FormulaWhat → Type 0
FormulaFaultAt line labels column what.Length = (MOST_BYTES < length line) × (column ≡ MOST_BYTES + 1)
FormulaFaultAt line labels column other = LineFailsAt line labels column other
