-- The grammar of formulas, a rule a constructor. That a derivation says which tokens it leaves over is the way of difference lists (Clark,
-- Tärnlund 1977).
use Rattle.std.specs.Prelude.{◌≡◌, ℕ, suc, ◌<◌, List, [], ◌∷◌, ◌++◌}
use Rattle.decimal_text.specs.DecimalNumber.{DecimalNumber}
use Rattle.csl_syntax.specs.declared.formula.Op.{Op}
use Rattle.csl_syntax.specs.declared.formula.Bound.{Bound}
use Rattle.csl_syntax.specs.declared.formula.Bound.TheVariants.{Unbounded, Time, Reward}
use Rattle.csl_syntax.specs.declared.token.Token.{Token}
use Rattle.csl_syntax.specs.declared.token.Token.TheVariants.{Truth, Falsehood, Name, ProbabilityWord, NextWord, UntilWord, Bang, AndAnd}
use Rattle.csl_syntax.specs.declared.token.Token.TheVariants.{OrOr, OpenParen, CloseParen, OpenBrace, CloseBrace, OpenBracket}
use Rattle.csl_syntax.specs.declared.token.Token.TheVariants.{CloseBracket, Comma, Tilde, Compare, Number}
use Rattle.csl_syntax.specs.Tree.{Tree, truth, falsehood, label, negation, conjunction, disjunction, next, until, IsUpTo}

-- what a formula may have at most: this many labels, thresholds up to this number, and this many constructs that are nested
pub record Limits : Type 0 where
  pub labels : ℕ
  pub threshold : ℕ
  pub nested : ℕ

-- a disjunction, a conjunction, a negation, or what stands alone
pub data Level : Type 0 where
  formula conj unary atom : Level

-- `P`, a threshold in braces, and the bracket that opens
abbrev pub operator : Op → DecimalNumber → List Token → List Token
operator op threshold s = ProbabilityWord ∷ OpenBrace ∷ Compare op ∷ Number threshold ∷ CloseBrace ∷ OpenBracket ∷ s

-- however it is spelled
abbrev pub IsZero : DecimalNumber → Type 0
IsZero d = d.c ≡ 0

-- the tokens of s before r are the bound: nothing, `[0,~]`, `[0,t]`, or `[0,~][0,r]`
pub data IsBound : Bound → List Token → List Token → Type 0 where
  no_bound : {r : List Token} → IsBound Unbounded r r
  any_time : {z : DecimalNumber} {r : List Token} → IsZero z
      → IsBound Unbounded (OpenBracket ∷ Number z ∷ Comma ∷ Tilde ∷ CloseBracket ∷ r) r
  in_time : {z t : DecimalNumber} {r : List Token} → IsZero z
      → IsBound (Time t) (OpenBracket ∷ Number z ∷ Comma ∷ Number t ∷ CloseBracket ∷ r) r
  in_reward : {z y t : DecimalNumber} {r : List Token} → IsZero z → IsZero y
      → IsBound (Reward t)
      (OpenBracket ∷ Number z ∷ Comma ∷ Tilde ∷ CloseBracket ∷ OpenBracket ∷ Number y ∷ Comma ∷ Number t ∷ CloseBracket ∷ r) r

-- over this many labels, with thresholds up to this number and room for d nested negations, parentheses and probability operators, the
-- tokens of s before r are f, at the level
pub data Derives (labels threshold : ℕ) : ℕ → Level → Tree → List Token → List Token → Type 0 where
  a_truth : {d : ℕ} {r : List Token} → Derives labels threshold d atom truth (Truth ∷ r) r
  a_falsehood : {d : ℕ} {r : List Token} → Derives labels threshold d atom falsehood (Falsehood ∷ r) r
  a_name : {d j : ℕ} {r : List Token} → j < labels → Derives labels threshold d atom (label j) (Name j ∷ r) r
  in_parens : {d : ℕ} {f : Tree} {s r : List Token} → Derives labels threshold d formula f s (CloseParen ∷ r)
      → Derives labels threshold (suc d) atom f (OpenParen ∷ s) r
  a_next : {d : ℕ} {q : DecimalNumber} {op : Op} {f : Tree} {s r : List Token} → IsUpTo threshold q
      → Derives labels threshold d formula f s (CloseBracket ∷ r)
      → Derives labels threshold (suc d) atom (next op q f) (operator op q (NextWord ∷ s)) r
  an_until : {d : ℕ} {q : DecimalNumber} {op : Op} {f g : Tree} {b : Bound} {s m k r : List Token} → IsUpTo threshold q
      → Derives labels threshold d formula f s (UntilWord ∷ m) → IsBound b m k → Derives labels threshold d formula g k (CloseBracket ∷ r)
      → Derives labels threshold (suc d) atom (until op q f b g) (operator op q s) r
  a_not : {d : ℕ} {f : Tree} {s r : List Token} → Derives labels threshold d unary f s r
      → Derives labels threshold (suc d) unary (negation f) (Bang ∷ s) r
  an_atom : {d : ℕ} {f : Tree} {s r : List Token} → Derives labels threshold d atom f s r → Derives labels threshold d unary f s r
  an_and : {d : ℕ} {f g : Tree} {s m r : List Token} → Derives labels threshold d conj f s (AndAnd ∷ m)
      → Derives labels threshold d unary g m r
      → Derives labels threshold d conj (conjunction f g) s r
  a_unary : {d : ℕ} {f : Tree} {s r : List Token} → Derives labels threshold d unary f s r → Derives labels threshold d conj f s r
  an_or : {d : ℕ} {f g : Tree} {s m r : List Token} → Derives labels threshold d formula f s (OrOr ∷ m)
      → Derives labels threshold d conj g m r
      → Derives labels threshold d formula (disjunction f g) s r
  a_conj : {d : ℕ} {f : Tree} {s r : List Token} → Derives labels threshold d conj f s r → Derives labels threshold d formula f s r

-- within the limits the tokens spell f
abbrev pub Spells : Limits → List Token → Tree → Type 0
Spells limits ts f = Derives limits.labels limits.threshold limits.nested formula f ts []

-- some formula within the limits begins with the tokens
abbrev pub BeginsWithin : Limits → List Token → Type 0
BeginsWithin limits ts = (rest : List Token) × (f : Tree) × Spells limits (ts ++ rest) f

-- some formula begins with the tokens, whatever its limits
abbrev pub Begins : List Token → Type 0
Begins ts = (limits : Limits) × BeginsWithin limits ts

-- some formula has these tokens, whatever its limits
abbrev pub IsSpelled : List Token → Type 0
IsSpelled ts = (limits : Limits) × (f : Tree) × Spells limits ts f
