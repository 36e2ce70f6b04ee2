-- How the tokens are read, one after another: a state after each, with the formulas read so far. It serves the proofs alone: the
-- definitions know nothing of it.
use Rattle.std.specs.Prelude.{ℕ, zero, suc, ◌*◌, ◌^◌, Bool, true, false, nat_lt, nat_le, List, [], ◌∷◌, Option, Some, None}
use Rattle.decimal_text.specs.DecimalNumber.{DecimalNumber}
use Rattle.csl_syntax.specs.declared.fault.FormulaWhat.{FormulaWhat}
use Rattle.csl_syntax.specs.declared.fault.FormulaWhat.TheVariants as what
use Rattle.csl_syntax.specs.declared.token.Token.{Token}
use Rattle.csl_syntax.specs.declared.token.Token.TheVariants.{Truth, Falsehood, Name, ProbabilityWord, NextWord, UntilWord, ReservedWord}
use Rattle.csl_syntax.specs.declared.token.Token.TheVariants.{Bang, AndAnd, OrOr, OpenParen, CloseParen, OpenBrace, CloseBrace}
use Rattle.csl_syntax.specs.declared.token.Token.TheVariants.{OpenBracket, CloseBracket, Comma, Tilde, Compare, Number}
use Rattle.csl_syntax.specs.declared.formula.Op.{Op}
use Rattle.csl_syntax.specs.declared.formula.Bound.{Bound}
use Rattle.csl_syntax.specs.declared.formula.Bound.TheVariants.{Unbounded, Time, Reward}
use Rattle.csl_syntax.specs.Tree.{Tree, truth, falsehood, label, negation, conjunction, disjunction, next, until}

-- what a formula that is not at its end is part of
pub data Kind : Type 0 where
  parens : Kind
  of_next : Op → DecimalNumber → Kind
  until_left : Op → DecimalNumber → Kind
  until_right : Op → DecimalNumber → Tree → Bound → Kind

-- what has come of the fixed parts of a probability operator
pub data Phase : Type 0 where
  p_brace : Phase
  p_op : Phase
  p_number : Op → Phase
  p_close : Op → DecimalNumber → Phase
  p_bracket : Op → DecimalNumber → Phase
  p_path : Op → DecimalNumber → Phase
  u_start : Op → DecimalNumber → Tree → Phase
  u_zero : Op → DecimalNumber → Tree → Phase
  u_comma : Op → DecimalNumber → Tree → Phase
  u_limit : Op → DecimalNumber → Tree → Phase
  u_close : Op → DecimalNumber → Tree → DecimalNumber → Phase
  u_any : Op → DecimalNumber → Tree → Phase
  u_again : Op → DecimalNumber → Tree → Phase
  v_zero : Op → DecimalNumber → Tree → Phase
  v_comma : Op → DecimalNumber → Tree → Phase
  v_limit : Op → DecimalNumber → Tree → Phase
  v_close : Op → DecimalNumber → Tree → DecimalNumber → Phase

-- what was read of a formula that is not at its end: the part before the last `||`, the part from there to the last `&&`, and the count of
-- `!` after it
pub record Layer : Type 0 where
  pub kind : Kind
  pub either : Option Tree
  pub both : Option Tree
  pub bangs : ℕ

pub data State : Type 0 where
  -- with so much room left, an operand must come
  want : ℕ → List Layer → Option Tree → Option Tree → ℕ → State
  -- an operand has come
  have : ℕ → List Layer → Option Tree → Option Tree → Tree → State
  -- in the fixed parts of a probability operator
  more : Phase → ℕ → List Layer → Option Tree → Option Tree → ℕ → State
  -- a token fails so
  stopped : FormulaWhat → State

-- no formula begins so
abbrev pub stuck : State
stuck = stopped what.Expected

-- the room is at its end
abbrev pub deep : State
deep = stopped what.Depth

abbrev pub start : ℕ → State
start d = want d [] None None 0

abbrev pub negated : ℕ → Tree → Tree
negated zero f = f
negated (suc n) f = negated n (negation f)

-- the room is given back
abbrev pub back : ℕ → ℕ → ℕ
back zero d = d
back (suc n) d = back n (suc d)

abbrev pub with_both : Option Tree → Tree → Tree
with_both None f = f
with_both (Some g) f = conjunction g f

abbrev pub with_either : Option Tree → Tree → Tree
with_either None f = f
with_either (Some g) f = disjunction g f

abbrev pub operand : ℕ → List Layer → Option Tree → Option Tree → ℕ → Tree → State
operand d ls o a n f = have (back n d) ls o a (negated n f)

abbrev pub layer : Kind → Option Tree → Option Tree → ℕ → Layer
layer k o a n = record { kind = k; either = o; both = a; bangs = n }

-- `)` closes
abbrev pub closed_as : Kind → ℕ → List Layer → Option Tree → Option Tree → ℕ → Tree → State
closed_as parens d ls o a n f = operand (suc d) ls o a n f
closed_as (of_next op q) d ls o a n f = stuck
closed_as (until_left op q) d ls o a n f = stuck
closed_as (until_right op q g b) d ls o a n f = stuck

abbrev pub closed : ℕ → List Layer → Tree → State
closed d [] f = stuck
closed d (l ∷ ls) f = closed_as l.kind d ls l.either l.both l.bangs f

-- `]` closes
abbrev pub boxed_as : Kind → ℕ → List Layer → Option Tree → Option Tree → ℕ → Tree → State
boxed_as parens d ls o a n f = stuck
boxed_as (of_next op q) d ls o a n f = operand (suc d) ls o a n (next op q f)
boxed_as (until_left op q) d ls o a n f = stuck
boxed_as (until_right op q g b) d ls o a n f = operand (suc d) ls o a n (until op q g b f)

abbrev pub boxed : ℕ → List Layer → Tree → State
boxed d [] f = stuck
boxed d (l ∷ ls) f = boxed_as l.kind d ls l.either l.both l.bangs f

-- `U` comes
abbrev pub turned_as : Kind → ℕ → List Layer → Option Tree → Option Tree → ℕ → Tree → State
turned_as parens d ls o a n f = stuck
turned_as (of_next op q) d ls o a n f = stuck
turned_as (until_left op q) d ls o a n f = more (u_start op q f) d ls o a n
turned_as (until_right op q g b) d ls o a n f = stuck

abbrev pub turned : ℕ → List Layer → Tree → State
turned d [] f = stuck
turned d (l ∷ ls) f = turned_as l.kind d ls l.either l.both l.bangs f

abbrev pub bang : ℕ → List Layer → Option Tree → Option Tree → ℕ → State
bang zero ls o a n = deep
bang (suc d) ls o a n = want d ls o a (suc n)

abbrev pub opened : ℕ → List Layer → Option Tree → Option Tree → ℕ → State
opened zero ls o a n = deep
opened (suc d) ls o a n = want d (layer parens o a n ∷ ls) None None 0

abbrev pub headed : ℕ → List Layer → Option Tree → Option Tree → ℕ → State
headed zero ls o a n = deep
headed (suc d) ls o a n = more p_brace d ls o a n

-- a name, which is a label's or not
abbrev pub named : Bool → ℕ → List Layer → Option Tree → Option Tree → ℕ → ℕ → State
named true d ls o a n j = operand d ls o a n (label j)
named false d ls o a n j = stopped what.UnknownLabel

-- a threshold, which is small enough or not
abbrev pub judged : Bool → Op → DecimalNumber → ℕ → List Layer → Option Tree → Option Tree → ℕ → State
judged true op q d ls o a n = more (p_close op q) d ls o a n
judged false op q d ls o a n = stopped what.Threshold

-- a number that must be 0, with this digits
abbrev pub zero_then : ℕ → Phase → ℕ → List Layer → Option Tree → Option Tree → ℕ → State
zero_then zero p d ls o a n = more p d ls o a n
zero_then (suc z) p d ls o a n = stuck

module _ (labels threshold : ℕ) where
  -- a token where an operand must come
  abbrev pub in_want : Token → ℕ → List Layer → Option Tree → Option Tree → ℕ → State
  in_want Truth d ls o a n = operand d ls o a n truth
  in_want Falsehood d ls o a n = operand d ls o a n falsehood
  in_want (Name j) d ls o a n = named (nat_lt j labels) d ls o a n j
  in_want Bang d ls o a n = bang d ls o a n
  in_want OpenParen d ls o a n = opened d ls o a n
  in_want ProbabilityWord d ls o a n = headed d ls o a n
  in_want AndAnd d ls o a n = stuck
  in_want OrOr d ls o a n = stuck
  in_want CloseParen d ls o a n = stuck
  in_want OpenBrace d ls o a n = stuck
  in_want CloseBrace d ls o a n = stuck
  in_want OpenBracket d ls o a n = stuck
  in_want CloseBracket d ls o a n = stuck
  in_want Comma d ls o a n = stuck
  in_want Tilde d ls o a n = stuck
  in_want NextWord d ls o a n = stuck
  in_want UntilWord d ls o a n = stuck
  in_want ReservedWord d ls o a n = stuck
  in_want (Compare p) d ls o a n = stuck
  in_want (Number q) d ls o a n = stuck

  -- a token after an operand
  abbrev pub in_have : Token → ℕ → List Layer → Option Tree → Option Tree → Tree → State
  in_have AndAnd d ls o a f = want d ls o (Some (with_both a f)) 0
  in_have OrOr d ls o a f = want d ls (Some (with_either o (with_both a f))) None 0
  in_have CloseParen d ls o a f = closed d ls (with_either o (with_both a f))
  in_have CloseBracket d ls o a f = boxed d ls (with_either o (with_both a f))
  in_have UntilWord d ls o a f = turned d ls (with_either o (with_both a f))
  in_have Truth d ls o a f = stuck
  in_have Falsehood d ls o a f = stuck
  in_have (Name j) d ls o a f = stuck
  in_have Bang d ls o a f = stuck
  in_have OpenParen d ls o a f = stuck
  in_have ProbabilityWord d ls o a f = stuck
  in_have OpenBrace d ls o a f = stuck
  in_have CloseBrace d ls o a f = stuck
  in_have OpenBracket d ls o a f = stuck
  in_have Comma d ls o a f = stuck
  in_have Tilde d ls o a f = stuck
  in_have NextWord d ls o a f = stuck
  in_have ReservedWord d ls o a f = stuck
  in_have (Compare p) d ls o a f = stuck
  in_have (Number q) d ls o a f = stuck

  -- a further part of a probability operator begins with the token
  abbrev pub begin : Kind → Token → ℕ → List Layer → Option Tree → Option Tree → ℕ → State
  begin k t d ls o a n = in_want t d (layer k o a n ∷ ls) None None 0

  -- a token within the fixed parts of a probability operator
  abbrev pub in_more : Phase → Token → ℕ → List Layer → Option Tree → Option Tree → ℕ → State
  in_more p_brace OpenBrace d ls o a n = more p_op d ls o a n
  in_more p_op (Compare op) d ls o a n = more (p_number op) d ls o a n
  in_more (p_number op) (Number q) d ls o a n = judged (nat_le q.c (threshold * 10 ^ q.x)) op q d ls o a n
  in_more (p_close op q) CloseBrace d ls o a n = more (p_bracket op q) d ls o a n
  in_more (p_bracket op q) OpenBracket d ls o a n = more (p_path op q) d ls o a n
  in_more (p_path op q) NextWord d ls o a n = want d (layer (of_next op q) o a n ∷ ls) None None 0
  in_more (p_path op q) t d ls o a n = begin (until_left op q) t d ls o a n
  in_more (u_start op q f) OpenBracket d ls o a n = more (u_zero op q f) d ls o a n
  in_more (u_start op q f) t d ls o a n = begin (until_right op q f Unbounded) t d ls o a n
  in_more (u_zero op q f) (Number z) d ls o a n = zero_then z.c (u_comma op q f) d ls o a n
  in_more (u_comma op q f) Comma d ls o a n = more (u_limit op q f) d ls o a n
  in_more (u_limit op q f) (Number t) d ls o a n = more (u_close op q f t) d ls o a n
  in_more (u_limit op q f) Tilde d ls o a n = more (u_any op q f) d ls o a n
  in_more (u_close op q f t) CloseBracket d ls o a n = want d (layer (until_right op q f (Time t)) o a n ∷ ls) None None 0
  in_more (u_any op q f) CloseBracket d ls o a n = more (u_again op q f) d ls o a n
  in_more (u_again op q f) OpenBracket d ls o a n = more (v_zero op q f) d ls o a n
  in_more (u_again op q f) t d ls o a n = begin (until_right op q f Unbounded) t d ls o a n
  in_more (v_zero op q f) (Number z) d ls o a n = zero_then z.c (v_comma op q f) d ls o a n
  in_more (v_comma op q f) Comma d ls o a n = more (v_limit op q f) d ls o a n
  in_more (v_limit op q f) (Number t) d ls o a n = more (v_close op q f t) d ls o a n
  in_more (v_close op q f t) CloseBracket d ls o a n = want d (layer (until_right op q f (Reward t)) o a n ∷ ls) None None 0
  in_more p t d ls o a n = stuck

  abbrev pub step : State → Token → State
  step (want d ls o a n) t = in_want t d ls o a n
  step (have d ls o a f) t = in_have t d ls o a f
  step (more p d ls o a n) t = in_more p t d ls o a n
  step (stopped w) t = stopped w

  abbrev pub run : State → List Token → State
  run q [] = q
  run q (t ∷ ts) = run (step q t) ts

abbrev pub whole_of : List Layer → Tree → Option Tree
whole_of [] f = Some f
whole_of (l ∷ ls) f = None

-- the formula, where it is whole
abbrev pub whole : State → Option Tree
whole (want d ls o a n) = None
whole (have d ls o a f) = whole_of ls (with_either o (with_both a f))
whole (more p d ls o a n) = None
whole (stopped w) = None
