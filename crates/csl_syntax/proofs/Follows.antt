-- What a step of the machine tells of its token.
use Rattle.std.proofs.Common.{◌≡◌, ℕ, zero, suc, ◌<◌, ◌≤◌, ◌*◌, ◌^◌, Bool, true, false, nat_lt, nat_le, List, [], ◌∷◌, Option, Some, None}
use Rattle.std.proofs.Common.{refl, arith}
use Rattle.std.proofs.lemmas.Bool.{ltb-false, leb-false}
use Rattle.decimal_text.specs.DecimalNumber.{DecimalNumber}
use Rattle.csl_syntax.specs.declared.fault.FormulaWhat.{FormulaWhat}
use Rattle.csl_syntax.specs.declared.fault.FormulaWhat.TheVariants as what
use Rattle.csl_syntax.specs.declared.token.Token.{Token}
use Rattle.csl_syntax.specs.declared.token.Token.TheVariants.{Name, ProbabilityWord, NextWord, UntilWord, Bang, OpenParen, CloseParen}
use Rattle.csl_syntax.specs.declared.token.Token.TheVariants.{OpenBrace, CloseBrace, OpenBracket, CloseBracket, Comma, Tilde, Compare}
use Rattle.csl_syntax.specs.declared.token.Token.TheVariants.{Number}
use Rattle.csl_syntax.specs.declared.formula.Op.{Op}
use Rattle.csl_syntax.specs.declared.formula.Bound.TheVariants.{Unbounded}
use Rattle.csl_syntax.specs.Tree.{Tree, IsUpTo}
use Rattle.csl_syntax.specs.Machine.{Layer, Kind, parens, of_next, until_left, until_right, Phase, p_brace, p_op, p_number, p_close}
use Rattle.csl_syntax.specs.Machine.{p_bracket, p_path, u_start, u_zero, u_comma, u_limit, u_close, u_any, u_again, v_zero, v_comma}
use Rattle.csl_syntax.specs.Machine.{v_limit, v_close, layer, headed, more, named, judged, in_more, in_want, zero_then, closed_as}
use Rattle.csl_syntax.specs.Machine.{boxed_as, turned_as, boxed, turned, State, want, have, stopped, with_both, with_either, closed, bang}
use Rattle.csl_syntax.specs.Machine.{opened, step}
use Rattle.csl_syntax.specs.FormulaFault.{IsEnclosing}
use Rattle.csl_syntax.specs.Machine.{in_have}
use Rattle.csl_syntax.proofs.Endings.{IsGoing}

-- the comparison, where its number must come
abbrev pub number_place : State → Option Op
number_place (more (p_number op) d ls o a n) = Some op
number_place q = None

-- what a state says of the token t that led to it from q, with the limits N and T
module _ (N T : ℕ) (q : State) (t : Token) where
  abbrev pub StopsFor : FormulaWhat → Type 0
  StopsFor what.Expected = Unit {0}
  StopsFor what.UnknownLabel = (j : ℕ) × (t ≡ Name j) × (N ≤ j)
  StopsFor what.Threshold = (op : Op) × (v : DecimalNumber) × (number_place q ≡ Some op) × (t ≡ Number v) × (¬ IsUpTo T v)
  StopsFor what.Depth = IsEnclosing t
  StopsFor what.Token = ⊥
  StopsFor what.Number = ⊥
  StopsFor what.Length = ⊥

  abbrev ComesBy : Phase → Type 0
  ComesBy (p_number op) = t ≡ Compare op
  ComesBy p = Unit {0}

  abbrev pub Follows : State → Type 0
  Follows (want d ls o a n) = Unit {0}
  Follows (have d ls o a f) = Unit {0}
  Follows (more p d ls o a n) = ComesBy p
  Follows (stopped w) = StopsFor w

  follows_closed_as : (k : Kind) (d : ℕ) (ls : List Layer) (o a : Option Tree) (n : ℕ) (f : Tree) → Follows (closed_as k d ls o a n f)
  follows_closed_as parens d ls o a n f = tt
  follows_closed_as (of_next op q) d ls o a n f = tt
  follows_closed_as (until_left op q) d ls o a n f = tt
  follows_closed_as (until_right op q g b) d ls o a n f = tt

  follows_closed : (d : ℕ) (ls : List Layer) (f : Tree) → Follows (closed d ls f)
  follows_closed d [] f = tt
  follows_closed d (l ∷ ls) f = follows_closed_as l.kind d ls l.either l.both l.bangs f

  follows_boxed_as : (k : Kind) (d : ℕ) (ls : List Layer) (o a : Option Tree) (n : ℕ) (f : Tree) → Follows (boxed_as k d ls o a n f)
  follows_boxed_as parens d ls o a n f = tt
  follows_boxed_as (of_next op q) d ls o a n f = tt
  follows_boxed_as (until_left op q) d ls o a n f = tt
  follows_boxed_as (until_right op q g b) d ls o a n f = tt

  follows_boxed : (d : ℕ) (ls : List Layer) (f : Tree) → Follows (boxed d ls f)
  follows_boxed d [] f = tt
  follows_boxed d (l ∷ ls) f = follows_boxed_as l.kind d ls l.either l.both l.bangs f

  follows_turned_as : (k : Kind) (d : ℕ) (ls : List Layer) (o a : Option Tree) (n : ℕ) (f : Tree) → Follows (turned_as k d ls o a n f)
  follows_turned_as parens d ls o a n f = tt
  follows_turned_as (of_next op q) d ls o a n f = tt
  follows_turned_as (until_left op q) d ls o a n f = tt
  follows_turned_as (until_right op q g b) d ls o a n f = tt

  follows_turned : (d : ℕ) (ls : List Layer) (f : Tree) → Follows (turned d ls f)
  follows_turned d [] f = tt
  follows_turned d (l ∷ ls) f = follows_turned_as l.kind d ls l.either l.both l.bangs f

  follows_named : (b : Bool) (d : ℕ) (ls : List Layer) (o a : Option Tree) (n j : ℕ) → t ≡ Name j → (b ≡ false → N ≤ j)
      → Follows (named b d ls o a n j)
  follows_named true d ls o a n j e h = tt
  follows_named false d ls o a n j e h = (j, e, h refl)

  follows_judged : (b : Bool) (op : Op) (v : DecimalNumber) (d : ℕ) (ls : List Layer) (o a : Option Tree) (n : ℕ)
      → number_place q ≡ Some op → t ≡ Number v → (b ≡ false → ¬ IsUpTo T v) →
      Follows (judged b op v d ls o a n)
  follows_judged true op v d ls o a n p e h = tt
  follows_judged false op v d ls o a n p e h = (op, v, p, e, h refl)

not_below : (j N : ℕ) → nat_lt j N ≡ false → N ≤ j
not_below j N e = ltb-false j N e

not_up_to : (c m : ℕ) → nat_le c m ≡ false → ¬ (c ≤ m)
not_up_to c m e h = let k : m < c = leb-false c m e in omega (arith, h, k)

module _ (N T : ℕ) where
  follows_bang : (q : State) (d : ℕ) (ls : List Layer) (o a : Option Tree) (n : ℕ) → Follows N T q Bang (bang d ls o a n)
  follows_bang q zero ls o a n = tt
  follows_bang q (suc d) ls o a n = tt

  follows_opened : (q : State) (d : ℕ) (ls : List Layer) (o a : Option Tree) (n : ℕ) → Follows N T q OpenParen (opened d ls o a n)
  follows_opened q zero ls o a n = tt
  follows_opened q (suc d) ls o a n = tt

  follows_headed : (q : State) (d : ℕ) (ls : List Layer) (o a : Option Tree) (n : ℕ) → Follows N T q ProbabilityWord (headed d ls o a n)
  follows_headed q zero ls o a n = tt
  follows_headed q (suc d) ls o a n = tt

  follows_zero : (q : State) (t : Token) (z : ℕ) (p : Phase) (d : ℕ) (ls : List Layer) (o a : Option Tree) (n : ℕ) → ComesBy N T q t p
      → Follows N T q t (zero_then z p d ls o a n)
  follows_zero q t zero p d ls o a n h = h
  follows_zero q t (suc z) p d ls o a n h = tt

  follows_want : (q : State) (t : Token) (d : ℕ) (ls : List Layer) (o a : Option Tree) (n : ℕ)
      → Follows N T q t (in_want N T t d ls o a n)
  follows_want q (Name j) d ls o a n = follows_named N T q (Name j) (nat_lt j N) d ls o a n j refl (not_below j N)
  follows_want q Bang d ls o a n = follows_bang q d ls o a n
  follows_want q OpenParen d ls o a n = follows_opened q d ls o a n
  follows_want q ProbabilityWord d ls o a n = follows_headed q d ls o a n
  follows_want q t d ls o a n = tt

  follows_have : (q : State) (t : Token) (d : ℕ) (ls : List Layer) (o a : Option Tree) (f : Tree)
      → Follows N T q t (in_have N T t d ls o a f)
  follows_have q CloseParen d ls o a f = follows_closed N T q CloseParen d ls (with_either o (with_both a f))
  follows_have q CloseBracket d ls o a f = follows_boxed N T q CloseBracket d ls (with_either o (with_both a f))
  follows_have q UntilWord d ls o a f = follows_turned N T q UntilWord d ls (with_either o (with_both a f))
  follows_have q t d ls o a f = tt

  follows_more : (p : Phase) (t : Token) (d : ℕ) (ls : List Layer) (o a : Option Tree) (n : ℕ)
      → Follows N T (more p d ls o a n) t (in_more N T p t d ls o a n)
  follows_more (p_path op q) NextWord d ls o a n = tt
  follows_more (p_path op q) t d ls o a n =
      follows_want (more (p_path op q) d ls o a n) t d (layer (until_left op q) o a n ∷ ls) None None 0
  follows_more (u_start op q f) OpenBracket d ls o a n = tt
  follows_more (u_start op q f) t d ls o a n =
      follows_want (more (u_start op q f) d ls o a n) t d (layer (until_right op q f Unbounded) o a n ∷ ls) None None 0
  follows_more (u_zero op q f) (Number z) d ls o a n =
      follows_zero (more (u_zero op q f) d ls o a n) (Number z) z.c (u_comma op q f) d ls o a n tt
  follows_more (u_again op q f) OpenBracket d ls o a n = tt
  follows_more (u_again op q f) t d ls o a n =
      follows_want (more (u_again op q f) d ls o a n) t d (layer (until_right op q f Unbounded) o a n ∷ ls) None None 0
  follows_more (v_zero op q f) (Number z) d ls o a n =
      follows_zero (more (v_zero op q f) d ls o a n) (Number z) z.c (v_comma op q f) d ls o a n tt
  follows_more (p_number op) (Number v) d ls o a n =
      follows_judged N T (more (p_number op) d ls o a n) (Number v) (nat_le v.c (T * 10 ^ v.x)) op v d ls o a n refl refl
      (not_up_to v.c (T * 10 ^ v.x))
  follows_more p_brace OpenBrace d ls o a n = tt
  follows_more p_op (Compare op) d ls o a n = refl
  follows_more (p_close op q) CloseBrace d ls o a n = tt
  follows_more (p_bracket op q) OpenBracket d ls o a n = tt
  follows_more (u_comma op q f) Comma d ls o a n = tt
  follows_more (u_limit op q f) (Number t) d ls o a n = tt
  follows_more (u_limit op q f) Tilde d ls o a n = tt
  follows_more (u_close op q f t) CloseBracket d ls o a n = tt
  follows_more (u_any op q f) CloseBracket d ls o a n = tt
  follows_more (v_comma op q f) Comma d ls o a n = tt
  follows_more (v_limit op q f) (Number t) d ls o a n = tt
  follows_more (v_close op q f t) CloseBracket d ls o a n = tt
  follows_more p t d ls o a n = tt

  pub follows : (q : State) (t : Token) → IsGoing q → Follows N T q t (step N T q t)
  follows (want d ls o a n) t g = follows_want (want d ls o a n) t d ls o a n
  follows (have d ls o a f) t g = follows_have (have d ls o a f) t d ls o a f
  follows (more p d ls o a n) t g = follows_more p t d ls o a n
  follows (stopped w) t g = absurd g
