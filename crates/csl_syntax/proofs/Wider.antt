-- Wider limits: the machine goes the same way, and where it was stopped by a limit it goes on.
use Rattle.std.proofs.Common.{◌≡◌, ℕ, zero, suc, ◌<◌, ◌≤◌, ◌*◌, ◌^◌, Bool, true, false, nat_lt, nat_le, List, [], ◌∷◌, Option, None, refl}
use Rattle.std.proofs.Common.{sym, ◌∙◌, ap, subst, arith}
use Rattle.std.proofs.lemmas.Bool.{lt-ltb, ltb-true, le-leb, leb-true}
use Rattle.std.proofs.Math.Nat.{mul-le-mul_right, le_trans}
use Rattle.decimal_text.specs.DecimalNumber.{DecimalNumber}
use Rattle.csl_syntax.specs.declared.fault.FormulaWhat.TheVariants as what
use Rattle.csl_syntax.specs.declared.token.Token.{Token}
use Rattle.csl_syntax.specs.declared.token.Token.TheVariants.{Truth, Falsehood, Name, ProbabilityWord, NextWord, UntilWord, Bang, AndAnd}
use Rattle.csl_syntax.specs.declared.token.Token.TheVariants.{OrOr, OpenParen, CloseParen, OpenBrace, CloseBrace, OpenBracket}
use Rattle.csl_syntax.specs.declared.token.Token.TheVariants.{CloseBracket, Comma, Tilde, Compare, Number}
use Rattle.csl_syntax.specs.declared.formula.Op.{Op}
use Rattle.csl_syntax.specs.declared.formula.Bound.TheVariants.{Unbounded}
use Rattle.csl_syntax.specs.Tree.{Tree, truth, falsehood, label, next, until, IsUpTo}
use Rattle.csl_syntax.specs.Machine.{Layer, Kind, parens, of_next, until_left, until_right, Phase, p_brace, p_op, p_number, p_close}
use Rattle.csl_syntax.specs.Machine.{p_bracket, p_path, u_start, u_zero, u_comma, u_limit, u_close, u_any, u_again, v_zero, v_comma}
use Rattle.csl_syntax.specs.Machine.{v_limit, v_close, layer, headed, more, named, judged, in_more, zero_then, closed_as, boxed_as}
use Rattle.csl_syntax.specs.Machine.{turned_as, boxed, turned, operand, State, want, have, stopped, start, negated, back, with_both}
use Rattle.csl_syntax.specs.Machine.{with_either, closed, bang, opened, step, run, whole}
use Rattle.csl_syntax.proofs.Endings.{IsGoing, run-stopped}

-- no limit stopped the machine
abbrev pub IsFree : State → Type 0
IsFree (want d ls o a n) = Unit {0}
IsFree (have d ls o a f) = Unit {0}
IsFree (more p d ls o a n) = Unit {0}
IsFree (stopped what.Expected) = Unit {0}
IsFree (stopped w) = ⊥

-- the machine isn't stopped, or a limit stopped it
abbrev pub IsExpected : State → Type 0
IsExpected (want d ls o a n) = Unit {0}
IsExpected (have d ls o a f) = Unit {0}
IsExpected (more p d ls o a n) = Unit {0}
IsExpected (stopped what.Expected) = ⊥
IsExpected (stopped w) = Unit {0}

-- with one more room
abbrev pub raised : State → State
raised (want d ls o a n) = want (suc d) ls o a n
raised (have d ls o a f) = have (suc d) ls o a f
raised (more p d ls o a n) = more p (suc d) ls o a n
raised (stopped w) = stopped w

back-suc : (n d : ℕ) → back n (suc d) ≡ suc (back n d)
back-suc zero d = refl
back-suc (suc n) d = back-suc n (suc d)

raised-operand : (d : ℕ) (ls : List Layer) (o a : Option Tree) (n : ℕ) (f : Tree)
    → operand (suc d) ls o a n f ≡ raised (operand d ls o a n f)
raised-operand d ls o a n f = ap (λ v. have v ls o a (negated n f)) (back-suc n d)

raised-closed_as : (k : Kind) (d : ℕ) (ls : List Layer) (o a : Option Tree) (n : ℕ) (f : Tree)
    → closed_as k (suc d) ls o a n f ≡ raised (closed_as k d ls o a n f)
raised-closed_as parens d ls o a n f = raised-operand (suc d) ls o a n f
raised-closed_as (of_next op q) d ls o a n f = refl
raised-closed_as (until_left op q) d ls o a n f = refl
raised-closed_as (until_right op q g b) d ls o a n f = refl

raised-boxed_as : (k : Kind) (d : ℕ) (ls : List Layer) (o a : Option Tree) (n : ℕ) (f : Tree)
    → boxed_as k (suc d) ls o a n f ≡ raised (boxed_as k d ls o a n f)
raised-boxed_as parens d ls o a n f = refl
raised-boxed_as (of_next op q) d ls o a n f = raised-operand (suc d) ls o a n (next op q f)
raised-boxed_as (until_left op q) d ls o a n f = refl
raised-boxed_as (until_right op q g b) d ls o a n f = raised-operand (suc d) ls o a n (until op q g b f)

raised-turned_as : (k : Kind) (d : ℕ) (ls : List Layer) (o a : Option Tree) (n : ℕ) (f : Tree)
    → turned_as k (suc d) ls o a n f ≡ raised (turned_as k d ls o a n f)
raised-turned_as parens d ls o a n f = refl
raised-turned_as (of_next op q) d ls o a n f = refl
raised-turned_as (until_left op q) d ls o a n f = refl
raised-turned_as (until_right op q g b) d ls o a n f = refl

raised-closed : (d : ℕ) (ls : List Layer) (f : Tree) → closed (suc d) ls f ≡ raised (closed d ls f)
raised-closed d [] f = refl
raised-closed d (l ∷ ls) f = raised-closed_as l.kind d ls l.either l.both l.bangs f

raised-boxed : (d : ℕ) (ls : List Layer) (f : Tree) → boxed (suc d) ls f ≡ raised (boxed d ls f)
raised-boxed d [] f = refl
raised-boxed d (l ∷ ls) f = raised-boxed_as l.kind d ls l.either l.both l.bangs f

raised-turned : (d : ℕ) (ls : List Layer) (f : Tree) → turned (suc d) ls f ≡ raised (turned d ls f)
raised-turned d [] f = refl
raised-turned d (l ∷ ls) f = raised-turned_as l.kind d ls l.either l.both l.bangs f

raised-headed : (d : ℕ) (ls : List Layer) (o a : Option Tree) (n : ℕ) → IsFree (headed d ls o a n)
    → headed (suc d) ls o a n ≡ raised (headed d ls o a n)
raised-headed zero ls o a n h = absurd h
raised-headed (suc d) ls o a n h = refl

raised-bang : (d : ℕ) (ls : List Layer) (o a : Option Tree) (n : ℕ) → IsFree (bang d ls o a n)
    → bang (suc d) ls o a n ≡ raised (bang d ls o a n)
raised-bang zero ls o a n h = absurd h
raised-bang (suc d) ls o a n h = refl

raised-opened : (d : ℕ) (ls : List Layer) (o a : Option Tree) (n : ℕ) → IsFree (opened d ls o a n)
    → opened (suc d) ls o a n ≡ raised (opened d ls o a n)
raised-opened zero ls o a n h = absurd h
raised-opened (suc d) ls o a n h = refl

raised-zero_then : (z : ℕ) (p : Phase) (d : ℕ) (ls : List Layer) (o a : Option Tree) (n : ℕ)
    → zero_then z p (suc d) ls o a n ≡ raised (zero_then z p d ls o a n)
raised-zero_then zero p d ls o a n = refl
raised-zero_then (suc z) p d ls o a n = refl

pub going_is_free : (q : State) → IsGoing q → IsFree q
going_is_free (want d ls o a n) h = tt
going_is_free (have d ls o a f) h = tt
going_is_free (more p d ls o a n) h = tt
going_is_free (stopped w) h = absurd h

raised_is_going : (q : State) → IsGoing q → IsGoing (raised q)
raised_is_going (want d ls o a n) h = tt
raised_is_going (have d ls o a f) h = tt
raised_is_going (more p d ls o a n) h = tt
raised_is_going (stopped w) h = absurd h

whole-raised : (q : State) → whole (raised q) ≡ whole q
whole-raised (want d ls o a n) = refl
whole-raised (have d ls o a f) = refl
whole-raised (more p d ls o a n) = refl
whole-raised (stopped w) = refl

module _ {N T M U : ℕ} (labels : N ≤ M) (threshold : T ≤ U) where
  under : (q : DecimalNumber) → IsUpTo T q → IsUpTo U q
  under q h = le_trans h (mul-le-mul_right (10 ^ q.x) threshold)

  raised-named : (b : Bool) (d : ℕ) (ls : List Layer) (o a : Option Tree) (n j : ℕ) → (b ≡ true → j < N) → IsFree (named b d ls o a n j) →
      named (nat_lt j M) (suc d) ls o a n j ≡ raised (named b d ls o a n j)
  raised-named true d ls o a n j k h =
      ap (λ b. named b (suc d) ls o a n j) (lt-ltb j M (omega (arith, k refl, labels))) ∙ raised-operand d ls o a n (label j)
  raised-named false d ls o a n j k h = absurd h

  raised-judged : (b : Bool) (op : Op) (q : DecimalNumber) (d : ℕ) (ls : List Layer) (o a : Option Tree) (n : ℕ) → (b ≡ true → IsUpTo T q)
      → IsFree (judged b op q d ls o a n) →
      judged (nat_le q.c (U * 10 ^ q.x)) op q (suc d) ls o a n ≡ raised (judged b op q d ls o a n)
  raised-judged true op q d ls o a n k h = ap (λ b. judged b op q (suc d) ls o a n) (le-leb q.c (U * 10 ^ q.x) (under q (k refl)))
  raised-judged false op q d ls o a n k h = absurd h

  raised-want : (t : Token) (d : ℕ) (ls : List Layer) (o a : Option Tree) (n : ℕ) → IsFree (step N T (want d ls o a n) t)
      → step M U (want (suc d) ls o a n) t ≡ raised (step N T (want d ls o a n) t)
  raised-want Truth d ls o a n h = raised-operand d ls o a n truth
  raised-want Falsehood d ls o a n h = raised-operand d ls o a n falsehood
  raised-want (Name j) d ls o a n h = raised-named (nat_lt j N) d ls o a n j (ltb-true j N) h
  raised-want Bang d ls o a n h = raised-bang d ls o a n h
  raised-want OpenParen d ls o a n h = raised-opened d ls o a n h
  raised-want ProbabilityWord d ls o a n h = raised-headed d ls o a n h
  raised-want t d ls o a n h = refl

  raised-have : (t : Token) (d : ℕ) (ls : List Layer) (o a : Option Tree) (f : Tree)
      → step M U (have (suc d) ls o a f) t ≡ raised (step N T (have d ls o a f) t)
  raised-have AndAnd d ls o a f = refl
  raised-have OrOr d ls o a f = refl
  raised-have CloseParen d ls o a f = raised-closed d ls (with_either o (with_both a f))
  raised-have CloseBracket d ls o a f = raised-boxed d ls (with_either o (with_both a f))
  raised-have UntilWord d ls o a f = raised-turned d ls (with_either o (with_both a f))
  raised-have t d ls o a f = refl

  raised-more : (p : Phase) (t : Token) (d : ℕ) (ls : List Layer) (o a : Option Tree) (n : ℕ) → IsFree (in_more N T p t d ls o a n)
      → in_more M U p t (suc d) ls o a n ≡ raised (in_more N T p t d ls o a n)
  raised-more (p_path op q) NextWord d ls o a n h = refl
  raised-more (p_path op q) t d ls o a n h = raised-want t d (layer (until_left op q) o a n ∷ ls) None None 0 h
  raised-more (u_start op q f) OpenBracket d ls o a n h = refl
  raised-more (u_start op q f) t d ls o a n h = raised-want t d (layer (until_right op q f Unbounded) o a n ∷ ls) None None 0 h
  raised-more (u_zero op q f) (Number z) d ls o a n h = raised-zero_then z.c (u_comma op q f) d ls o a n
  raised-more (u_again op q f) OpenBracket d ls o a n h = refl
  raised-more (u_again op q f) t d ls o a n h = raised-want t d (layer (until_right op q f Unbounded) o a n ∷ ls) None None 0 h
  raised-more (v_zero op q f) (Number z) d ls o a n h = raised-zero_then z.c (v_comma op q f) d ls o a n
  raised-more p_brace OpenBrace d ls o a n h = refl
  raised-more p_op (Compare op) d ls o a n h = refl
  raised-more (p_number op) (Number q) d ls o a n h =
      raised-judged (nat_le q.c (T * 10 ^ q.x)) op q d ls o a n (leb-true q.c (T * 10 ^ q.x)) h
  raised-more (p_close op q) CloseBrace d ls o a n h = refl
  raised-more (p_bracket op q) OpenBracket d ls o a n h = refl
  raised-more (u_comma op q f) Comma d ls o a n h = refl
  raised-more (u_limit op q f) (Number t) d ls o a n h = refl
  raised-more (u_limit op q f) Tilde d ls o a n h = refl
  raised-more (u_close op q f t) CloseBracket d ls o a n h = refl
  raised-more (u_any op q f) CloseBracket d ls o a n h = refl
  raised-more (v_comma op q f) Comma d ls o a n h = refl
  raised-more (v_limit op q f) (Number t) d ls o a n h = refl
  raised-more (v_close op q f t) CloseBracket d ls o a n h = refl
  raised-more p t d ls o a n h = refl

  raised-step : (q : State) (t : Token) → IsFree (step N T q t) → step M U (raised q) t ≡ raised (step N T q t)
  raised-step (want d ls o a n) t h = raised-want t d ls o a n h
  raised-step (have d ls o a f) t h = raised-have t d ls o a f
  raised-step (more p d ls o a n) t h = raised-more p t d ls o a n h
  raised-step (stopped w) t h = refl

  is_free : (q : State) (s : List Token) → IsFree (run N T q s) → IsFree q
  is_free (want d ls o a n) s h = tt
  is_free (have d ls o a f) s h = tt
  is_free (more p d ls o a n) s h = tt
  is_free (stopped w) s h = subst IsFree (run-stopped N T w s) h

  pub raised-run : (q : State) (s : List Token) → IsFree (run N T q s) → run M U (raised q) s ≡ raised (run N T q s)
  raised-run q [] h = refl
  raised-run q (t ∷ s) h = ap (λ v. run M U v s) (raised-step q t (is_free (step N T q t) s h)) ∙ raised-run (step N T q t) s h

  pub stuck_once : (d : ℕ) (s : List Token) → run N T (start d) s ≡ stopped what.Expected
      → run M U (start (suc d)) s ≡ stopped what.Expected
  stuck_once d s h = raised-run (start d) s (subst IsFree (sym h) tt) ∙ ap raised h

  pub whole_once : (d : ℕ) (s : List Token) → IsGoing (run N T (start d) s) →
      (whole (run M U (start (suc d)) s) ≡ whole (run N T (start d) s)) × IsGoing (run M U (start (suc d)) s)
  whole_once d s h =
      let e : run M U (start (suc d)) s ≡ raised (run N T (start d) s) = raised-run (start d) s (going_is_free (run N T (start d) s) h) in
      (ap whole e ∙ whole-raised (run N T (start d) s), subst IsGoing (sym e) (raised_is_going (run N T (start d) s) h))
