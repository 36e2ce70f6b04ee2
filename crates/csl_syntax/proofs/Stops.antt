-- Why the machine stops.
use Rattle.std.proofs.Common.{◌≡◌, ℕ, zero, suc, ◌+◌, ◌<◌, ◌≤◌, ◌*◌, ◌^◌, nat_lt, nat_le, List, [], ◌∷◌, ◌++◌, Option, Some, None, sym}
use Rattle.std.proofs.Common.{◌∙◌, ap, subst, arith}
use Rattle.std.proofs.lemmas.Bool.{lt-ltb, le-leb}
use Rattle.decimal_text.specs.DecimalNumber.{DecimalNumber}
use Rattle.csl_syntax.specs.declared.fault.FormulaWhat.TheVariants as what
use Rattle.csl_syntax.specs.declared.token.Token.{Token}
use Rattle.csl_syntax.specs.declared.token.Token.TheVariants.{Truth, Falsehood, Name, ProbabilityWord, NextWord, UntilWord, Bang, AndAnd}
use Rattle.csl_syntax.specs.declared.token.Token.TheVariants.{OrOr, OpenParen, CloseParen, OpenBrace, CloseBrace, OpenBracket}
use Rattle.csl_syntax.specs.declared.token.Token.TheVariants.{CloseBracket, Comma, Tilde, Compare, Number}
use Rattle.csl_syntax.specs.declared.formula.Op.{Op}
use Rattle.csl_syntax.specs.declared.formula.Bound.TheVariants.{Unbounded}
use Rattle.csl_syntax.specs.Tree.{Tree}
use Rattle.csl_syntax.specs.Grammar.{formula, Derives, Begins, IsSpelled}
use Rattle.csl_syntax.specs.Machine.{Layer, Kind, parens, of_next, until_left, until_right, Phase, p_brace, p_op, p_number, p_close}
use Rattle.csl_syntax.specs.Machine.{p_bracket, p_path, u_start, u_zero, u_comma, u_limit, u_close, u_any, u_again, v_zero, v_comma}
use Rattle.csl_syntax.specs.Machine.{v_limit, v_close, layer, more, named, judged, in_more, in_want, zero_then, closed_as, boxed_as}
use Rattle.csl_syntax.specs.Machine.{turned_as, boxed, turned, State, want, have, stopped, start, with_both, with_either, closed, step}
use Rattle.csl_syntax.specs.Machine.{run, whole}
use Rattle.csl_syntax.specs.Machine.{in_have}
use Rattle.decimal_text.proofs.FixedDigits.{ten_pos}
use Rattle.csl_syntax.proofs.Complete.{roomier, spelled_is_read}
use Rattle.csl_syntax.proofs.Endings.{IsGoing, limits, run-one, goes_on, stops}
use Rattle.csl_syntax.proofs.Wider.{IsExpected, raised, raised-run, going_is_free, stuck_once, whole_once}

nothing_below : 0 < 0 → ⊥
nothing_below h = omega (arith, h)

at_most_by : (t c p : ℕ) → 0 < p → c ≤ (t + c) * p
at_most_by t c zero h = absurd (nothing_below h)
at_most_by t c (suc p) h = omega arith

module _ {N T M U : ℕ} (labels : N ≤ M) (threshold : T ≤ U) where
  stuck_up : (k d : ℕ) (s : List Token) → run N T (start d) s ≡ stopped what.Expected
      → run M U (start (suc (k + d))) s ≡ stopped what.Expected
  stuck_up zero d s h = let e : 0 + d ≡ d = omega arith in rw e (stuck_once labels threshold d s h)
  stuck_up (suc k) d s h =
      let e : suc k + d ≡ suc (k + d) = omega arith in
      let same : M ≤ M = omega arith in
      let alike : U ≤ U = omega arith in
      rw e (stuck_once same alike (suc (k + d)) s (stuck_up k d s h))

  whole_up : (k d : ℕ) (s : List Token) → IsGoing (run N T (start d) s) →
      (whole (run M U (start (suc (k + d))) s) ≡ whole (run N T (start d) s)) × IsGoing (run M U (start (suc (k + d))) s)
  whole_up zero d s h = let e : 0 + d ≡ d = omega arith in rw e (whole_once labels threshold d s h)
  whole_up (suc k) d s h =
      let e : suc k + d ≡ suc (k + d) = omega arith in
      let same : M ≤ M = omega arith in
      let alike : U ≤ U = omega arith in
      let i = whole_up k d s h in
      let j = whole_once same alike (suc (k + d)) s i.1 in
      rw e (j.0 ∙ i.0, j.1)

  roomier_up : (k d : ℕ) {f : Tree} {s : List Token} → Derives N T d formula f s [] → Derives M U (suc (k + d)) formula f s []
  roomier_up zero d {f} {s} x = let e : 0 + d ≡ d = omega arith in rw e (roomier labels threshold x)
  roomier_up (suc k) d {f} {s} x =
      let e : suc k + d ≡ suc (k + d) = omega arith in
      let same : M ≤ M = omega arith in
      let alike : U ≤ U = omega arith in
      rw e (roomier same alike (roomier_up k d x))

none_is_some : {f : Tree} → None ≡ Some f → ⊥
none_is_some e = cc

-- with room for these and those
both_rooms : (c d : ℕ) → suc (c + d) ≡ suc (d + c)
both_rooms c d = omega arith

module _ (N T : ℕ) where
  -- no formula begins with what the machine is stuck at
  pub unexpected : (d : ℕ) (s : List Token) → run N T (start d) s ≡ stopped what.Expected → ¬ Begins s
  unexpected d s h (l, (rest, f, x)) =
      let labels : N ≤ N + l.labels = omega arith in
      let threshold : T ≤ T + l.threshold = omega arith in
      let labels2 : l.labels ≤ N + l.labels = omega arith in
      let threshold2 : l.threshold ≤ T + l.threshold = omega arith in
      let i = stuck_up labels threshold l.nested d s h in
      let y = roomier_up labels2 threshold2 d l.nested x in
      stops (N + l.labels) (T + l.threshold) (suc (d + l.nested)) s what.Expected
      (subst (λ v. run (N + l.labels) (T + l.threshold) (start v) s ≡ stopped what.Expected) (both_rooms l.nested d) i) (rest, f, y)

  -- what leaves the machine without a whole formula is none
  pub not_spelled : (d : ℕ) (s : List Token) → IsGoing (run N T (start d) s) → whole (run N T (start d) s) ≡ None → ¬ IsSpelled s
  not_spelled d s g e (l, f, x) =
      let labels : N ≤ N + l.labels = omega arith in
      let threshold : T ≤ T + l.threshold = omega arith in
      let labels2 : l.labels ≤ N + l.labels = omega arith in
      let threshold2 : l.threshold ≤ T + l.threshold = omega arith in
      let i = whole_up labels threshold l.nested d s g in
      let y = roomier_up labels2 threshold2 d l.nested x in
      let z = subst (λ v. Derives (N + l.labels) (T + l.threshold) v formula f s []) (both_rooms d l.nested) y in
      none_is_some (sym e ∙ sym i.0 ∙ spelled_is_read (N + l.labels) (T + l.threshold) z)

-- how much a token wants of the limits
abbrev reach : Token → ℕ
reach (Name j) = suc j
reach (Number v) = v.c
reach t = 0

-- with these limits the machine goes on with what a limit stopped it at
module _ (N T : ℕ) where
  freed_named : (d : ℕ) (ls : List Layer) (o a : Option Tree) (n j : ℕ) → IsGoing (named (nat_lt j (N + suc j)) (suc d) ls o a n j)
  freed_named d ls o a n j =
      let below : j < N + suc j = omega arith in
      subst (λ b. IsGoing (named b (suc d) ls o a n j)) (sym (lt-ltb j (N + suc j) below)) tt

  freed_judged : (op : Op) (v : DecimalNumber) (d : ℕ) (ls : List Layer) (o a : Option Tree) (n : ℕ)
      → IsGoing (judged (nat_le v.c ((T + v.c) * 10 ^ v.x)) op v (suc d) ls o a n)
  freed_judged op v d ls o a n =
      subst (λ b. IsGoing (judged b op v (suc d) ls o a n))
      (sym (le-leb v.c ((T + v.c) * 10 ^ v.x) (at_most_by T v.c (10 ^ v.x) (ten_pos v.x)))) tt

  freed_closed_as : (k : Kind) (d : ℕ) (ls : List Layer) (o a : Option Tree) (n : ℕ) (f : Tree) → IsExpected (closed_as k d ls o a n f)
      → IsGoing (closed_as k (suc d) ls o a n f)
  freed_closed_as parens d ls o a n f h = tt
  freed_closed_as (of_next op q) d ls o a n f h = h
  freed_closed_as (until_left op q) d ls o a n f h = h
  freed_closed_as (until_right op q g b) d ls o a n f h = h

  freed_closed : (d : ℕ) (ls : List Layer) (f : Tree) → IsExpected (closed d ls f) → IsGoing (closed (suc d) ls f)
  freed_closed d [] f h = h
  freed_closed d (l ∷ ls) f h = freed_closed_as l.kind d ls l.either l.both l.bangs f h

  freed_boxed_as : (k : Kind) (d : ℕ) (ls : List Layer) (o a : Option Tree) (n : ℕ) (f : Tree) → IsExpected (boxed_as k d ls o a n f)
      → IsGoing (boxed_as k (suc d) ls o a n f)
  freed_boxed_as parens d ls o a n f h = h
  freed_boxed_as (of_next op q) d ls o a n f h = tt
  freed_boxed_as (until_left op q) d ls o a n f h = h
  freed_boxed_as (until_right op q g b) d ls o a n f h = tt

  freed_boxed : (d : ℕ) (ls : List Layer) (f : Tree) → IsExpected (boxed d ls f) → IsGoing (boxed (suc d) ls f)
  freed_boxed d [] f h = h
  freed_boxed d (l ∷ ls) f h = freed_boxed_as l.kind d ls l.either l.both l.bangs f h

  freed_turned_as : (k : Kind) (d : ℕ) (ls : List Layer) (o a : Option Tree) (n : ℕ) (f : Tree) → IsExpected (turned_as k d ls o a n f)
      → IsGoing (turned_as k (suc d) ls o a n f)
  freed_turned_as parens d ls o a n f h = h
  freed_turned_as (of_next op q) d ls o a n f h = h
  freed_turned_as (until_left op q) d ls o a n f h = tt
  freed_turned_as (until_right op q g b) d ls o a n f h = h

  freed_turned : (d : ℕ) (ls : List Layer) (f : Tree) → IsExpected (turned d ls f) → IsGoing (turned (suc d) ls f)
  freed_turned d [] f h = h
  freed_turned d (l ∷ ls) f h = freed_turned_as l.kind d ls l.either l.both l.bangs f h

  freed_zero : (z : ℕ) (p : Phase) (d : ℕ) (ls : List Layer) (o a : Option Tree) (n : ℕ) → IsExpected (zero_then z p d ls o a n)
      → IsGoing (zero_then z p (suc d) ls o a n)
  freed_zero zero p d ls o a n h = tt
  freed_zero (suc z) p d ls o a n h = h

  freed_want : (t : Token) (d : ℕ) (ls : List Layer) (o a : Option Tree) (n : ℕ) → IsExpected (in_want N T t d ls o a n)
      → IsGoing (in_want (N + reach t) (T + reach t) t (suc d) ls o a n)
  freed_want Truth d ls o a n h = tt
  freed_want Falsehood d ls o a n h = tt
  freed_want (Name j) d ls o a n h = freed_named d ls o a n j
  freed_want Bang d ls o a n h = tt
  freed_want OpenParen d ls o a n h = tt
  freed_want ProbabilityWord d ls o a n h = tt
  freed_want t d ls o a n h = h

  freed_have : (t : Token) (d : ℕ) (ls : List Layer) (o a : Option Tree) (f : Tree) → IsExpected (in_have N T t d ls o a f)
      → IsGoing (in_have (N + reach t) (T + reach t) t (suc d) ls o a f)
  freed_have AndAnd d ls o a f h = tt
  freed_have OrOr d ls o a f h = tt
  freed_have CloseParen d ls o a f h = freed_closed d ls (with_either o (with_both a f)) h
  freed_have CloseBracket d ls o a f h = freed_boxed d ls (with_either o (with_both a f)) h
  freed_have UntilWord d ls o a f h = freed_turned d ls (with_either o (with_both a f)) h
  freed_have t d ls o a f h = h

  freed_more : (p : Phase) (t : Token) (d : ℕ) (ls : List Layer) (o a : Option Tree) (n : ℕ) → IsExpected (in_more N T p t d ls o a n)
      → IsGoing (in_more (N + reach t) (T + reach t) p t (suc d) ls o a n)
  freed_more (p_path op q) NextWord d ls o a n h = tt
  freed_more (p_path op q) t d ls o a n h = freed_want t d (layer (until_left op q) o a n ∷ ls) None None 0 h
  freed_more (u_start op q f) OpenBracket d ls o a n h = tt
  freed_more (u_start op q f) t d ls o a n h = freed_want t d (layer (until_right op q f Unbounded) o a n ∷ ls) None None 0 h
  freed_more (u_zero op q f) (Number z) d ls o a n h = freed_zero z.c (u_comma op q f) d ls o a n h
  freed_more (u_again op q f) OpenBracket d ls o a n h = tt
  freed_more (u_again op q f) t d ls o a n h = freed_want t d (layer (until_right op q f Unbounded) o a n ∷ ls) None None 0 h
  freed_more (v_zero op q f) (Number z) d ls o a n h = freed_zero z.c (v_comma op q f) d ls o a n h
  freed_more p_brace OpenBrace d ls o a n h = tt
  freed_more p_op (Compare op) d ls o a n h = tt
  freed_more (p_number op) (Number q) d ls o a n h = freed_judged op q d ls o a n
  freed_more (p_close op q) CloseBrace d ls o a n h = tt
  freed_more (p_bracket op q) OpenBracket d ls o a n h = tt
  freed_more (u_comma op q f) Comma d ls o a n h = tt
  freed_more (u_limit op q f) (Number t) d ls o a n h = tt
  freed_more (u_limit op q f) Tilde d ls o a n h = tt
  freed_more (u_close op q f t) CloseBracket d ls o a n h = tt
  freed_more (u_any op q f) CloseBracket d ls o a n h = tt
  freed_more (v_comma op q f) Comma d ls o a n h = tt
  freed_more (v_limit op q f) (Number t) d ls o a n h = tt
  freed_more (v_close op q f t) CloseBracket d ls o a n h = tt
  freed_more p t d ls o a n h = h

  freed : (q : State) (t : Token) → IsGoing q → IsExpected (step N T q t) → IsGoing (step (N + reach t) (T + reach t) (raised q) t)
  freed (want d ls o a n) t g h = freed_want t d ls o a n h
  freed (have d ls o a f) t g h = freed_have t d ls o a f h
  freed (more p d ls o a n) t g h = freed_more p t d ls o a n h
  freed (stopped w) t g h = absurd g

  -- some formula begins with what the machine is not stuck at
  pub expected : (d : ℕ) (s : List Token) (t : Token) → IsGoing (run N T (start d) s) → IsExpected (step N T (run N T (start d) s) t)
      → Begins (s ++ t ∷ [])
  expected d s t g h =
      let M : ℕ = N + reach t in
      let U : ℕ = T + reach t in
      let labels : N ≤ M = omega arith in
      let threshold : T ≤ U = omega arith in
      let i : run M U (start (suc d)) s ≡ raised (run N T (start d) s) =
      raised-run labels threshold (start d) s (going_is_free (run N T (start d) s) g) in
      let w : IsGoing (run M U (start (suc d)) (s ++ t ∷ [])) =
      subst IsGoing (sym (run-one M U (start (suc d)) s t ∙ ap (λ q. step M U q t) i)) (freed (run N T (start d) s) t g h) in
      (limits M U (suc d), goes_on M U (suc d) (s ++ t ∷ []) w)
