-- Where the machine goes on, some formula goes on so; and where it is stopped, none does within the limits.
use Rattle.std.proofs.Common.{◌≡◌, ℕ, suc, ◌≤◌, ◌*◌, ◌^◌, List, [], ◌∷◌, ◌++◌, Option, Some, None, refl, sym, ◌∙◌, ap, subst, arith}
use Rattle.std.proofs.lemmas.Bool.{le-leb}
use Rattle.decimal_text.specs.DecimalNumber.{DecimalNumber}
use Rattle.csl_syntax.specs.declared.fault.FormulaWhat.{FormulaWhat}
use Rattle.csl_syntax.specs.declared.token.Token.{Token}
use Rattle.csl_syntax.specs.declared.token.Token.TheVariants.{Truth, NextWord, UntilWord, CloseParen, OpenBrace, CloseBrace, OpenBracket}
use Rattle.csl_syntax.specs.declared.token.Token.TheVariants.{CloseBracket, Comma, Compare, Number}
use Rattle.csl_syntax.specs.declared.formula.Op.{Op}
use Rattle.csl_syntax.specs.declared.formula.Op.TheVariants.{Less}
use Rattle.csl_syntax.specs.declared.formula.Bound.TheVariants.{Unbounded, Time, Reward}
use Rattle.csl_syntax.specs.Tree.{Tree, truth, next, until}
use Rattle.csl_syntax.specs.Grammar.{Limits, formula, Derives, BeginsWithin}
use Rattle.csl_syntax.specs.Machine.{Layer, Kind, parens, of_next, until_left, until_right, Phase, p_brace, p_op, p_number, p_close}
use Rattle.csl_syntax.specs.Machine.{p_bracket, p_path, u_start, u_zero, u_comma, u_limit, u_close, u_any, u_again, v_zero, v_comma}
use Rattle.csl_syntax.specs.Machine.{v_limit, v_close, layer, more, judged, State, want, have, stopped, start, negated, back, with_both}
use Rattle.csl_syntax.specs.Machine.{with_either, step, run, whole}
use Rattle.csl_syntax.proofs.Sound.{read_is_spelled}
use Rattle.csl_syntax.proofs.Complete.{spelled_is_read}

-- limits by their three numbers
abbrev pub limits : ℕ → ℕ → ℕ → Limits
limits labels threshold nested = record { labels = labels; threshold = threshold; nested = nested }

-- a number that is small enough for each threshold
abbrev nought : DecimalNumber
nought = record { c = 0; x = 0 }

-- the machine isn't stopped
abbrev pub IsGoing : State → Type 0
IsGoing (want d ls o a n) = Unit {0}
IsGoing (have d ls o a f) = Unit {0}
IsGoing (more p d ls o a n) = Unit {0}
IsGoing (stopped w) = ⊥

module _ (N T : ℕ) where
  -- the tokens that end a layer
  abbrev closing_as : Kind → List Token → List Token
  closing_as parens r = CloseParen ∷ r
  closing_as (of_next op q) r = CloseBracket ∷ r
  closing_as (until_left op q) r = UntilWord ∷ Truth ∷ CloseBracket ∷ r
  closing_as (until_right op q f b) r = CloseBracket ∷ r

  -- the tokens that end what is open
  closing : List Layer → List Token
  closing [] = []
  closing (l ∷ ls) = closing_as l.kind (closing ls)

  abbrev Ends : State → Type 0
  Ends q = (rest : List Token) × (g : Tree) × (whole (run N T q rest) ≡ Some g)

  -- Where an operand has come, closing ends all.
  abbrev HaveEnds : List Layer → Type 0
  HaveEnds ls = (d : ℕ) (o a : Option Tree) (f : Tree) → (g : Tree) × (whole (run N T (have d ls o a f) (closing ls)) ≡ Some g)

  layer_ends : (k : Kind) (ls : List Layer) (x y : Option Tree) (n d : ℕ) (o a : Option Tree) (f : Tree) → HaveEnds ls →
      (g : Tree) × (whole (run N T (have d (layer k x y n ∷ ls) o a f) (closing_as k (closing ls))) ≡ Some g)
  layer_ends parens ls x y n d o a f h = h (back n (suc d)) x y (negated n (with_either o (with_both a f)))
  layer_ends (of_next op q) ls x y n d o a f h = h (back n (suc d)) x y (negated n (next op q (with_either o (with_both a f))))
  layer_ends (until_left op q) ls x y n d o a f h =
      h (back n (suc d)) x y (negated n (until op q (with_either o (with_both a f)) Unbounded truth))
  layer_ends (until_right op q g b) ls x y n d o a f h =
      h (back n (suc d)) x y (negated n (until op q g b (with_either o (with_both a f))))

  closing_ends : (ls : List Layer) → HaveEnds ls
  unfolding closing
  closing_ends [] d o a f = (with_either o (with_both a f), refl)
  closing_ends (l ∷ ls) d o a f = layer_ends l.kind ls l.either l.both l.bangs d o a f (closing_ends ls)

  have_ends : (d : ℕ) (ls : List Layer) (o a : Option Tree) (f : Tree) → Ends (have d ls o a f)
  have_ends d ls o a f = let e = closing_ends ls d o a f in (closing ls, e.0, e.1)

  -- One more token.
  then : (q : State) (t : Token) → Ends (step N T q t) → Ends q
  then q t (rest, g, e) = (t ∷ rest, g, e)

  want_ends : (d : ℕ) (ls : List Layer) (o a : Option Tree) (n : ℕ) → Ends (want d ls o a n)
  want_ends d ls o a n = then (want d ls o a n) Truth (have_ends (back n d) ls o a (negated n truth))

  close_ends : (op : Op) (q : DecimalNumber) (d : ℕ) (ls : List Layer) (o a : Option Tree) (n : ℕ) → Ends (more (p_close op q) d ls o a n)
  close_ends op q d ls o a n =
      then _ CloseBrace (then _ OpenBracket (then _ NextWord (want_ends d (layer (of_next op q) o a n ∷ ls) None None 0)))

  number_ends : (op : Op) (d : ℕ) (ls : List Layer) (o a : Option Tree) (n : ℕ) → Ends (more (p_number op) d ls o a n)
  number_ends op d ls o a n =
      let fits : 0 ≤ T * 10 ^ 0 = omega arith in
      then _ (Number nought) (subst Ends (sym (ap (λ b. judged b op nought d ls o a n) (le-leb 0 (T * 10 ^ 0) fits)))
      (close_ends op nought d ls o a n))

  more_ends : (p : Phase) (d : ℕ) (ls : List Layer) (o a : Option Tree) (n : ℕ) → Ends (more p d ls o a n)
  more_ends p_brace d ls o a n = then _ OpenBrace (then _ (Compare Less) (number_ends Less d ls o a n))
  more_ends p_op d ls o a n = then _ (Compare Less) (number_ends Less d ls o a n)
  more_ends (p_number op) d ls o a n = number_ends op d ls o a n
  more_ends (p_close op q) d ls o a n = close_ends op q d ls o a n
  more_ends (p_bracket op q) d ls o a n = then _ OpenBracket (then _ NextWord (want_ends d (layer (of_next op q) o a n ∷ ls) None None 0))
  more_ends (p_path op q) d ls o a n = then _ NextWord (want_ends d (layer (of_next op q) o a n ∷ ls) None None 0)
  more_ends (u_start op q f) d ls o a n = then _ Truth (have_ends d (layer (until_right op q f Unbounded) o a n ∷ ls) None None truth)
  more_ends (u_zero op q f) d ls o a n =
      then _ (Number nought) (then _ Comma
      (then _ (Number nought) (then _ CloseBracket (want_ends d (layer (until_right op q f (Time nought)) o a n ∷ ls) None None 0))))
  more_ends (u_comma op q f) d ls o a n =
      then _ Comma (then _ (Number nought)
      (then _ CloseBracket (want_ends d (layer (until_right op q f (Time nought)) o a n ∷ ls) None None 0)))
  more_ends (u_limit op q f) d ls o a n =
      then _ (Number nought) (then _ CloseBracket (want_ends d (layer (until_right op q f (Time nought)) o a n ∷ ls) None None 0))
  more_ends (u_close op q f t) d ls o a n = then _ CloseBracket (want_ends d (layer (until_right op q f (Time t)) o a n ∷ ls) None None 0)
  more_ends (u_any op q f) d ls o a n =
      then _ CloseBracket (then _ Truth (have_ends d (layer (until_right op q f Unbounded) o a n ∷ ls) None None truth))
  more_ends (u_again op q f) d ls o a n = then _ Truth (have_ends d (layer (until_right op q f Unbounded) o a n ∷ ls) None None truth)
  more_ends (v_zero op q f) d ls o a n =
      then _ (Number nought) (then _ Comma
      (then _ (Number nought) (then _ CloseBracket (want_ends d (layer (until_right op q f (Reward nought)) o a n ∷ ls) None None 0))))
  more_ends (v_comma op q f) d ls o a n =
      then _ Comma (then _ (Number nought)
      (then _ CloseBracket (want_ends d (layer (until_right op q f (Reward nought)) o a n ∷ ls) None None 0)))
  more_ends (v_limit op q f) d ls o a n =
      then _ (Number nought) (then _ CloseBracket (want_ends d (layer (until_right op q f (Reward nought)) o a n ∷ ls) None None 0))
  more_ends (v_close op q f t) d ls o a n =
      then _ CloseBracket (want_ends d (layer (until_right op q f (Reward t)) o a n ∷ ls) None None 0)

  pub ends : (q : State) → IsGoing q → Ends q
  ends (want d ls o a n) h = want_ends d ls o a n
  ends (have d ls o a f) h = have_ends d ls o a f
  ends (more p d ls o a n) h = more_ends p d ls o a n
  ends (stopped w) h = absurd h

  pub run-append : (q : State) (s r : List Token) → run N T q (s ++ r) ≡ run N T (run N T q s) r
  run-append q [] r = refl
  run-append q (t ∷ s) r = run-append (step N T q t) s r

  pub run-one : (q : State) (s : List Token) (t : Token) → run N T q (s ++ t ∷ []) ≡ step N T (run N T q s) t
  run-one q s t = run-append q s (t ∷ [])

  pub run-stopped : (w : FormulaWhat) (r : List Token) → run N T (stopped w) r ≡ stopped w
  run-stopped w [] = refl
  run-stopped w (t ∷ r) = run-stopped w r

  none_is_some : {f : Tree} → None ≡ Some f → ⊥
  none_is_some e = cc

  pub goes_on : (d : ℕ) (s : List Token) → IsGoing (run N T (start d) s) → BeginsWithin (limits N T d) s
  goes_on d s h =
      let e : Ends (run N T (start d) s) = ends (run N T (start d) s) h in
      (e.0, e.1, read_is_spelled N T d (s ++ e.0) (ap whole (run-append (start d) s e.0) ∙ e.2))

  pub stops : (d : ℕ) (s : List Token) (w : FormulaWhat) → run N T (start d) s ≡ stopped w → ¬ BeginsWithin (limits N T d) s
  stops d s w h (rest, f, x) =
      none_is_some (sym (ap whole (run-append (start d) s rest ∙ ap (λ q. run N T q rest) h ∙ run-stopped w rest)) ∙ spelled_is_read N T
      x)

  -- the machine goes on with what a formula within the limits begins with
  is_going : (d : ℕ) (s : List Token) (q : State) → run N T (start d) s ≡ q → BeginsWithin (limits N T d) s → IsGoing q
  is_going d s (want e ls o a n) h b = tt
  is_going d s (have e ls o a f) h b = tt
  is_going d s (more p e ls o a n) h b = tt
  is_going d s (stopped w) h b = stops d s w h b

  pub goes : (d : ℕ) (s : List Token) → BeginsWithin (limits N T d) s → IsGoing (run N T (start d) s)
  goes d s b = is_going d s (run N T (start d) s) refl b

  -- no two formulas have the same tokens
  pub one_formula : {f g : Tree} {d : ℕ} (s : List Token) → Derives N T d formula f s [] → Derives N T d formula g s [] → f ≡ g
  one_formula {f} {g} s x y = let h : Some f ≡ Some g = sym (spelled_is_read N T x) ∙ spelled_is_read N T y in cc
