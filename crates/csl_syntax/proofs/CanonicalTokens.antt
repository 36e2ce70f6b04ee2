-- What was read is spelled again by its canonical tokens, within the same limits.
use Rattle.std.proofs.Common.{ℕ, suc, ◌≤◌, Bool, true, false, List, [], ◌∷◌, refl, arith}
use Rattle.decimal_text.specs.DecimalNumber.{DecimalNumber}
use Rattle.csl_syntax.specs.declared.formula.Bound.{Bound}
use Rattle.csl_syntax.specs.declared.formula.Bound.TheVariants.{Unbounded, Time, Reward}
use Rattle.csl_syntax.specs.declared.token.Token.{Token}
use Rattle.csl_syntax.specs.declared.token.Token.TheVariants.{Truth, Falsehood, Name, NextWord, UntilWord, Bang, AndAnd, OrOr, OpenParen}
use Rattle.csl_syntax.specs.declared.token.Token.TheVariants.{CloseParen, OpenBracket, CloseBracket, Comma, Tilde, Number}
use Rattle.csl_syntax.specs.Tree.{Tree, truth, falsehood, label, negation, conjunction, disjunction, next, until}
use Rattle.csl_syntax.specs.Grammar.{Level, formula, conj, unary, atom, operator, IsBound, no_bound, in_time, in_reward, Derives, a_truth}
use Rattle.csl_syntax.specs.Grammar.{a_falsehood, a_name, in_parens, a_next, an_until, a_not, an_atom, an_and, a_unary, an_or, a_conj}
use Rattle.csl_syntax.specs.CanonicalText.{is_disjunction, is_junction}
use Rattle.csl_syntax.proofs.Complete.{roomier}

abbrev pub nought : DecimalNumber
nought = record { c = 0; x = 0 }

-- what s puts before others, in parentheses where they are needed
abbrev pub wrapped : Bool → (List Token → List Token) → List Token → List Token
wrapped true s r = OpenParen ∷ s (CloseParen ∷ r)
wrapped false s r = s r

-- a bound, before others
abbrev pub bound_tokens : Bound → List Token → List Token
bound_tokens Unbounded r = r
bound_tokens (Time t) r = OpenBracket ∷ Number nought ∷ Comma ∷ Number t ∷ CloseBracket ∷ r
bound_tokens (Reward t) r =
    OpenBracket ∷ Number nought ∷ Comma ∷ Tilde ∷ CloseBracket ∷ OpenBracket ∷ Number nought ∷ Comma ∷ Number t ∷ CloseBracket ∷ r

-- the canonical tokens of a formula, before others
abbrev pub spelling : Tree → List Token → List Token
spelling truth r = Truth ∷ r
spelling falsehood r = Falsehood ∷ r
spelling (label j) r = Name j ∷ r
spelling (negation f) r = Bang ∷ wrapped (is_junction f) (spelling f) r
spelling (conjunction f g) r = wrapped (is_disjunction f) (spelling f) (AndAnd ∷ wrapped (is_junction g) (spelling g) r)
spelling (disjunction f g) r = spelling f (OrOr ∷ wrapped (is_disjunction g) (spelling g) r)
spelling (next op q f) r = operator op q (NextWord ∷ spelling f (CloseBracket ∷ r))
spelling (until op q f b g) r = operator op q (spelling f (UntilWord ∷ bound_tokens b (spelling g (CloseBracket ∷ r))))

-- the level at which a formula is spelled
abbrev natural : Tree → Level
natural (disjunction f g) = formula
natural (conjunction f g) = conj
natural f = unary

bound_again : (b : Bound) (r : List Token) → IsBound b (bound_tokens b r) r
bound_again Unbounded r = no_bound
bound_again (Time t) r = in_time refl
bound_again (Reward t) r = in_reward refl refl

module _ (N T : ℕ) where
  wider : {d : ℕ} {lv : Level} {f : Tree} {s r : List Token} → Derives N T d lv f s r → Derives N T (suc d) lv f s r
  wider x =
      let n : N ≤ N = omega arith in
      let t : T ≤ T = omega arith in
      roomier n t x

  abbrev Plain : ℕ → Tree → Type 0
  Plain d f = (r : List Token) → Derives N T d (natural f) f (spelling f r) r

  abbrev AsUnary : ℕ → Tree → Type 0
  AsUnary d f = (r : List Token) → Derives N T d unary f (wrapped (is_junction f) (spelling f) r) r

  abbrev AsConj : ℕ → Tree → Type 0
  AsConj d f = (r : List Token) → Derives N T d conj f (wrapped (is_disjunction f) (spelling f) r) r

  abbrev AsFormula : ℕ → Tree → Type 0
  AsFormula d f = (r : List Token) → Derives N T d formula f (spelling f r) r

  as_formula : {d : ℕ} (f : Tree) → Plain d f → AsFormula d f
  as_formula (disjunction f g) p r = p r
  as_formula (conjunction f g) p r = a_conj (p r)
  as_formula (negation f) p r = a_conj (a_unary (p r))
  as_formula (label j) p r = a_conj (a_unary (p r))
  as_formula truth p r = a_conj (a_unary (p r))
  as_formula falsehood p r = a_conj (a_unary (p r))
  as_formula (next op q f) p r = a_conj (a_unary (p r))
  as_formula (until op q f b g) p r = a_conj (a_unary (p r))

  as_conj : {d : ℕ} (f : Tree) → Plain d f → AsUnary d f → AsConj d f
  as_conj (disjunction f g) p u r = a_unary (u r)
  as_conj (conjunction f g) p u r = p r
  as_conj (negation f) p u r = a_unary (p r)
  as_conj (label j) p u r = a_unary (p r)
  as_conj truth p u r = a_unary (p r)
  as_conj falsehood p u r = a_unary (p r)
  as_conj (next op q f) p u r = a_unary (p r)
  as_conj (until op q f b g) p u r = a_unary (p r)

  as_unary : {d : ℕ} (f : Tree) → Plain d f → AsUnary (suc d) f
  as_unary (disjunction f g) p r = an_atom (in_parens (p (CloseParen ∷ r)))
  as_unary (conjunction f g) p r = an_atom (in_parens (a_conj (p (CloseParen ∷ r))))
  as_unary (negation f) p r = wider (p r)
  as_unary (label j) p r = wider (p r)
  as_unary truth p r = wider (p r)
  as_unary falsehood p r = wider (p r)
  as_unary (next op q f) p r = wider (p r)
  as_unary (until op q f b g) p r = wider (p r)

  abbrev Again : ℕ → Level → Tree → Type 0
  Again d atom f = Plain d f × AsUnary d f
  Again d unary f = Plain d f × AsUnary d f
  Again d conj f = Plain d f × AsConj d f
  Again d formula f = Plain d f × AsFormula d f

  again : {d : ℕ} {lv : Level} {f : Tree} {s r : List Token} → Derives N T d lv f s r → Again d lv f
  again a_truth = (λ r. an_atom a_truth, λ r. an_atom a_truth)
  again a_falsehood = (λ r. an_atom a_falsehood, λ r. an_atom a_falsehood)
  again (a_name h) = (λ r. an_atom (a_name h), λ r. an_atom (a_name h))
  again (in_parens {d} {f} x) = let e = again x in (λ r. wider (e.0 r), as_unary f e.0)
  again (a_next {d} {q} {op} {f} h x) =
      let e = again x in
      let p : Plain (suc d) (next op q f) = λ r. an_atom (a_next h (e.1 (CloseBracket ∷ r))) in
      (p, λ r. p r)
  again (an_until {d} {q} {op} {f} {g} {b} h x w y) =
      let e = again x in
      let e2 = again y in
      let p : Plain (suc d) (until op q f b g) =
      λ r. an_atom (an_until h (e.1 _) (bound_again b (spelling g (CloseBracket ∷ r))) (e2.1 (CloseBracket ∷ r))) in
      (p, λ r. p r)
  again (a_not {d} {f} x) = let e = again x in (λ r. a_not (e.1 r), λ r. a_not (e.1 r))
  again (an_atom x) = again x
  again (an_and {d} {f} {g} x y) =
      let e = again x in
      let e2 = again y in
      let p : Plain d (conjunction f g) = λ r. an_and (e.1 _) (e2.1 r) in
      (p, λ r. p r)
  again (a_unary {d} {f} x) = let e = again x in (e.0, as_conj f e.0 e.1)
  again (an_or {d} {f} {g} x y) =
      let e = again x in
      let e2 = again y in
      let p : Plain d (disjunction f g) = λ r. an_or (e.1 _) (e2.1 r) in
      (p, λ r. p r)
  again (a_conj {d} {f} x) = let e = again x in (e.0, as_formula f e.0)

  -- a formula that was read is spelled again by its canonical tokens
  pub spelled_again : {d : ℕ} {f : Tree} {s r : List Token} → Derives N T d formula f s r → Derives N T d formula f (spelling f []) []
  spelled_again x = (again x).1 []
