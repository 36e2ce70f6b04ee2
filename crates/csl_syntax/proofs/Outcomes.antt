-- Each line stands for a formula or has a fault; and the formula is over the labels.
use Rattle.std.proofs.Common.{◌≡◌, ℕ, zero, suc, ◌+◌, ◌≤◌, ◌<◌, ◌⊎◌, inl, inr, Bool, true, false, nat_le, Option, Some, None, List, []}
use Rattle.std.proofs.Common.{◌∷◌, ◌++◌, length, refl, sym, ap, subst, arith, length-append}
use Rattle.std.proofs.lemmas.Bool.{leb-true, leb-false}
use Rattle.text_lines.specs.Words.{is_blank}
use Rattle.csl_syntax.specs.declared.fault.FormulaWhat.{FormulaWhat}
use Rattle.csl_syntax.specs.declared.fault.FormulaWhat.TheVariants as what
use Rattle.csl_syntax.specs.declared.limits.TheConstants.{MOST_BYTES, MOST_NESTED}
use Rattle.csl_syntax.specs.declared.token.Token.{Token}
use Rattle.csl_syntax.specs.declared.token.Token.TheVariants.{Name}
use Rattle.csl_syntax.specs.Tree.{Tree, IsOver}
use Rattle.csl_syntax.specs.Tokens.{BeginsWithToken, HasTokens, no_more}
use Rattle.csl_syntax.specs.Grammar.{Level, Derives, a_truth, a_falsehood, a_name, in_parens, a_next, an_until, a_not, an_atom, an_and}
use Rattle.csl_syntax.specs.Grammar.{a_unary, an_or, a_conj, BeginsWithin, Begins}
use Rattle.csl_syntax.specs.FormulaText.{line_limits}
use Rattle.csl_syntax.specs.FormulaFault.{FailsBy, LineFailsAt, FormulaFaultAt}
use Rattle.csl_syntax.specs.Laws.{SaysSomeFormula, HasSomeFormulaFault, FormulaOrFault, FormulasAreOverLabels}
use Rattle.csl_syntax.specs.Machine.{State, want, have, more, stopped, start, step, run, whole}
use Rattle.csl_syntax.proofs.Sound.{read_is_spelled}
use Rattle.csl_syntax.proofs.Endings.{IsGoing, run-one, goes_on}
use Rattle.csl_syntax.proofs.Stops.{not_spelled}
use Rattle.csl_syntax.proofs.TokenFaults.{TokenFails, token_fails}
use Rattle.csl_syntax.proofs.OneToken.{text_starts}
use Rattle.csl_syntax.proofs.Scanning.{has-token, has-blank}
use Rattle.csl_syntax.proofs.Fronts.{Front, front}

-- a token is some of the bytes
pub token_shortens : (labels : List (List ℕ)) (bytes rest : List ℕ) (t : Token) → BeginsWithToken labels bytes t rest
    → length rest < length bytes
token_shortens labels bytes rest t h =
    let s = text_starts h.text h.longest.fits in
    omega (arith, ap length h.longest.stands, length-append h.text rest, ap length s.split)

-- what is wrong with a token is wrong with the line that it stands in
module _ (labels : List (List ℕ)) where
  pub fails_at : (ts : List Token) (r more : List ℕ) (t : Token) (v : FormulaWhat) → BeginsWithToken labels r t more
      → TokenFails (length labels) ts t v → FailsBy labels ts r v
  fails_at ts r m t what.Token h f = absurd f
  fails_at ts r m t what.Number h f = absurd f
  fails_at ts r m t what.Expected h f = inl (record { token = t; more = m; next = h; unexpected = f })
  fails_at ts r m t what.UnknownLabel h (j, e, b, l) = inl_name ts r m t j h e b l
    where
      inl_name : (ts : List Token) (r m : List ℕ) (t : Token) (j : ℕ) → BeginsWithToken labels r t m → t ≡ Name j → Begins (ts ++ t ∷ [])
          → length labels ≤ j →
          FailsBy labels ts r what.UnknownLabel
      inl_name ts r m t j h e b l = record {
        place = j;
        more = m;
        next = subst (λ x. BeginsWithToken labels r x m) e h;
        expected = subst (λ x. Begins (ts ++ x ∷ [])) e b;
        unknown = l;
      }
  fails_at ts r m t what.Threshold h (op, earlier, v, e, k, b, l) = record {
    op = op;
    earlier = earlier;
    after_op = e;
    value = v;
    more = m;
    next = subst (λ x. BeginsWithToken labels r x m) k h;
    expected = subst (λ x. Begins (ts ++ x ∷ [])) k b;
    great = l;
  }
  fails_at ts r m t what.Depth h (e, b, d) = record { token = t; encloses = e; more = m; next = h; expected = b; deep = d }
  fails_at ts r m t what.Length h f = absurd f

  -- a line with a fault that isn't its length
  pub fault_of : (line : List ℕ) (k : ℕ) (v : FormulaWhat) (ts : List Token) (r : List ℕ) → FailsBy labels ts r v
      → LineFailsAt line labels k v → FormulaFaultAt line labels k v
  fault_of line k what.Token ts r f h = h
  fault_of line k what.Number ts r f h = h
  fault_of line k what.Expected ts r f h = h
  fault_of line k what.UnknownLabel ts r f h = h
  fault_of line k what.Threshold ts r f h = h
  fault_of line k what.Depth ts r f h = h
  fault_of line k what.Length ts r f h = absurd f

  -- what is left of the line, and what is read of it
  pub record Reads (line : List ℕ) (ts : List Token) (rest : List ℕ) : Type 0 where
    pub short : length line ≤ MOST_BYTES
    pub has : HasTokens labels line ts rest
    pub going : IsGoing (run (length labels) 1 (start MOST_NESTED) ts)
    pub within : length rest ≤ length line

  pub passing : (line : List ℕ) (ts : List Token) (rest : List ℕ) → Reads line ts rest → BeginsWithin (line_limits labels) ts
  passing line ts rest h = goes_on (length labels) 1 MOST_NESTED ts h.going

  -- here the line fails
  pub fails_here : (line : List ℕ) (ts : List Token) (rest : List ℕ) (k : ℕ) (v : FormulaWhat) → Reads line ts rest
      → k + length rest ≡ length line + 1 → FailsBy labels ts rest v →
      FormulaFaultAt line labels k v
  fails_here line ts rest k v h e f =
      fault_of line k v ts rest f (record
      { short = h.short; before = ts; rest = rest; has = h.has; pass = passing line ts rest h; here = e; fails = f })

  column_of : (r l : ℕ) → r ≤ l → (k : ℕ) × (k + r ≡ l + 1)
  column_of zero l h = (l + 1, omega arith)
  column_of (suc r) zero h = absurd (too_small r h)
    where
      too_small : (r : ℕ) → suc r ≤ 0 → ⊥
      too_small r h = omega (arith, h)
  column_of (suc r) (suc l) h = let i = column_of r l (omega (arith, h)) in (i.0, omega (arith, i.1))

  abbrev Outcome : List ℕ → Type 0
  Outcome line = SaysSomeFormula line labels ⊎ HasSomeFormulaFault line labels

  some_fault : (line : List ℕ) (ts : List Token) (rest : List ℕ) (v : FormulaWhat) → Reads line ts rest → FailsBy labels ts rest v
      → Outcome line
  some_fault line ts rest v h f =
      let c = column_of (length rest) (length line) h.within in
      inr (c.0, v, fails_here line ts rest c.0 v h c.1 f)

  -- the end of a line
  pub ends_early : (ts : List Token) → IsGoing (run (length labels) 1 (start MOST_NESTED) ts)
      → whole (run (length labels) 1 (start MOST_NESTED) ts) ≡ None →
      FailsBy labels ts [] what.Expected
  ends_early ts g e = inr (record { none_left = refl; unfinished = not_spelled (length labels) 1 MOST_NESTED ts g e })

  end_case : (line : List ℕ) (ts : List Token) (o : Option Tree) → whole (run (length labels) 1 (start MOST_NESTED) ts) ≡ o
      → Reads line ts [] → Outcome line
  end_case line ts (Some f) e h =
      inl (f, record { short = h.short; tokens = ts; has = h.has; spells = read_is_spelled (length labels) 1 MOST_NESTED ts e })
  end_case line ts None e h = some_fault line ts [] what.Expected h (ends_early ts h.going e)

  after_token : {line : List ℕ} {ts : List Token} {rest more : List ℕ} {t : Token} → Reads line ts rest
      → BeginsWithToken labels rest t more →
      IsGoing (step (length labels) 1 (run (length labels) 1 (start MOST_NESTED) ts) t) → Reads line (ts ++ t ∷ []) more
  after_token {line} {ts} {rest} {more} {t} h g k = record {
    short = h.short;
    has = has-token labels h.has g;
    going = subst IsGoing (sym (run-one (length labels) 1 (start MOST_NESTED) ts t)) k;
    within = omega (arith, h.within, token_shortens labels rest more t g);
  }

  -- a step further, where n bytes and fewer are known to have an outcome
  module _ (line : List ℕ) (n : ℕ) (next : (ts : List Token) (rest : List ℕ) → length rest ≤ n → Reads line ts rest → Outcome line) where
    goes_to : (ts : List Token) (rest m : List ℕ) (t : Token) (q : State)
        → step (length labels) 1 (run (length labels) 1 (start MOST_NESTED) ts) t ≡ q →
        BeginsWithToken labels rest t m → length m ≤ n → Reads line ts rest → Outcome line
    goes_to ts rest m t (want d ls o a b) e g l h = next (ts ++ t ∷ []) m l (after_token h g (subst IsGoing (sym e) tt))
    goes_to ts rest m t (have d ls o a f) e g l h = next (ts ++ t ∷ []) m l (after_token h g (subst IsGoing (sym e) tt))
    goes_to ts rest m t (more p d ls o a b) e g l h = next (ts ++ t ∷ []) m l (after_token h g (subst IsGoing (sym e) tt))
    goes_to ts rest m t (stopped w) e g l h =
        some_fault line ts rest w h (fails_at ts rest m t w g (token_fails (length labels) ts t w h.going e))

    at_front : (ts : List Token) (rest : List ℕ) → length rest ≤ suc n → Reads line ts rest → Front labels rest → Outcome line
    at_front ts rest l h (inl f) = some_fault line ts rest what.Token h f
    at_front ts rest l h (inr (inl f)) = some_fault line ts rest what.Number h f
    at_front ts rest l h (inr (inr (t, m, g))) =
        goes_to ts rest m t (step (length labels) 1 (run (length labels) 1 (start MOST_NESTED) ts) t) refl g
        (omega (arith, l, token_shortens labels rest m t g)) h

    at_byte : (ts : List Token) (b : ℕ) (s : List ℕ) (r : Bool) → is_blank b ≡ r → length s ≤ n → Reads line ts (b ∷ s) → Outcome line
    at_byte ts b s true e l h =
        next ts s l (record { short = h.short; has = has-blank labels h.has refl e; going = h.going; within = omega (arith, h.within) })
    at_byte ts b s false e l h = at_front ts (b ∷ s) (omega (arith, l)) h (front labels b s e)

  too_few : (n : ℕ) → suc n ≤ 0 → ⊥
  too_few n h = omega (arith, h)

  -- the rest of a line, of at most n bytes
  outcome : (n : ℕ) (line : List ℕ) (ts : List Token) (rest : List ℕ) → length rest ≤ n → Reads line ts rest → Outcome line
  outcome n line ts [] l h = end_case line ts (whole (run (length labels) 1 (start MOST_NESTED) ts)) refl h
  outcome zero line ts (b ∷ s) l h = absurd (too_few (length s) l)
  outcome (suc n) line ts (b ∷ s) l h = at_byte line n (λ us r k g. outcome n line us r k g) ts b s (is_blank b) refl (omega (arith, l)) h

  outcome_of : (line : List ℕ) (r : Bool) → nat_le (length line) MOST_BYTES ≡ r → Outcome line
  outcome_of line true e =
      let same : length line ≤ length line = omega arith in
      outcome (length line) line [] line same
      (record { short = leb-true (length line) MOST_BYTES e; has = no_more; going = tt; within = same })
  outcome_of line false e = inr (MOST_BYTES + 1, what.Length, (leb-false (length line) MOST_BYTES e, refl))

pub formula_or_fault : FormulaOrFault
formula_or_fault line labels = outcome_of labels line (nat_le (length line) MOST_BYTES) refl

over : {N d : ℕ} {lv : Level} {f : Tree} {s r : List Token} → Derives N 1 d lv f s r → IsOver N f
over a_truth = tt
over a_falsehood = tt
over (a_name h) = h
over (in_parens x) = over x
over (a_next h x) = (h, over x)
over (an_until h x w y) = (h, over x, over y)
over (a_not x) = over x
over (an_atom x) = over x
over (an_and x y) = (over x, over y)
over (a_unary x) = over x
over (an_or x y) = (over x, over y)
over (a_conj x) = over x

pub formulas_are_over : FormulasAreOverLabels
formulas_are_over line labels f h = over h.spells
