-- The fault of a token, by what the machine does with it.
use Rattle.std.proofs.Common.{◌≡◌, ℕ, ◌<◌, ◌≤◌, ◌*◌, ◌^◌, ◌⊎◌, inl, inr, Bool, true, false, nat_lt, nat_le, List, [], ◌∷◌, ◌++◌, Option}
use Rattle.std.proofs.Common.{Some, None, refl, sym, ◌∙◌, ap, subst, arith}
use Rattle.std.proofs.lemmas.Bool.{ltb-true, leb-true}
use Rattle.decimal_text.specs.DecimalNumber.{DecimalNumber}
use Rattle.csl_syntax.specs.declared.fault.FormulaWhat.{FormulaWhat}
use Rattle.csl_syntax.specs.declared.fault.FormulaWhat.TheVariants as what
use Rattle.csl_syntax.specs.declared.token.Token.{Token}
use Rattle.csl_syntax.specs.declared.token.Token.TheVariants.{Name, Compare, Number}
use Rattle.csl_syntax.specs.declared.formula.Op.{Op}
use Rattle.csl_syntax.specs.declared.formula.Bound.TheVariants.{Unbounded}
use Rattle.csl_syntax.specs.Tree.{Tree, IsUpTo}
use Rattle.csl_syntax.specs.Grammar.{BeginsWithin, Begins}
use Rattle.csl_syntax.specs.Machine.{Layer, until_left, until_right, p_op, p_number, p_path, u_start, u_again, layer, more, named, judged}
use Rattle.csl_syntax.specs.Machine.{State, want, have, stopped, start, step, run}
use Rattle.csl_syntax.specs.FormulaFault.{IsEnclosing}
use Rattle.csl_syntax.specs.declared.limits.TheConstants.{MOST_NESTED}
use Rattle.csl_syntax.proofs.Endings.{IsGoing, limits, run-one, stops, goes}
use Rattle.csl_syntax.proofs.Wider.{IsExpected}
use Rattle.csl_syntax.proofs.Follows.{number_place, StopsFor, Follows, follows}
use Rattle.csl_syntax.proofs.Stops.{unexpected, expected}

none_is_some : {A : Type 0} (a : A) → None ≡ Some a → ⊥
none_is_some a e = cc

-- a list has a last token or is empty
last_of : (t : Token) (s : List Token) → (s ≡ []) ⊎ ((front : List Token) × (u : Token) × (s ≡ front ++ u ∷ []))
    → (t ∷ s ≡ []) ⊎ ((front : List Token) × (u : Token) × (t ∷ s ≡ front ++ u ∷ []))
last_of t s (inl e) = inr ([], t, ap (λ v. t ∷ v) e)
last_of t s (inr (front, u, e)) = inr (t ∷ front, u, ap (λ v. t ∷ v) e)

last : (s : List Token) → (s ≡ []) ⊎ ((front : List Token) × (t : Token) × (s ≡ front ++ t ∷ []))
last [] = inl refl
last (t ∷ s) = last_of t s (last s)

module _ (N T : ℕ) where
  place_of : (q : State) (t : Token) (r : State) (op : Op) → Follows N T q t r → number_place r ≡ Some op → t ≡ Compare op
  place_of q t (want d ls o a n) op f e = absurd (none_is_some op e)
  place_of q t (have d ls o a g) op f e = absurd (none_is_some op e)
  place_of q t (more (p_number v) d ls o a n) op f e = cc
  place_of q t (more p d ls o a n) op f e = absurd (none_is_some op e)
  place_of q t (stopped w) op f e = absurd (none_is_some op e)

  step_place : (q : State) (t : Token) (op : Op) → number_place (step N T q t) ≡ Some op → t ≡ Compare op
  step_place (want d ls o a n) t op e =
      place_of (want d ls o a n) t (step N T (want d ls o a n) t) op (follows N T (want d ls o a n) t tt) e
  step_place (have d ls o a f) t op e =
      place_of (have d ls o a f) t (step N T (have d ls o a f) t) op (follows N T (have d ls o a f) t tt) e
  step_place (more p d ls o a n) t op e =
      place_of (more p d ls o a n) t (step N T (more p d ls o a n) t) op (follows N T (more p d ls o a n) t tt) e
  step_place (stopped w) t op e = absurd (none_is_some op e)

  after_op_of : (d : ℕ) (s : List Token) (op : Op) → (s ≡ []) ⊎ ((front : List Token) × (t : Token) × (s ≡ front ++ t ∷ []))
      → number_place (run N T (start d) s) ≡ Some op →
      (earlier : List Token) × (s ≡ earlier ++ Compare op ∷ [])
  after_op_of d s op (inl h) e = absurd (none_is_some op (sym (ap (λ v. number_place (run N T (start d) v)) h) ∙ e))
  after_op_of d s op (inr (front, t, h)) e =
      let i : number_place (step N T (run N T (start d) front) t) ≡ Some op =
      sym (ap number_place (run-one N T (start d) front t)) ∙ sym (ap (λ v. number_place (run N T (start d) v)) h) ∙ e in
      (front, h ∙ ap (λ v. front ++ v ∷ []) (step_place (run N T (start d) front) t op i))

  after_op : (d : ℕ) (s : List Token) (op : Op) → number_place (run N T (start d) s) ≡ Some op
      → (earlier : List Token) × (s ≡ earlier ++ Compare op ∷ [])
  after_op d s op e = after_op_of d s op (last s) e

  named_passes : (b : Bool) (d : ℕ) (ls : List Layer) (o a : Option Tree) (n j : ℕ) → (b ≡ true → j < N) → IsGoing (named b d ls o a n j)
      → j < N
  named_passes true d ls o a n j h g = h refl
  named_passes false d ls o a n j h g = absurd g

  -- a name that passes is a label's
  name_passes : (q : State) (j : ℕ) → IsGoing (step N T q (Name j)) → j < N
  name_passes (want d ls o a n) j g = named_passes (nat_lt j N) d ls o a n j (ltb-true j N) g
  name_passes (have d ls o a f) j g = absurd g
  name_passes (more (p_path op q) d ls o a n) j g =
      named_passes (nat_lt j N) d (layer (until_left op q) o a n ∷ ls) None None 0 j (ltb-true j N) g
  name_passes (more (u_start op q f) d ls o a n) j g =
      named_passes (nat_lt j N) d (layer (until_right op q f Unbounded) o a n ∷ ls) None None 0 j (ltb-true j N) g
  name_passes (more (u_again op q f) d ls o a n) j g =
      named_passes (nat_lt j N) d (layer (until_right op q f Unbounded) o a n ∷ ls) None None 0 j (ltb-true j N) g
  name_passes (more p d ls o a n) j g = absurd g
  name_passes (stopped w) j g = absurd g

  judged_passes : (b : Bool) (op : Op) (v : DecimalNumber) (d : ℕ) (ls : List Layer) (o a : Option Tree) (n : ℕ) → (b ≡ true → IsUpTo T v)
      → IsGoing (judged b op v d ls o a n) → IsUpTo T v
  judged_passes true op v d ls o a n h g = h refl
  judged_passes false op v d ls o a n h g = absurd g

  -- a threshold that passes is small enough
  number_passes : (q : State) (op : Op) (v : DecimalNumber) → number_place q ≡ Some op → IsGoing (step N T q (Number v)) → IsUpTo T v
  number_passes (want d ls o a n) op v e g = absurd g
  number_passes (have d ls o a f) op v e g = absurd g
  number_passes (more (p_number c) d ls o a n) op v e g =
      judged_passes (nat_le v.c (T * 10 ^ v.x)) c v d ls o a n (leb-true v.c (T * 10 ^ v.x)) g
  number_passes (more p d ls o a n) op v e g = absurd (none_is_some op e)
  number_passes (stopped w) op v e g = absurd g

  -- after a comparison that passes a number must come
  op_passes : (q : State) (op : Op) → IsGoing (step N T q (Compare op)) → number_place (step N T q (Compare op)) ≡ Some op
  op_passes (want d ls o a n) op g = absurd g
  op_passes (have d ls o a f) op g = absurd g
  op_passes (more p_op d ls o a n) op g = refl
  op_passes (more p d ls o a n) op g = absurd g
  op_passes (stopped w) op g = absurd g

-- after the tokens s, over so many labels, the token t fails so
module _ (N : ℕ) (s : List Token) (t : Token) where
  abbrev pub TokenFails : FormulaWhat → Type 0
  TokenFails what.Token = ⊥
  TokenFails what.Number = ⊥
  TokenFails what.Expected = ¬ Begins (s ++ t ∷ [])
  TokenFails what.UnknownLabel = (j : ℕ) × (t ≡ Name j) × Begins (s ++ t ∷ []) × (N ≤ j)
  TokenFails what.Threshold =
      (op : Op) × (earlier : List Token) × (v : DecimalNumber) × (s ≡ earlier ++ Compare op ∷ []) × (t ≡ Number v) × Begins (s ++ t ∷ [])
      × (¬ IsUpTo 1 v)
  TokenFails what.Depth = IsEnclosing t × Begins (s ++ t ∷ []) × (¬ BeginsWithin (limits N 1 MOST_NESTED) (s ++ t ∷ []))
  TokenFails what.Length = ⊥

module _ (N : ℕ) (s : List Token) (t : Token) where
  abbrev pub state : State
  state = run N 1 (start MOST_NESTED) s

  stopped_at : (w : FormulaWhat) → step N 1 state t ≡ stopped w → run N 1 (start MOST_NESTED) (s ++ t ∷ []) ≡ stopped w
  stopped_at w e = run-one N 1 (start MOST_NESTED) s t ∙ e

  begins_at : (w : FormulaWhat) → IsExpected (stopped w) → IsGoing state → step N 1 state t ≡ stopped w → Begins (s ++ t ∷ [])
  begins_at w h g e = expected N 1 MOST_NESTED s t g (subst IsExpected (sym e) h)

  fails_of : (w : FormulaWhat) → IsGoing state → step N 1 state t ≡ stopped w → StopsFor N 1 state t w → TokenFails N s t w
  fails_of what.Expected g e f = unexpected N 1 MOST_NESTED (s ++ t ∷ []) (stopped_at what.Expected e)
  fails_of what.UnknownLabel g e (j, k, h) = (j, k, begins_at what.UnknownLabel tt g e, h)
  fails_of what.Threshold g e (op, v, p, k, h) =
      let a = after_op N 1 MOST_NESTED s op p in
      (op, a.0, v, a.1, k, begins_at what.Threshold tt g e, h)
  fails_of what.Depth g e f = (f, begins_at what.Depth tt g e, stops N 1 MOST_NESTED (s ++ t ∷ []) what.Depth (stopped_at what.Depth e))
  fails_of what.Token g e f = f
  fails_of what.Number g e f = f
  fails_of what.Length g e f = f

  -- what the machine stops at is the token's fault
  pub token_fails : (w : FormulaWhat) → IsGoing state → step N 1 state t ≡ stopped w → TokenFails N s t w
  token_fails w g e = fails_of w g e (subst (Follows N 1 state t) e (follows N 1 state t g))

  going_after : BeginsWithin (limits N 1 MOST_NESTED) (s ++ t ∷ []) → IsGoing (step N 1 state t)
  going_after b = subst IsGoing (run-one N 1 (start MOST_NESTED) s t) (goes N 1 MOST_NESTED (s ++ t ∷ []) b)

  begins_so : BeginsWithin (limits N 1 MOST_NESTED) (s ++ t ∷ []) → Begins (s ++ t ∷ [])
  begins_so b = (limits N 1 MOST_NESTED, b)

  op_place : (op : Op) (earlier : List Token) → s ≡ earlier ++ Compare op ∷ [] → IsGoing state → number_place state ≡ Some op
  op_place op earlier e g =
      let i : state ≡ step N 1 (run N 1 (start MOST_NESTED) earlier) (Compare op) =
      ap (run N 1 (start MOST_NESTED)) e ∙ run-one N 1 (start MOST_NESTED) earlier (Compare op) in
      ap number_place i ∙ op_passes N 1 (run N 1 (start MOST_NESTED) earlier) op (subst IsGoing i g)

  -- a token that fails doesn't pass
  pub not_passing : (w : FormulaWhat) → BeginsWithin (limits N 1 MOST_NESTED) s → TokenFails N s t w
      → ¬ BeginsWithin (limits N 1 MOST_NESTED) (s ++ t ∷ [])
  not_passing what.Token p f b = f
  not_passing what.Number p f b = f
  not_passing what.Expected p f b = f (begins_so b)
  not_passing what.UnknownLabel p (j, e, i, h) b =
      let k : j < N = name_passes N 1 state j (subst (λ v. IsGoing (step N 1 state v)) e (going_after b)) in
      omega (arith, h, k)
  not_passing what.Threshold p (op, earlier, v, e, k, i, h) b =
      h (number_passes N 1 state op v (op_place op earlier e (goes N 1 MOST_NESTED s p))
      (subst (λ v. IsGoing (step N 1 state v)) k (going_after b)))
  not_passing what.Depth p (e, i, n) b = n b
  not_passing what.Length p f b = f

-- the fault of a token with which formulas go on
abbrev kind_of : Token → FormulaWhat
kind_of (Name j) = what.UnknownLabel
kind_of (Number v) = what.Threshold
kind_of t = what.Depth

deep_kind : (t : Token) → IsEnclosing t → what.Depth ≡ kind_of t
deep_kind (Name j) h = absurd h
deep_kind (Number v) h = absurd h
deep_kind t h = refl

module _ (N : ℕ) (s : List Token) (t : Token) where
  abbrev IsKind : FormulaWhat → Type 0
  IsKind w = ((¬ Begins (s ++ t ∷ [])) × (w ≡ what.Expected)) ⊎ (Begins (s ++ t ∷ []) × (w ≡ kind_of t))

  kind : (w : FormulaWhat) → TokenFails N s t w → IsKind w
  kind what.Token f = absurd f
  kind what.Number f = absurd f
  kind what.Expected f = inl (f, refl)
  kind what.UnknownLabel (j, e, b, h) = inr (b, sym (ap kind_of e))
  kind what.Threshold (op, earlier, v, e, k, b, h) = inr (b, sym (ap kind_of k))
  kind what.Depth (e, b, n) = inr (b, deep_kind t e)
  kind what.Length f = absurd f

  same_kind : (v w : FormulaWhat) → IsKind v → IsKind w → v ≡ w
  same_kind v w (inl (h, e)) (inl (k, f)) = e ∙ sym f
  same_kind v w (inl (h, e)) (inr (b, f)) = absurd (h b)
  same_kind v w (inr (b, e)) (inl (k, f)) = absurd (k b)
  same_kind v w (inr (b, e)) (inr (c, f)) = e ∙ sym f

  -- a token has one fault at most
  pub one_failure : (v w : FormulaWhat) → TokenFails N s t v → TokenFails N s t w → v ≡ w
  one_failure v w f g = same_kind v w (kind v f) (kind w g)
