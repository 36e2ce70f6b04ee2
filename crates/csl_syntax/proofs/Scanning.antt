-- The tokens of a line, and what is wrong with it, are no others.
use Rattle.std.proofs.Common.{◌≡◌, ℕ, ◌+◌, ◌≤◌, ◌<◌, ◌⊎◌, inl, inr, true, List, [], ◌∷◌, ◌++◌, length, refl, sym, ◌∙◌, ap, subst, arith}
use Rattle.std.proofs.Common.{append_assoc}
use Rattle.text_lines.specs.Words.{is_blank}
use Rattle.csl_syntax.specs.declared.fault.FormulaWhat.{FormulaWhat}
use Rattle.csl_syntax.specs.declared.fault.FormulaWhat.TheVariants as what
use Rattle.csl_syntax.specs.declared.limits.TheConstants.{MOST_BYTES}
use Rattle.csl_syntax.specs.declared.token.Token.{Token}
use Rattle.csl_syntax.specs.declared.token.Token.TheVariants.{Name, Number}
use Rattle.csl_syntax.specs.Tree.{Tree}
use Rattle.csl_syntax.specs.TokenText.{IsTokenBefore}
use Rattle.csl_syntax.specs.Tokens.{Writes, BeginsWithToken, HasTokens, no_more, skip, take_token}
use Rattle.csl_syntax.specs.Grammar.{Limits, Spells, BeginsWithin, IsSpelled}
use Rattle.csl_syntax.specs.FormulaText.{line_limits, FormulaSays}
use Rattle.csl_syntax.specs.FormulaFault.{HasNoToken, HasFaultyNumber, FailsBy, LineFailsAt, FormulaFaultAt}
use Rattle.csl_syntax.specs.Laws.{OneFormula, OneFormulaFault, FormulaHasNoFault}
use Rattle.csl_syntax.proofs.Runs.{same_first, same_rest, nothing_first}
use Rattle.csl_syntax.proofs.OneToken.{one_text, one_token, not_blank, not_empty, no_number}
use Rattle.csl_syntax.proofs.Endings.{one_formula}
use Rattle.csl_syntax.proofs.TokenFaults.{TokenFails, not_passing, one_failure}

append_nil : {A : Type 0} (s : List A) → s ++ [] ≡ s
append_nil [] = refl
append_nil (t ∷ s) = ap (λ v. t ∷ v) (append_nil s)

module _ (labels : List (List ℕ)) where
  pub has-append : {s a b : List ℕ} {ts us : List Token} → HasTokens labels s ts a → HasTokens labels a us b
      → HasTokens labels s (ts ++ us) b
  has-append no_more y = y
  has-append (skip e h x) y = skip e h (has-append x y)
  has-append (take_token h x) y = take_token h (has-append x y)

  -- one token more
  pub has-token : {s a b : List ℕ} {ts : List Token} {t : Token} → HasTokens labels s ts a → BeginsWithToken labels a t b
      → HasTokens labels s (ts ++ t ∷ []) b
  has-token x h = has-append x (take_token h no_more)

  -- one blank more
  pub has-blank : {s a m : List ℕ} {b : ℕ} {ts : List Token} → HasTokens labels s ts a → a ≡ b ∷ m → is_blank b ≡ true
      → HasTokens labels s ts m
  has-blank {s} {a} {m} {b} {ts} x e h = subst (λ v. HasTokens labels s v m) (append_nil ts) (has-append x (skip e h no_more))

  -- where no bytes are left there are no more tokens
  at_end : {s b : List ℕ} {ts : List Token} → HasTokens labels s ts b → s ≡ [] → (ts ≡ []) × (s ≡ b)
  at_end no_more e = (refl, refl)
  at_end (skip {more = m} {b = b} h k x) e = absurd (nothing_first b m (sym e ∙ h))
  at_end (take_token {bytes = s} {more = m} h x) e = absurd (not_empty s h.text m h.longest e)

  -- one list of tokens goes on with the other
  abbrev Meets : List Token → List ℕ → List Token → List ℕ → Type 0
  Meets ts a us b =
      ((more : List Token) × (us ≡ ts ++ more) × HasTokens labels a more b)
      ⊎ ((more : List Token) × (ts ≡ us ++ more) × HasTokens labels b more a)

  meets_with : (t u : Token) (ts us : List Token) (a b : List ℕ) → t ≡ u → Meets ts a us b → Meets (t ∷ ts) a (u ∷ us) b
  meets_with t u ts us a b e (inl (more, h, x)) = inl (more, ap (λ v. v ∷ us) (sym e) ∙ ap (λ v. t ∷ v) h, x)
  meets_with t u ts us a b e (inr (more, h, x)) = inr (more, ap (λ v. v ∷ ts) e ∙ ap (λ v. u ∷ v) h, x)

  pub meets : {s a b : List ℕ} {ts us : List Token} → HasTokens labels s ts a → HasTokens labels s us b → Meets ts a us b
  meets {us = us} no_more y = inl (us, refl, y)
  meets {ts = ts} x no_more = inr (ts, refl, x)
  meets {b = r} {us = us} (skip {more = m} {b = b} e h x) (skip {more = k} {b = c} f g y) =
      meets x (subst (λ v. HasTokens labels v us r) (sym (same_rest b c m k (sym e ∙ f))) y)
  meets {s = s} (skip {more = m} {b = b} e h x) (take_token {more = k} g y) = absurd (not_blank s g.text k b m g.longest e h)
  meets {s = s} (take_token {more = k} g x) (skip {more = m} {b = b} e h y) = absurd (not_blank s g.text k b m g.longest e h)
  meets {s = s} {a = a} {b = r} (take_token {more = m} {t = t} {ts = ts} h x) (take_token {more = k} {t = u} {ts = us} g y) =
      let e = one_token labels s t u m k h g in
      meets_with t u ts us a r e.0 (meets x (subst (λ v. HasTokens labels v us r) (sym e.1) y))

  -- a front of what some formula begins with
  front_begins : (limits : Limits) (s r : List Token) → BeginsWithin limits (s ++ r) → BeginsWithin limits s
  front_begins limits s r (rest, f, x) = (r ++ rest, f, subst (λ v. Spells limits v f) (append_assoc s r rest) x)

  -- where a line fails
  abbrev Place : List Token → List ℕ → FormulaWhat → Type 0
  Place ts r v =
      (HasNoToken r × (v ≡ what.Token))
      ⊎ ((HasFaultyNumber r × (v ≡ what.Number))
      ⊎ (((r ≡ []) × (¬ IsSpelled ts) × (v ≡ what.Expected))
      ⊎ ((t : Token) × (more : List ℕ) × BeginsWithToken labels r t more × TokenFails (length labels) ts t v)))

  expected_place : (ts : List Token) (r : List ℕ) → FailsBy labels ts r what.Expected → Place ts r what.Expected
  expected_place ts r (inl h) = inr (inr (inr (h.token, h.more, h.next, h.unexpected)))
  expected_place ts r (inr h) = inr (inr (inl (h.none_left, h.unfinished, refl)))

  place : (ts : List Token) (r : List ℕ) (v : FormulaWhat) → FailsBy labels ts r v → Place ts r v
  place ts r what.Token h = inl (h, refl)
  place ts r what.Number h = inr (inl (h, refl))
  place ts r what.Expected h = expected_place ts r h
  place ts r what.UnknownLabel h = inr (inr (inr (Name h.place, h.more, h.next, (h.place, refl, h.expected, h.unknown))))
  place ts r what.Threshold h =
      inr (inr (inr (Number h.value, h.more, h.next, (h.op, h.earlier, h.value, h.after_op, refl, h.expected, h.great))))
  place ts r what.Depth h = inr (inr (inr (h.token, h.more, h.next, (h.encloses, h.expected, h.deep))))
  place ts r what.Length h = absurd h

  number_token : (r : List ℕ) (t : Token) (m : List ℕ) → HasFaultyNumber r → BeginsWithToken labels r t m → ⊥
  number_token r t m h g =
      let e = one_text r g.text h.text m h.more g.longest h.longest in
      no_number labels h.text t h.fault h.number h.has (subst (λ v. Writes labels v t) e.0 g.writes)

  no_token : (r : List ℕ) (w a : List ℕ) → HasNoToken r → IsTokenBefore r w a → ⊥
  no_token r w a h g = h.none w a g.stands g.fits

  no_token_end : (r : List ℕ) → HasNoToken r → r ≡ [] → ⊥
  no_token_end r h e = nothing_first h.first h.others (sym e ∙ h.stands)

  -- no token that passes stands where the line fails
  fails_token : (ts : List Token) (r : List ℕ) (v : FormulaWhat) (t : Token) (m : List ℕ) → BeginsWithin (line_limits labels) ts
      → Place ts r v → BeginsWithToken labels r t m →
      ¬ BeginsWithin (line_limits labels) (ts ++ t ∷ [])
  fails_token ts r v t m p (inl (h, e)) g b = no_token r g.text m h g.longest
  fails_token ts r v t m p (inr (inl (h, e))) g b = number_token r t m h g
  fails_token ts r v t m p (inr (inr (inl (h, n, e)))) g b = not_empty r g.text m g.longest h
  fails_token ts r v t m p (inr (inr (inr (u, k, h, f)))) g b =
      let e = one_token labels r t u m k g h in
      not_passing (length labels) ts u v p f (subst (λ x. BeginsWithin (line_limits labels) (ts ++ x ∷ [])) e.0 b)

  -- no blank stands where the line fails
  fails_blank : (ts : List Token) (r : List ℕ) (v : FormulaWhat) (b : ℕ) (m : List ℕ) → Place ts r v → r ≡ b ∷ m → is_blank b ≡ true → ⊥
  fails_blank ts r v b m (inl (h, e)) f k = h.not_blank (ap is_blank (same_first h.first b h.others m (sym h.stands ∙ f)) ∙ k)
  fails_blank ts r v b m (inr (inl (h, e))) f k = not_blank r h.text h.more b m h.longest f k
  fails_blank ts r v b m (inr (inr (inl (h, n, e)))) f k = nothing_first b m (sym h ∙ f)
  fails_blank ts r v b m (inr (inr (inr (u, a, h, g)))) f k = not_blank r h.text a b m h.longest f k

  -- the tokens that pass don't go on where the line fails
  stays : (ts : List Token) (r b : List ℕ) (v : FormulaWhat) {more : List Token} → BeginsWithin (line_limits labels) ts → Place ts r v
      → HasTokens labels r more b →
      BeginsWithin (line_limits labels) (ts ++ more) → (more ≡ []) × (r ≡ b)
  stays ts r b v p f no_more q = (refl, refl)
  stays ts r b v p f (skip {more = m} {b = c} e h x) q = absurd (fails_blank ts r v c m f e h)
  stays ts r b v p f (take_token {more = m} {t = t} {ts = us} h x) q =
      absurd (fails_token ts r v t m p f h
      (front_begins (line_limits labels) (ts ++ t ∷ []) us
      (subst (BeginsWithin (line_limits labels)) (sym (append_assoc ts (t ∷ []) us)) q)))

  one_place : (ts : List Token) (r : List ℕ) (v w : FormulaWhat) → Place ts r v → Place ts r w → v ≡ w
  one_place ts r v w (inl (h, e)) (inl (g, f)) = e ∙ sym f
  one_place ts r v w (inl (h, e)) (inr (inl (g, f))) = absurd (no_token r g.text g.more h g.longest)
  one_place ts r v w (inl (h, e)) (inr (inr (inl (g, n, f)))) = absurd (no_token_end r h g)
  one_place ts r v w (inl (h, e)) (inr (inr (inr (u, a, g, f)))) = absurd (no_token r g.text a h g.longest)
  one_place ts r v w (inr (inl (h, e))) (inl (g, f)) = absurd (no_token r h.text h.more g h.longest)
  one_place ts r v w (inr (inl (h, e))) (inr (inl (g, f))) = e ∙ sym f
  one_place ts r v w (inr (inl (h, e))) (inr (inr (inl (g, n, f)))) = absurd (not_empty r h.text h.more h.longest g)
  one_place ts r v w (inr (inl (h, e))) (inr (inr (inr (u, a, g, f)))) = absurd (number_token r u a h g)
  one_place ts r v w (inr (inr (inl (h, n, e)))) (inl (g, f)) = absurd (no_token_end r g h)
  one_place ts r v w (inr (inr (inl (h, n, e)))) (inr (inl (g, f))) = absurd (not_empty r g.text g.more g.longest h)
  one_place ts r v w (inr (inr (inl (h, n, e)))) (inr (inr (inl (g, m, f)))) = e ∙ sym f
  one_place ts r v w (inr (inr (inl (h, n, e)))) (inr (inr (inr (u, a, g, f)))) = absurd (not_empty r g.text a g.longest h)
  one_place ts r v w (inr (inr (inr (t, a, h, e)))) (inl (g, f)) = absurd (no_token r h.text a g h.longest)
  one_place ts r v w (inr (inr (inr (t, a, h, e)))) (inr (inl (g, f))) = absurd (number_token r t a g h)
  one_place ts r v w (inr (inr (inr (t, a, h, e)))) (inr (inr (inl (g, n, f)))) = absurd (not_empty r h.text a h.longest g)
  one_place ts r v w (inr (inr (inr (t, a, h, e)))) (inr (inr (inr (u, k, g, f)))) =
      let same = one_token labels r t u a k h g in
      one_failure (length labels) ts u v w (subst (λ x. TokenFails (length labels) ts x v) same.0 e) f

  places : (line : List ℕ) (k l : ℕ) (v w : FormulaWhat) (f : LineFailsAt line labels k v) (g : LineFailsAt line labels l w)
      → f.rest ≡ g.rest → f.before ≡ g.before →
      (k ≡ l) × (v ≡ w)
  places line k l v w f g e h =
      let same : length f.rest ≡ length g.rest = ap length e in (
        omega (arith, f.here, g.here, same),
        one_place g.before g.rest v w (subst (λ x. Place x g.rest v) h
            (subst (λ x. Place f.before x v) e (place f.before f.rest v f.fails))) (place g.before g.rest w g.fails),
      )

  one_failure_of : (line : List ℕ) (k l : ℕ) (v w : FormulaWhat) (f : LineFailsAt line labels k v) (g : LineFailsAt line labels l w)
      → Meets f.before f.rest g.before g.rest →
      (k ≡ l) × (v ≡ w)
  one_failure_of line k l v w f g (inl (more, e, x)) =
      let i =
      stays f.before f.rest g.rest v f.pass (place f.before f.rest v f.fails) x (subst (BeginsWithin (line_limits labels)) e g.pass)
      in
      places line k l v w f g i.1 (sym (e ∙ ap (λ x. f.before ++ x) i.0 ∙ append_nil f.before))
  one_failure_of line k l v w f g (inr (more, e, x)) =
      let i =
      stays g.before g.rest f.rest w g.pass (place g.before g.rest w g.fails) x (subst (BeginsWithin (line_limits labels)) e f.pass)
      in
      places line k l v w f g (sym i.1) (e ∙ ap (λ x. g.before ++ x) i.0 ∙ append_nil g.before)

  one_line_failure : (line : List ℕ) (k l : ℕ) (v w : FormulaWhat) → LineFailsAt line labels k v → LineFailsAt line labels l w
      → (k ≡ l) × (v ≡ w)
  one_line_failure line k l v w f g = one_failure_of line k l v w f g (meets f.has g.has)

  says_place : (line : List ℕ) (f : Tree) (h : FormulaSays line labels f) (r : List ℕ) (v : FormulaWhat) → r ≡ [] → Place h.tokens r v → ⊥
  says_place line f h r v e (inl (g, k)) = no_token_end r g e
  says_place line f h r v e (inr (inl (g, k))) = not_empty r g.text g.more g.longest e
  says_place line f h r v e (inr (inr (inl (g, n, k)))) = n (line_limits labels, f, h.spells)
  says_place line f h r v e (inr (inr (inr (t, a, g, k)))) = not_empty r g.text a g.longest e

  spelled_begins : (f : Tree) (ts : List Token) → Spells (line_limits labels) ts f → BeginsWithin (line_limits labels) ts
  spelled_begins f ts x = ([], f, subst (λ v. Spells (line_limits labels) v f) (sym (append_nil ts)) x)

  says_or_fails : (line : List ℕ) (f : Tree) (k : ℕ) (v : FormulaWhat) (h : FormulaSays line labels f) (g : LineFailsAt line labels k v)
      → Meets h.tokens [] g.before g.rest → ⊥
  says_or_fails line f k v h g (inl (more, e, x)) =
      let i = at_end x refl in
      says_place line f h g.rest v (sym i.1)
      (subst (λ u. Place u g.rest v) (e ∙ ap (λ u. h.tokens ++ u) i.0 ∙ append_nil h.tokens) (place g.before g.rest v g.fails))
  says_or_fails line f k v h g (inr (more, e, x)) =
      let i =
      stays g.before g.rest [] v g.pass (place g.before g.rest v g.fails) x
      (subst (BeginsWithin (line_limits labels)) e (spelled_begins f h.tokens h.spells)) in
      says_place line f h g.rest v i.1
      (subst (λ u. Place u g.rest v) (sym (e ∙ ap (λ u. g.before ++ u) i.0 ∙ append_nil g.before)) (place g.before g.rest v g.fails))

  says_not_fails : (line : List ℕ) (f : Tree) (k : ℕ) (v : FormulaWhat) → FormulaSays line labels f → LineFailsAt line labels k v → ⊥
  says_not_fails line f k v h g = says_or_fails line f k v h g (meets h.has g.has)

  same_tokens : {ts us : List Token} → Meets ts [] us [] → ts ≡ us
  same_tokens {ts} {us} (inl (more, e, x)) = sym (e ∙ ap (λ v. ts ++ v) (at_end x refl).0 ∙ append_nil ts)
  same_tokens {ts} {us} (inr (more, e, x)) = e ∙ ap (λ v. us ++ v) (at_end x refl).0 ∙ append_nil us

  one_formula_of : (line : List ℕ) (f g : Tree) → FormulaSays line labels f → FormulaSays line labels g → f ≡ g
  one_formula_of line f g h k =
      let same : h.tokens ≡ k.tokens = same_tokens (meets h.has k.has) in
      one_formula (length labels) 1 k.tokens (subst (λ v. Spells (line_limits labels) v f) same h.spells) k.spells

pub formula_is_one : OneFormula
formula_is_one line labels f g h k = one_formula_of labels line f g h k

too_long : (line : List ℕ) → MOST_BYTES < length line → length line ≤ MOST_BYTES → ⊥
too_long line h k = omega (arith, h, k)

-- a fault is that of the length, or of a token
abbrev Faulty : List ℕ → List (List ℕ) → ℕ → FormulaWhat → Type 0
Faulty line labels k v = ((MOST_BYTES < length line) × (k ≡ MOST_BYTES + 1) × (v ≡ what.Length)) ⊎ LineFailsAt line labels k v

faulty : (line : List ℕ) (labels : List (List ℕ)) (k : ℕ) (v : FormulaWhat) → FormulaFaultAt line labels k v → Faulty line labels k v
faulty line labels k what.Length h = inl (h.0, h.1, refl)
faulty line labels k what.Token h = inr h
faulty line labels k what.Number h = inr h
faulty line labels k what.Expected h = inr h
faulty line labels k what.UnknownLabel h = inr h
faulty line labels k what.Threshold h = inr h
faulty line labels k what.Depth h = inr h

one_fault : (line : List ℕ) (labels : List (List ℕ)) (k l : ℕ) (v w : FormulaWhat) → Faulty line labels k v → Faulty line labels l w
    → (k ≡ l) × (v ≡ w)
one_fault line labels k l v w (inl (h, a, b)) (inl (g, c, d)) = (a ∙ sym c, b ∙ sym d)
one_fault line labels k l v w (inl (h, a, b)) (inr g) = absurd (too_long line h g.short)
one_fault line labels k l v w (inr h) (inl (g, c, d)) = absurd (too_long line g h.short)
one_fault line labels k l v w (inr h) (inr g) = one_line_failure labels line k l v w h g

pub fault_is_one : OneFormulaFault
fault_is_one line labels k l v w h g = one_fault line labels k l v w (faulty line labels k v h) (faulty line labels l w g)

not_both : (line : List ℕ) (labels : List (List ℕ)) (f : Tree) (k : ℕ) (v : FormulaWhat) → FormulaSays line labels f
    → Faulty line labels k v → ⊥
not_both line labels f k v h (inl (g, a, b)) = too_long line g h.short
not_both line labels f k v h (inr g) = says_not_fails labels line f k v h g

pub formula_has_no_fault : FormulaHasNoFault
formula_has_no_fault line labels f k v h g = not_both line labels f k v h (faulty line labels k v g)
