-- What the grammar derives, the machine reads.
use Rattle.std.proofs.Common.{◌≡◌, ℕ, suc, ◌≤◌, ◌*◌, ◌^◌, List, [], ◌∷◌, Option, Some, None, refl, ◌∙◌, ap, arith}
use Rattle.std.proofs.lemmas.Bool.{lt-ltb, le-leb}
use Rattle.std.proofs.Math.Nat.{mul-le-mul_right, le_trans}
use Rattle.decimal_text.specs.DecimalNumber.{DecimalNumber}
use Rattle.csl_syntax.specs.declared.token.Token.{Token}
use Rattle.csl_syntax.specs.declared.token.Token.TheVariants.{CloseBrace, OpenBracket, CloseBracket, Comma, Tilde, NextWord, Number}
use Rattle.csl_syntax.specs.declared.formula.Op.{Op}
use Rattle.csl_syntax.specs.declared.formula.Bound.{Bound}
use Rattle.csl_syntax.specs.declared.formula.Bound.TheVariants.{Unbounded}
use Rattle.csl_syntax.specs.Tree.{Tree, disjunction, next, until, IsUpTo}
use Rattle.csl_syntax.specs.Grammar.{Level, formula, conj, unary, atom, Derives, a_truth, a_falsehood, a_name, in_parens, a_not, an_atom}
use Rattle.csl_syntax.specs.Grammar.{an_and, a_unary, an_or, a_conj, a_next, an_until, operator, IsBound, no_bound, any_time, in_time}
use Rattle.csl_syntax.specs.Grammar.{in_reward}
use Rattle.csl_syntax.specs.Machine.{Layer, parens, of_next, until_left, until_right, p_path, u_start, u_comma, u_again, v_comma, layer}
use Rattle.csl_syntax.specs.Machine.{more, named, judged, zero_then, want, have, start, negated, back, with_both, with_either, run, whole}

module _ (N T : ℕ) where
  -- How the machine stands after the tokens of a level.
  abbrev Read : ℕ → Level → Tree → List Token → List Token → Type 0
  Read d atom f s r =
      (ls : List Layer) (o a : Option Tree) (n : ℕ) → run N T (want d ls o a n) s ≡ run N T (have (back n d) ls o a (negated n f)) r
  Read d unary f s r =
      (ls : List Layer) (o a : Option Tree) (n : ℕ) → run N T (want d ls o a n) s ≡ run N T (have (back n d) ls o a (negated n f)) r
  Read d conj f s r =
      (ls : List Layer) (o : Option Tree) → (a : Option Tree) × (h : Tree) × (with_both a h ≡ f)
      × (run N T (want d ls o None 0) s ≡ run N T (have d ls o a h) r)
  Read d formula f s r =
      (ls : List Layer) → (o : Option Tree) × (a : Option Tree) × (h : Tree) × (with_either o (with_both a h) ≡ f)
      × (run N T (want d ls None None 0) s ≡ run N T (have d ls o a h) r)

  -- A formula's first token begins it in each place where one may come.
  abbrev First : List Token → Type 0
  First s = (d : ℕ) (ls : List Layer) (o a : Option Tree) (n : ℕ) (op : Op) (q : DecimalNumber) (f : Tree) →
      (run N T (more (p_path op q) d ls o a n) s ≡ run N T (want d (layer (until_left op q) o a n ∷ ls) None None 0) s)
      × (run N T (more (u_start op q f) d ls o a n) s ≡ run N T (want d (layer (until_right op q f Unbounded) o a n ∷ ls) None None 0) s)
      × (run N T (more (u_again op q f) d ls o a n) s ≡ run N T (want d (layer (until_right op q f Unbounded) o a n ∷ ls) None None 0) s)

  first : {d : ℕ} {lv : Level} {f : Tree} {s r : List Token} → Derives N T d lv f s r → First s
  first a_truth = λ d ls o a n op q f. (refl, refl, refl)
  first a_falsehood = λ d ls o a n op q f. (refl, refl, refl)
  first (a_name h) = λ d ls o a n op q f. (refl, refl, refl)
  first (in_parens x) = λ d ls o a n op q f. (refl, refl, refl)
  first (a_next h x) = λ d ls o a n op q f. (refl, refl, refl)
  first (an_until h x b y) = λ d ls o a n op q f. (refl, refl, refl)
  first (a_not x) = λ d ls o a n op q f. (refl, refl, refl)
  first (an_atom x) = first x
  first (an_and x y) = first x
  first (a_unary x) = first x
  first (an_or x y) = first x
  first (a_conj x) = first x

  bounds : {b : Bound} {m k : List Token} → IsBound b m k → First k
      → (d : ℕ) (ls : List Layer) (o a : Option Tree) (n : ℕ) (op : Op) (q : DecimalNumber) (f : Tree) →
      run N T (more (u_start op q f) d ls o a n) m ≡ run N T (want d (layer (until_right op q f b) o a n ∷ ls) None None 0) k
  bounds no_bound x = λ d ls o a n op q f. (x d ls o a n op q f).1
  bounds (any_time {z} {r} e) x = λ d ls o a n op q f.
      ap (λ v. run N T (zero_then v (u_comma op q f) d ls o a n) (Comma ∷ Tilde ∷ CloseBracket ∷ r)) e ∙ (x d ls o a n op q f).2
  bounds (in_time {z} {t} {r} e) x = λ d ls o a n op q f.
      ap (λ v. run N T (zero_then v (u_comma op q f) d ls o a n) (Comma ∷ Number t ∷ CloseBracket ∷ r)) e
  bounds (in_reward {z} {y} {t} {r} e e2) x = λ d ls o a n op q f.
      ap (λ v. run N T (zero_then v (u_comma op q f) d ls o a n)
      (Comma ∷ Tilde ∷ CloseBracket ∷ OpenBracket ∷ Number y ∷ Comma ∷ Number t ∷ CloseBracket ∷ r)) e
      ∙ ap (λ v. run N T (zero_then v (v_comma op q f) d ls o a n) (Comma ∷ Number t ∷ CloseBracket ∷ r)) e2

  judged_so : (q : DecimalNumber) → IsUpTo T q → (op : Op) (d : ℕ) (ls : List Layer) (o a : Option Tree) (n : ℕ) (s : List Token) →
      run N T (want (suc d) ls o a n) (operator op q s) ≡ run N T (more (p_path op q) d ls o a n) s
  judged_so q h op d ls o a n s =
      ap (λ b. run N T (judged b op q d ls o a n) (CloseBrace ∷ OpenBracket ∷ s)) (le-leb q.c (T * 10 ^ q.x) h)

  pub reads : {d : ℕ} {lv : Level} {f : Tree} {s r : List Token} → Derives N T d lv f s r → Read d lv f s r
  reads a_truth = λ ls o a n. refl
  reads a_falsehood = λ ls o a n. refl
  reads (a_name {d} {j} {r} h) = λ ls o a n. ap (λ b. run N T (named b d ls o a n j) r) (lt-ltb j N h)
  reads (in_parens {d} {f} {s} {r} x) = λ ls o a n.
      let e = reads x (layer parens o a n ∷ ls) in
      e.4 ∙ ap (λ g. run N T (have (back n (suc d)) ls o a (negated n g)) r) e.3
  reads (a_next {d} {q} {op} {f} {s} {r} h x) = λ ls o a n.
      let e = reads x (layer (of_next op q) o a n ∷ ls) in
      judged_so q h op d ls o a n (NextWord ∷ s) ∙ e.4 ∙ ap (λ g. run N T (have (back n (suc d)) ls o a (negated n (next op q g))) r) e.3
  reads (an_until {d} {q} {op} {f} {g} {b} {s} {m} {k} {r} h x w y) = λ ls o a n.
      let e = reads x (layer (until_left op q) o a n ∷ ls) in
      let e2 = reads y (layer (until_right op q f b) o a n ∷ ls) in
      judged_so q h op d ls o a n s ∙ (first x d ls o a n op q f).0 ∙ e.4
      ∙ ap (λ v. run N T (more (u_start op q v) d ls o a n) m) e.3
      ∙ bounds w (first y) d ls o a n op q f
      ∙ e2.4 ∙ ap (λ v. run N T (have (back n (suc d)) ls o a (negated n (until op q f b v))) r) e2.3
  reads (a_not x) = λ ls o a n. reads x ls o a (suc n)
  reads (an_atom x) = reads x
  reads (an_and {d} {f} {g} {s} {m} {r} x y) = λ ls o.
      let e = reads x ls o in
      (Some f, g, refl, e.3 ∙ ap (λ v. run N T (want d ls o (Some v) 0) m) e.2 ∙ reads y ls o (Some f) 0)
  reads (a_unary {d} {f} x) = λ ls o. (None, f, refl, reads x ls o None 0)
  reads (an_or {d} {f} {g} {s} {m} {r} x y) = λ ls.
      let e = reads x ls in
      let e2 = reads y ls (Some f) in
      (Some f, e2.0, e2.1, ap (λ v. disjunction f v) e2.2, e.4 ∙ ap (λ v. run N T (want d ls (Some v) None 0) m) e.3 ∙ e2.3)
  reads (a_conj {d} {f} x) = λ ls.
      let e = reads x ls None in
      (None, e.0, e.1, e.2, e.3)

  pub spelled_is_read : {d : ℕ} {f : Tree} {s : List Token} → Derives N T d formula f s [] → whole (run N T (start d) s) ≡ Some f
  spelled_is_read x =
      let e = reads x [] in
      ap whole e.4 ∙ ap Some e.3

-- Wider limits do no harm.
module _ {N T M U : ℕ} (labels : N ≤ M) (threshold : T ≤ U) where
  under : (q : DecimalNumber) → IsUpTo T q → IsUpTo U q
  under q h = le_trans h (mul-le-mul_right (10 ^ q.x) threshold)

  pub roomier : {d : ℕ} {lv : Level} {f : Tree} {s r : List Token} → Derives N T d lv f s r → Derives M U (suc d) lv f s r
  roomier a_truth = a_truth
  roomier a_falsehood = a_falsehood
  roomier (a_name h) = a_name (omega (arith, h, labels))
  roomier (in_parens x) = in_parens (roomier x)
  roomier (a_next {d} {q} h x) = a_next (under q h) (roomier x)
  roomier (an_until {d} {q} h x w y) = an_until (under q h) (roomier x) w (roomier y)
  roomier (a_not x) = a_not (roomier x)
  roomier (an_atom x) = an_atom (roomier x)
  roomier (an_and x y) = an_and (roomier x) (roomier y)
  roomier (a_unary x) = a_unary (roomier x)
  roomier (an_or x y) = an_or (roomier x) (roomier y)
  roomier (a_conj x) = a_conj (roomier x)
