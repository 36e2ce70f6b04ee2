-- Lists that are true exactly where something holds.
use Rattle.std.proofs.Common.{◌≡◌, ℕ, zero, suc, ◌<◌, ◌↔◌, ◌⊎◌, inl, inr, Bool, true, false, IsTrue}
use Rattle.std.proofs.Common.{List, [], ◌∷◌, ◌++◌, refl, sym, ◌∙◌, subst, arith, length-append, ext_get_or}
use Rattle.std.proofs.Math.Decide.{dec_le}
use Rattle.std.proofs.Math.Seq.{get_or-append_seam}
use Rattle.std.proofs.lemmas.Bool.{false≢true}
use Rattle.std.proofs.lemmas.List.{get_or_append_left}
use Rattle.ctmc_semantics.specs.Sets.{holds_at}
use Rattle.csl_semantics.specs.Meaning.{HoldsExactly}

-- ---- there is one at most
same_bool : (x y : Bool) (P : Type 0) → IsTrue x ↔ P → IsTrue y ↔ P → x ≡ y
same_bool true true P a b = refl
same_bool true false P a b = sym (b.1 (a.0 refl))
same_bool false true P a b = a.1 (b.0 refl)
same_bool false false P a b = refl

pub exact_is_one : (n : ℕ) (P : ℕ → Type 0) (xs ys : List Bool) → HoldsExactly n P xs → HoldsExactly n P ys → xs ≡ ys
exact_is_one n P xs ys x y =
    ext_get_or false xs ys (x.each ∙ sym y.each)
    (λ s l.
    let inside : s < n = omega (arith, l, x.each) in
    same_bool (holds_at xs s) (holds_at ys s) (P s) (x.exact s inside) (y.exact s inside))

-- ---- it can't be that there is none
not_undecided : (P : Type 0) → ¬ (¬ (P ⊎ (¬ P)))
not_undecided P none = none (inr (λ p. none (inl p)))

-- with one more truth value
one_more : (n : ℕ) (P : ℕ → Type 0) (xs : List Bool) (b : Bool) → IsTrue b ↔ P n → HoldsExactly n P xs
    → HoldsExactly (suc n) P (xs ++ b ∷ [])
one_more n P xs b last h = record {
  each = omega (arith, length-append xs (b ∷ []), h.each);
  exact = λ s l.
      elim (dec_le (suc s) n) [
        | yes i ↦ subst (λ z. IsTrue z ↔ P s) (sym (get_or_append_left xs (b ∷ []) false s (omega (arith, i, h.each)))) (h.exact s i)
        | no g ↦ (let last_is : n ≡ s = omega (arith, g, l) in
            subst (λ t. IsTrue (holds_at (xs ++ b ∷ []) t) ↔ P t) last_is
            (subst (λ t. IsTrue (holds_at (xs ++ b ∷ []) t) ↔ P n) h.each
            (subst (λ z. IsTrue z ↔ P n) (sym (get_or-append_seam xs b [] false)) last)))
      ];
}

pub exact_not_missing : (n : ℕ) (P : ℕ → Type 0) → ¬ (¬ ((xs : List Bool) × HoldsExactly n P xs))
exact_not_missing zero P none = none ([], record { each = refl; exact = λ s l. absurd (omega (arith, l)) })
exact_not_missing (suc n) P none =
    exact_not_missing n P (λ some.
    not_undecided (P n)
    (elim [
      | inl p ↦ none (some.0 ++ true ∷ [], one_more n P some.0 true ((λ _. p), (λ _. refl)) some.1)
      | inr q ↦ none (some.0 ++ false ∷ [], one_more n P some.0 false ((λ e. absurd (false≢true e)), (λ p. absurd (q p))) some.1)
    ]))
