-- The truth values that are computed for a formula without an until stand for it.
use Rattle.std.proofs.Common.{◌≡◌, ℕ, ◌<◌, ◌↔◌, ◌⊎◌, inl, inr, Bool, true, false, not, ◌&&◌, ◌||◌, cond, max, IsTrue}
use Rattle.std.proofs.Common.{map, refl, sym, ap, subst, arith}
use Rattle.std.specs.List.{range_with_len}
use Rattle.std.proofs.lemmas.Bool.{false≢true, and_parts}
use Rattle.std.proofs.lemmas.List.FromFn.{get_or-map-range_with_len, length-map-range_with_len}
use Rattle.ctmc_semantics.specs.Chain.{Chain, exit_rate}
use Rattle.ctmc_semantics.specs.Compared.{meets_threshold}
use Rattle.ctmc_semantics.specs.Fraction.{fraction, decimal_fraction}
use Rattle.ctmc_semantics.specs.Next.{next_probability}
use Rattle.ctmc_semantics.specs.Sets.{holds_at}
use Rattle.ctmc_semantics.specs.Threshold.{MeetsThreshold}
use Rattle.ctmc_semantics.proofs.Sums.{sum_below-same}
use Rattle.ctmc_semantics.proofs.Thresholds.{test_right}
use Rattle.csl_semantics.specs.Meaning.{IsSat, HoldsExactly, NextMeets, comparison_of}
use Rattle.csl_semantics.specs.Truth.{has_no_until, truth_at, truths}
use Rattle.csl_syntax.specs.Tree.{Tree, truth, falsehood, label, negation, conjunction, disjunction, next, until}
use Rattle.model_core.specs.Model.{LabelledChain}

-- ---- what is computed at a state
not_is : (b : Bool) → IsTrue (not b) ↔ (¬ IsTrue b)
not_is true = ((λ e. absurd (false≢true e)), (λ h. absurd (h refl)))
not_is false = ((λ e h. false≢true h), (λ h. refl))

and_is : (a b : Bool) → IsTrue (a && b) ↔ (IsTrue a × IsTrue b)
and_is true b = ((λ e. (refl, e)), (λ h. h.1))
and_is false b = ((λ e. absurd (false≢true e)), (λ h. absurd (false≢true h.0)))

or_is : (a b : Bool) → IsTrue (a || b) ↔ (IsTrue a ⊎ IsTrue b)
or_is true b = ((λ e. inl refl), (λ h. refl))
or_is false b = ((λ e. inr e), (elim [ inl h ↦ absurd (false≢true h) | inr h ↦ h ]))

-- the probability of a next operator depends on the states of the chain alone
next_probability-same : (c : Chain) (goal goal' : ℕ → Bool) (s : ℕ) → ((t : ℕ) → t < c.states → goal t ≡ goal' t)
    → next_probability c goal s ≡ next_probability c goal' s
next_probability-same c goal goal' s same =
    ap (λ r. fraction r (max 1 (exit_rate c s))) (sum_below-same c.states _ _ (λ t l. ap (λ b. cond b (c.rate s t) 0) (same t l)))

-- ---- the list of all states
exact_map : (n : ℕ) (value : ℕ → Bool) (P : ℕ → Type 0) → ((s : ℕ) → s < n → IsTrue (value s) ↔ P s)
    → HoldsExactly n P (map value (range_with_len 0 n))
exact_map n value P right = record {
  each = length-map-range_with_len value 0 n;
  exact = λ s l.
      subst (λ z. IsTrue z ↔ P s) (sym (get_or-map-range_with_len value 0 n s s false l (omega arith))) (right s l);
}

truths-at : (over : LabelledChain) (f : Tree) (s : ℕ) → s < over.chain.states → holds_at (truths over f) s ≡ truth_at over f s
truths-at over f s l = get_or-map-range_with_len (truth_at over f) 0 over.chain.states s s false l (omega arith)

pub truths_stand : (over : LabelledChain) (f : Tree) → IsTrue (has_no_until f) → IsSat over f (truths over f)
truths_stand over truth h = exact_map over.chain.states _ _ (λ s l. ((λ _. tt), (λ _. refl)))
truths_stand over falsehood h = exact_map over.chain.states _ _ (λ s l. ((λ e. false≢true e), (λ none. absurd none)))
truths_stand over (label j) h = exact_map over.chain.states _ _ (λ s l. ((λ e. e), (λ e. e)))
truths_stand over (negation f) h = record {
  operand = truths over f;
  stands = truths_stand over f h;
  holds = exact_map over.chain.states _ _ (λ s l. rw (truths-at over f s l) (not_is (truth_at over f s)));
}
truths_stand over (conjunction f g) h = record {
  left = truths over f;
  right = truths over g;
  stands_left = truths_stand over f (and_parts (has_no_until f) (has_no_until g) h).0;
  stands_right = truths_stand over g (and_parts (has_no_until f) (has_no_until g) h).1;
  holds = exact_map over.chain.states _ _ (λ s l.
      rw (truths-at over f s l, truths-at over g s l) (and_is (truth_at over f s) (truth_at over g s)));
}
truths_stand over (disjunction f g) h = record {
  left = truths over f;
  right = truths over g;
  stands_left = truths_stand over f (and_parts (has_no_until f) (has_no_until g) h).0;
  stands_right = truths_stand over g (and_parts (has_no_until f) (has_no_until g) h).1;
  holds = exact_map over.chain.states _ _ (λ s l.
      rw (truths-at over f s l, truths-at over g s l) (or_is (truth_at over f s) (truth_at over g s)));
}
truths_stand over (next op q f) h = record {
  operand = truths over f;
  stands = truths_stand over f h;
  holds = exact_map over.chain.states _ (NextMeets over op q (holds_at (truths over f))) (λ s l.
      subst
      (λ p. IsTrue (meets_threshold (comparison_of op) (next_probability over.chain (truth_at over f) s) (decimal_fraction q.c q.x))
      ↔ MeetsThreshold (comparison_of op) p (decimal_fraction q.c q.x))
      (sym (next_probability-same over.chain _ _ s (truths-at over f)))
      (test_right (comparison_of op) (next_probability over.chain (truth_at over f) s) (decimal_fraction q.c q.x)));
}
truths_stand over (until op q f bound g) h = absurd (false≢true h)
