-- Verdicts by the three-valued tables are so where those of the operands are.
use Rattle.std.proofs.Common.{◌≡◌, ℕ, ◌<◌, ◌⊎◌, ◌↔◌, inl, inr, Bool, true, false, not, IsTrue, List, length, map, get_or, Some, IsSomeAnd, refl, sym, ap, subst, ◌∙◌, arith}
use Rattle.std.specs.List.{slice_get, range_with_len}
use Rattle.std.proofs.lemmas.Bool.{false≢true}
use Rattle.std.proofs.lemmas.List.{get_or-map, length-map}
use Rattle.std.proofs.lemmas.List.FromFn.{length-map-range_with_len}
use Rattle.std.proofs.lemmas.Option.{slice_get-get_or}
use Rattle.ctmc_semantics.specs.Sets.{holds_at}
use Rattle.csl_syntax.specs.Tree.{Tree, negation, conjunction, disjunction}
use Rattle.model_core.specs.Model.{LabelledChain}
use Rattle.report.specs.declared.answer.Verdict.{Verdict}
use Rattle.report.specs.declared.answer.Verdict.TheVariants.{Satisfied, Refuted, Undecided}
use Rattle.nested_verdict.specs.ExactAnswer.{IsSo, AreSo}
use Rattle.nested_verdict.specs.ThreeValues.{opposite_verdict, both_verdicts, either_verdict, verdict_at, opposites, both, either}
use Rattle.nested_verdict.proofs.OperandSets.{so_here}
use Rattle.nested_verdict.proofs.Places.{place_here}

-- ---- one state
pub so_by : (holds : Bool) (verdict : Verdict) → (verdict ≡ Satisfied → IsTrue holds) → (verdict ≡ Refuted → ¬ IsTrue holds)
    → IsSo holds verdict
so_by holds Satisfied h k = h refl
so_by true Refuted h k = absurd (k refl refl)
so_by false Refuted h k = refl
so_by holds Undecided h k = tt

not_so : (holds : Bool) → IsTrue (not holds) → ¬ IsTrue holds
not_so true n h = false≢true n
not_so false n h = false≢true h

opposite_so : (x y : Bool) (v : Verdict) → IsTrue x ↔ (¬ IsTrue y) → IsSo y v → IsSo x (opposite_verdict v)
opposite_so x y Satisfied means so = so_by x Refuted (λ e. cc) (λ e h. means.0 h so)
opposite_so x y Refuted means so = means.1 (not_so y so)
opposite_so x y Undecided means so = tt

both_so : (x y z : Bool) (v w : Verdict) → IsTrue x ↔ (IsTrue y × IsTrue z) → IsSo y v → IsSo z w → IsSo x (both_verdicts v w)
both_so x y z Refuted w means so too = so_by x Refuted (λ e. cc) (λ e h. not_so y so (means.0 h).0)
both_so x y z Satisfied Satisfied means so too = means.1 (so, too)
both_so x y z Satisfied Refuted means so too = so_by x Refuted (λ e. cc) (λ e h. not_so z too (means.0 h).1)
both_so x y z Satisfied Undecided means so too = tt
both_so x y z Undecided Satisfied means so too = tt
both_so x y z Undecided Refuted means so too = so_by x Refuted (λ e. cc) (λ e h. not_so z too (means.0 h).1)
both_so x y z Undecided Undecided means so too = tt

neither : (y z : Bool) → IsTrue (not y) → IsTrue (not z) → ¬ (IsTrue y ⊎ IsTrue z)
neither y z n m (inl h) = not_so y n h
neither y z n m (inr h) = not_so z m h

either_so : (x y z : Bool) (v w : Verdict) → IsTrue x ↔ (IsTrue y ⊎ IsTrue z) → IsSo y v → IsSo z w → IsSo x (either_verdict v w)
either_so x y z Satisfied w means so too = means.1 (inl so)
either_so x y z Refuted Satisfied means so too = means.1 (inr too)
either_so x y z Refuted Refuted means so too = so_by x Refuted (λ e. cc) (λ e h. neither y z so too (means.0 h))
either_so x y z Refuted Undecided means so too = tt
either_so x y z Undecided Satisfied means so too = means.1 (inr too)
either_so x y z Undecided Refuted means so too = tt
either_so x y z Undecided Undecided means so too = tt

-- ---- all states
module _ (over : LabelledChain) (f : Tree) (vs : List Verdict) (so : AreSo over f vs) where
  pub opposites_so : AreSo over (negation f) (opposites vs)
  opposites_so = record {
    each_state = length-map vs opposite_verdict ∙ so.each_state;
    so = λ xs stands s l.
        let inside : s < length vs = omega (arith, l, so.each_state) in
        let v = get_or vs s Undecided in
        let here : slice_get (opposites vs) s ≡ Some (opposite_verdict v) =
        slice_get-get_or (opposites vs) s (opposite_verdict v) (omega (arith, inside, length-map vs opposite_verdict))
        ∙ ap Some (get_or-map opposite_verdict vs s Undecided (opposite_verdict v) inside) in
        subst (λ o. IsSomeAnd o (IsSo (holds_at xs s))) (sym here)
        (opposite_so (holds_at xs s) (holds_at stands.operand s) v (stands.holds.exact s l)
        (so_here over f vs so stands.operand stands.stands s Undecided l));
  }

  module _ (g : Tree) (ws : List Verdict) (too : AreSo over g ws) where
    abbrev verdict : (Verdict → Verdict → Verdict) → ℕ → Verdict
    verdict op s = op (verdict_at vs s) (verdict_at ws s)

    joined_here : (op : Verdict → Verdict → Verdict) (s : ℕ) → s < over.chain.states
        → slice_get (map (verdict op) (range_with_len 0 (length vs))) s ≡ Some (verdict op s)
    joined_here op s l = place_here (verdict op) (length vs) s (omega (arith, l, so.each_state))

    pub both_are_so : AreSo over (conjunction f g) (both vs ws)
    both_are_so = record {
      each_state = length-map-range_with_len (verdict both_verdicts) 0 (length vs) ∙ so.each_state;
      so = λ xs stands s l.
          subst (λ o. IsSomeAnd o (IsSo (holds_at xs s))) (sym (joined_here both_verdicts s l))
          (both_so (holds_at xs s) (holds_at stands.left s) (holds_at stands.right s) (verdict_at vs s) (verdict_at ws s)
          (stands.holds.exact s l) (so_here over f vs so stands.left stands.stands_left s Undecided l)
          (so_here over g ws too stands.right stands.stands_right s Undecided l));
    }

    pub either_are_so : AreSo over (disjunction f g) (either vs ws)
    either_are_so = record {
      each_state = length-map-range_with_len (verdict either_verdict) 0 (length vs) ∙ so.each_state;
      so = λ xs stands s l.
          subst (λ o. IsSomeAnd o (IsSo (holds_at xs s))) (sym (joined_here either_verdict s l))
          (either_so (holds_at xs s) (holds_at stands.left s) (holds_at stands.right s) (verdict_at vs s) (verdict_at ws s)
          (stands.holds.exact s l) (so_here over f vs so stands.left stands.stands_left s Undecided l)
          (so_here over g ws too stands.right stands.stands_right s Undecided l));
    }
