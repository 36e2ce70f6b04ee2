-- What stands at a place of a list that is written state by state.
use Rattle.std.proofs.Common.{◌≡◌, ◌≢◌, ℕ, zero, suc, ◌+◌, ◌<◌, ◌≤◌, Bool, List, ◌∷◌, length, map, get_or, Some, None, IsSomeAnd, refl, sym, ap, subst, subst₂, ◌∙◌, arith}
use Rattle.std.specs.List.{AllZip, range_with_len, slice_get}
use Rattle.std.proofs.Math.Decide.{dec_le}
use Rattle.std.proofs.lemmas.List.{get_or-map, length-map}
use Rattle.std.proofs.lemmas.List.FromFn.{get_or-map-range_with_len, length-map-range_with_len}
use Rattle.std.proofs.lemmas.Option.{slice_get-get_or, slice_get_past}
use Rattle.ctmc_semantics.specs.Fraction.{Fraction}
use Rattle.ctmc_semantics.specs.Threshold.{Comparison}
use Rattle.ctmc_semantics.specs.WordBracket.{WordBracket}
use Rattle.report.specs.declared.answer.Printed.{Printed}
use Rattle.report.specs.declared.answer.Verdict.{Verdict}
use Rattle.report.specs.declared.answer.Verdict.TheVariants.{Undecided}
use Rattle.nested_verdict.specs.EarlyEnd.{AreDecided}
use Rattle.nested_verdict.specs.ExactAnswer.{IsSo, AreExactAt}
use Rattle.nested_verdict.specs.UntilAnswer.{first_answers}
use Rattle.nested_verdict.specs.declared.state_answer.StateAnswer.{StateAnswer}

none_not_some : {X : Type 0} (x : X) → None ≡ Some x → ⊥
none_not_some x e = cc

some_same : {X : Type 0} (x y : X) → Some x ≡ Some y → x ≡ y
some_same x y e = cc

module _ {X : Type 0} (f : ℕ → X) (n : ℕ) where
  pub place_here : (s : ℕ) → s < n → slice_get (map f (range_with_len 0 n)) s ≡ Some (f s)
  place_here s l =
      slice_get-get_or (map f (range_with_len 0 n)) s (f s) (omega (arith, l, length-map-range_with_len f 0 n))
      ∙ ap Some (get_or-map-range_with_len f 0 n s s (f s) l (omega arith))

  -- a part of what stands there
  module _ {Y : Type 0} (part : X → Y) where
    pub parts_counted : length (map part (map f (range_with_len 0 n))) ≡ n
    parts_counted = length-map (map f (range_with_len 0 n)) part ∙ length-map-range_with_len f 0 n

    pub part_read : (s : ℕ) (d : Y) → s < n → get_or (map part (map f (range_with_len 0 n))) s d ≡ part (f s)
    part_read s d l =
        get_or-map part (map f (range_with_len 0 n)) s (f s) d (omega (arith, l, length-map-range_with_len f 0 n))
        ∙ ap part (get_or-map-range_with_len f 0 n s s (f s) l (omega arith))

    pub part_here : (s : ℕ) → s < n → slice_get (map part (map f (range_with_len 0 n))) s ≡ Some (part (f s))
    part_here s l =
        slice_get-get_or (map part (map f (range_with_len 0 n))) s (part (f s)) (omega (arith, l, parts_counted))
        ∙ ap Some (part_read s (part (f s)) l)

    -- what is found stands at a state
    pub part_found : (s : ℕ) (y : Y) → slice_get (map part (map f (range_with_len 0 n))) s ≡ Some y → (s < n) × (y ≡ part (f s))
    part_found s y e =
        elim (dec_le (suc s) n) [
          | yes l ↦ (l, some_same y (part (f s)) (sym e ∙ part_here s l))
          | no g ↦ absurd (none_not_some y
              (sym (slice_get_past (map part (map f (range_with_len 0 n))) s (omega (arith, g, parts_counted))) ∙ e))
        ]

-- ---- two lists that are written state by state
module _ {X Y : Type 0} (part : X → Y) (f g : ℕ → X) where
  -- what is so of the parts at each place is so of the lists of parts
  pub zipped : (R : Y → Y → Type 0) (a n : ℕ) → ((s : ℕ) → a ≤ s → s < a + n → R (part (f s)) (part (g s)))
      → AllZip R (map part (map f (range_with_len a n))) (map part (map g (range_with_len a n)))
  zipped R a zero h = tt
  zipped R a (suc n) h =
      (h a (omega arith) (omega arith), zipped R (a + 1) n (λ s l m. h s (omega (arith, l)) (omega (arith, m))))

  pub same_parts : (a n : ℕ) → ((s : ℕ) → a ≤ s → s < a + n → part (f s) ≡ part (g s))
      → map part (map f (range_with_len a n)) ≡ map part (map g (range_with_len a n))
  same_parts a zero h = refl
  same_parts a (suc n) h =
      ap (λ y. y ∷ map part (map f (range_with_len (a + 1) n))) (h a (omega arith) (omega arith))
      ∙ ap (λ ys. part (g a) ∷ ys) (same_parts (a + 1) n (λ s l m. h s (omega (arith, l)) (omega (arith, m))))

-- ---- the verdict of each state, and its bracket
abbrev pub verdict_part : StateAnswer → Verdict
verdict_part a = a.verdict

abbrev pub bracket_part : StateAnswer → Printed
bracket_part a = a.bracket

-- by the words of each of n states
abbrev pub verdicts_by : (ℕ → WordBracket) → Comparison → Fraction → ℕ → List Verdict
verdicts_by words by q n = map verdict_part (first_answers words by q n)

module _ (f : ℕ → StateAnswer) (n : ℕ) where
  abbrev pub answers : List StateAnswer
  answers = map f (range_with_len 0 n)

  pub exact_at : (IsExact : ℕ → StateAnswer → Type 0) → ((s : ℕ) → s < n → IsExact s (f s))
      → AreExactAt n IsExact (map verdict_part answers) (map bracket_part answers)
  exact_at IsExact exact = record {
    each_verdict = parts_counted f n verdict_part;
    each_bracket = parts_counted f n bracket_part;
    exact = λ s verdict bracket e g.
        let first = part_found f n verdict_part s verdict e in
        subst₂ (λ v b. IsExact s (record { verdict = v; bracket = b })) (sym first.1)
        (sym (part_found f n bracket_part s bracket g).1) (exact s first.0);
  }

  -- none is left undecided where none of the list is, and the other way round
  pub decided_here : AreDecided (map verdict_part answers) → (s : ℕ) → s < n → (f s).verdict ≢ Undecided
  decided_here decided s l =
      subst (λ v. v ≢ Undecided) (part_read f n verdict_part s Undecided l)
      (decided s Undecided (omega (arith, l, parts_counted f n verdict_part)))

  pub decided_all : ((s : ℕ) → s < n → (f s).verdict ≢ Undecided) → AreDecided (map verdict_part answers)
  decided_all decided = λ s d l.
      let inside : s < n = omega (arith, l, parts_counted f n verdict_part) in
      subst (λ v. v ≢ Undecided) (sym (part_read f n verdict_part s d inside)) (decided s inside)

  pub so_at : (holds : ℕ → Bool) → ((s : ℕ) → s < n → IsSo (holds s) (f s).verdict)
      → (s : ℕ) → s < n → IsSomeAnd (slice_get (map verdict_part answers) s) (IsSo (holds s))
  so_at holds so s l = subst (λ o. IsSomeAnd o (IsSo (holds s))) (sym (part_here f n verdict_part s l)) (so s l)
