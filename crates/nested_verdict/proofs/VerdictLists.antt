-- Lists of verdicts, state by state.
use Rattle.std.proofs.Common.{◌≡◌, ℕ, ◌+◌, ◌<◌, ◌≤◌, inl, inr, Bool, List, ◌++◌, take, drop, length, map, replicate, get_or, set, sym, ap, ◌∙◌, arith}
use Rattle.std.proofs.lemmas.Bool.{cases_lt}
use Rattle.std.proofs.lemmas.Grind.{get_or-set_at}
use Rattle.std.specs.List.{range_with_len}
use Rattle.std.proofs.Math.Seq.{take-append_seam}
use Rattle.std.proofs.lemmas.List.{get_or-map, get_or-replicate, get_or-set_other, get_or_default, length-map, length-replicate}
use Rattle.std.proofs.lemmas.List.FromFn.{fill_by_all}
use Rattle.report.specs.Answer.{truth_verdict}
use Rattle.report.specs.declared.answer.Verdict.{Verdict}
use Rattle.report.specs.declared.answer.Verdict.TheVariants.{Undecided}
use Rattle.nested_verdict.specs.FormulaAnswer.{truth_verdicts}
use Rattle.nested_verdict.specs.ThreeValues.{opposite_verdict, opposites, verdict_at}

-- a list is that of its places' verdicts
pub listed : (f : ℕ → Verdict) (n : ℕ) (vs : List Verdict) → length vs ≡ n → ((s : ℕ) → s < n → verdict_at vs s ≡ f s)
    → vs ≡ map f (range_with_len 0 n)
listed f n vs counted values = fill_by_all f vs n Undecided counted values

pub alike : (n : ℕ) (holds : Bool) → replicate n (truth_verdict holds) ≡ truth_verdicts n (λ s. holds)
alike n holds =
    listed (λ s. truth_verdict holds) n (replicate n (truth_verdict holds)) (length-replicate n (truth_verdict holds))
    (λ s l. get_or-replicate n s (truth_verdict holds) Undecided l)

pub negated : (vs ws : List Verdict) → length ws ≡ length vs
    → ((s : ℕ) → s < length vs → verdict_at ws s ≡ opposite_verdict (verdict_at vs s)) → ws ≡ opposites vs
negated vs ws counted values =
    let each = λ (s : ℕ). opposite_verdict (verdict_at vs s) in
    listed each (length vs) ws counted values
    ∙ sym (listed each (length vs) (opposites vs) (length-map vs opposite_verdict)
    (λ s l. get_or-map opposite_verdict vs s Undecided Undecided l))

-- ---- two lists are joined state by state, in the place of the first; here at one state more
module _ (op : Verdict → Verdict → Verdict) (vs ws now : List Verdict) (s : ℕ) (inside : s < length now)
    (rest : (t : ℕ) → s ≤ t → verdict_at now t ≡ verdict_at vs t) (v : Verdict) where
  pub joined_done : ((t : ℕ) → t < s → verdict_at now t ≡ op (verdict_at vs t) (verdict_at ws t))
      → (d : Verdict) → s < length ws → v ≡ op (get_or now s d) (get_or ws s d) → (t : ℕ) → t < s + 1
      → verdict_at (set now s v) t ≡ op (verdict_at vs t) (verdict_at ws t)
  joined_done done d too is t l =
      elim (cases_lt t s) [
        | inl before ↦ get_or-set_other now s t v Undecided (λ e. omega (arith, before, e)) ∙ done t before
        | inr after ↦
            let here : t ≡ s = omega (arith, l, after) in
            get_or-set_at now s t v Undecided here inside
            ∙ is
            ∙ ap (λ w. op w (get_or ws s d)) (get_or_default now s d Undecided inside ∙ rest s (omega arith))
            ∙ ap (op (verdict_at vs s)) (get_or_default ws s d Undecided too)
            ∙ ap (λ j. op (verdict_at vs j) (verdict_at ws j)) (sym here)
      ]

  pub joined_rest : (t : ℕ) → s + 1 ≤ t → verdict_at (set now s v) t ≡ verdict_at vs t
  joined_rest t l = get_or-set_other now s t v Undecided (λ e. omega (arith, l, e)) ∙ rest t (omega (arith, l))

-- a vector that is lent whole as a slice holds what the slice has at the end
pub written : {X : Type 0} (len : ℕ) (new old : List X) → length old ≡ len → length new ≡ len
    → take len (new ++ drop (length new) old) ≡ new
written len new old e f = rw (← f) (take-append_seam new (drop (length new) old))
