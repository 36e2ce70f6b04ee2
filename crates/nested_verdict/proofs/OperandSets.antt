-- What verdicts that are so tell of each list that stands for a formula.
use Rattle.std.proofs.Common.{◌≡◌, ◌≢◌, ℕ, zero, suc, ◌<◌, ◌≤◌, Bool, true, false, IsTrue, List, [], ◌∷◌, length, map, get_or, IsSomeAnd, inl, inr, refl, sym, ap, ◌∙◌, subst, arith}
use Rattle.std.proofs.lemmas.Bool.{false≢true, cases_lt}
use Rattle.std.proofs.lemmas.List.{get_or-map, length-map}
use Rattle.std.proofs.lemmas.List.Elements.{All-head, All-tail}
use Rattle.std.proofs.lemmas.Option.{slice_get-get_or}
use Rattle.ctmc_semantics.specs.Sets.{IsSubset, KnownSets, LieBetween, holds_at, known_exactly}
use Rattle.csl_semantics.specs.Meaning.{IsSat}
use Rattle.csl_syntax.specs.Tree.{Tree, truth, falsehood, label, negation, conjunction, disjunction, next, until}
use Rattle.csl_syntax.specs.declared.formula.Bound.TheVariants.{Unbounded, Time, Reward}
use Rattle.model_core.specs.Model.{LabelledChain}
use Rattle.nested_verdict.specs.EarlyEnd.{AreDecided}
use Rattle.nested_verdict.specs.ExactAnswer.{IsSo, AreSo}
use Rattle.nested_verdict.specs.ThreeValues.{is_sure, may_be, must_list, may_list, verdict_sets, verdicts_know}
use Rattle.report.specs.declared.answer.Verdict.{Verdict}
use Rattle.report.specs.declared.answer.Verdict.TheVariants.{Satisfied, Refuted, Undecided}
use Rattle.step_core.specs.SoundFrame.{AreSoundSets}

-- a list that stands for a formula has a value for each state
pub sat_counted : (over : LabelledChain) (f : Tree) (xs : List Bool) → IsSat over f xs → length xs ≡ over.chain.states
sat_counted over truth xs h = h.each
sat_counted over falsehood xs h = h.each
sat_counted over (label j) xs h = h.each
sat_counted over (negation f) xs h = h.holds.each
sat_counted over (conjunction f g) xs h = h.holds.each
sat_counted over (disjunction f g) xs h = h.holds.each
sat_counted over (next op q f) xs h = h.holds.each
sat_counted over (until op q f Unbounded g) xs h = h.holds.each
sat_counted over (until op q f (Time t) g) xs h = h.holds.each
sat_counted over (until op q f (Reward r) g) xs h = h.1.holds.each

-- ---- one state
sure_so : (holds : Bool) (v : Verdict) → IsSo holds v → IsTrue (is_sure v) → IsTrue holds
sure_so holds Satisfied so h = so
sure_so holds Refuted so h = absurd (false≢true h)
sure_so holds Undecided so h = absurd (false≢true h)

may_so : (holds : Bool) (v : Verdict) → IsSo holds v → IsTrue holds → IsTrue (may_be v)
may_so holds Satisfied so h = refl
may_so true Refuted so h = absurd (false≢true so)
may_so false Refuted so h = absurd (false≢true h)
may_so holds Undecided so h = refl

sure_may : (v : Verdict) → IsTrue (is_sure v) → IsTrue (may_be v)
sure_may Satisfied h = refl
sure_may Refuted h = absurd (false≢true h)
sure_may Undecided h = absurd (false≢true h)

decided_same : (v : Verdict) → v ≢ Undecided → is_sure v ≡ may_be v
decided_same Satisfied d = refl
decided_same Refuted d = refl
decided_same Undecided d = absurd (d refl)

-- ---- lists
-- past a list no state holds
past : (xs : List Bool) (s : ℕ) → length xs ≤ s → IsTrue (holds_at xs s) → ⊥
past [] s l h = false≢true h
past (x ∷ xs) zero l h = omega (arith, l)
past (x ∷ xs) (suc s) l h = past xs s (omega (arith, l)) h

module _ (part : Verdict → Bool) (vs : List Verdict) (s : ℕ) where
  part_at : (v : Verdict) → s < length vs → holds_at (map part vs) s ≡ part (get_or vs s v)
  part_at v l = get_or-map part vs s v false l

  inside : IsTrue (holds_at (map part vs) s) → s < length vs
  inside h = elim (cases_lt s (length vs)) [
    | inl l ↦ l
    | inr g ↦ absurd (past (map part vs) s (omega (arith, g, length-map vs part)) h)
  ]

module _ (over : LabelledChain) (f : Tree) (vs : List Verdict) (so : AreSo over f vs) (xs : List Bool) (stands : IsSat over f xs) where
  pub so_here : (s : ℕ) (v : Verdict) → s < over.chain.states → IsSo (holds_at xs s) (get_or vs s v)
  so_here s v l =
      subst (λ o. IsSomeAnd o (IsSo (holds_at xs s))) (slice_get-get_or vs s v (omega (arith, l, so.each_state))) (so.so xs stands s l)

  -- the states that surely satisfy it do
  pub must_holds : IsSubset (holds_at (must_list vs)) (holds_at xs)
  must_holds s h =
      let l : s < length vs = inside is_sure vs s h in
      sure_so (holds_at xs s) (get_or vs s Undecided) (so_here s Undecided (omega (arith, l, so.each_state)))
      (subst IsTrue (part_at is_sure vs s Undecided l) h)

  -- and those that do may
  pub holds_may : IsSubset (holds_at xs) (holds_at (may_list vs))
  holds_may s h =
      elim (cases_lt s over.chain.states) [
        | inl l ↦ subst IsTrue (sym (part_at may_be vs s Undecided (omega (arith, l, so.each_state))))
            (may_so (holds_at xs s) (get_or vs s Undecided) (so_here s Undecided l) h)
        | inr g ↦ absurd (past xs s (omega (arith, g, sat_counted over f xs stands)) h)
      ]

pub must_may : (vs : List Verdict) → IsSubset (holds_at (must_list vs)) (holds_at (may_list vs))
must_may vs s h =
    let l : s < length vs = inside is_sure vs s h in
    subst IsTrue (sym (part_at may_be vs s Undecided l)) (sure_may (get_or vs s Undecided) (subst IsTrue (part_at is_sure vs s Undecided l) h))

-- the lists of the operands lie between what surely holds and what may
pub operands_between : (over : LabelledChain) (f g : Tree) (vs ws : List Verdict) → AreSo over f vs → AreSo over g ws → (ys zs : List Bool)
    → IsSat over f ys → IsSat over g zs → LieBetween (verdicts_know vs ws) (holds_at ys) (holds_at zs)
operands_between over f g vs ws so too ys zs stands other = record {
  live_has = must_holds over f vs so ys stands;
  live_fits = holds_may over f vs so ys stands;
  goal_has = must_holds over g ws too zs other;
  goal_fits = holds_may over g ws too zs other;
}

-- and so does what surely holds itself
pub sure_between : (vs ws : List Verdict)
    → LieBetween (verdicts_know vs ws) (holds_at (must_list vs)) (holds_at (must_list ws))
sure_between vs ws = record {
  live_has = λ s h. h;
  live_fits = must_may vs;
  goal_has = λ s h. h;
  goal_fits = must_may ws;
}

-- where no state is left open, what may hold does
pub decided_lists : (vs : List Verdict) → AreDecided vs → may_list vs ≡ must_list vs
decided_lists [] d = refl
decided_lists (v ∷ vs) d =
    ap (λ b. b ∷ may_list vs) (sym (decided_same v (All-head (λ (v : Verdict). v ≢ Undecided) v vs d)))
    ∙ ap (λ bs. is_sure v ∷ bs) (decided_lists vs (All-tail (λ (v : Verdict). v ≢ Undecided) v vs d))

pub decided_sets : (vs ws : List Verdict) → AreDecided vs → AreDecided ws
    → verdicts_know vs ws ≡ known_exactly (holds_at (must_list vs)) (holds_at (must_list ws))
decided_sets vs ws d e =
    let sets : List Bool → List Bool → KnownSets = λ live goal. record {
      live_must = holds_at (must_list vs);
      live_may = holds_at live;
      goal_must = holds_at (must_list ws);
      goal_may = holds_at goal;
    } in
    ap (λ live. sets live (may_list ws)) (decided_lists vs d) ∙ ap (sets (must_list vs)) (decided_lists ws e)

pub verdict_sets_sound : (n : ℕ) (vs ws : List Verdict) → length vs ≡ n → length ws ≡ n → AreSoundSets n (verdict_sets vs ws)
verdict_sets_sound n vs ws counted too = record {
  goal_must_states = length-map ws is_sure ∙ too;
  goal_may_states = length-map ws may_be ∙ too;
  live_must_states = length-map vs is_sure ∙ counted;
  live_may_states = length-map vs may_be ∙ counted;
  goal = must_may ws;
  live = must_may vs;
}
