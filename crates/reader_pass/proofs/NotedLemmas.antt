-- The brackets of notes lie in one another as the notes do.
use Rattle.std.proofs.Common.{◌≡◌, ℕ, ◌+◌, ◌≤◌, ◌<◌, List, length, sym, ap, ◌∙◌, subst, inl, inr, arith}
use Rattle.std.proofs.lemmas.Bool.{cases_eq}
use Rattle.ctmc_semantics.specs.Sets.{holds_at}
use Rattle.ctmc_semantics.specs.WordBracket.{WordBracket}
use Rattle.step_core.specs.BoardRule.{Better, NoWorse}
use Rattle.step_core.specs.CoreLists.{lower_at, upper_at}
use Rattle.step_core.specs.Limits.{sizes_of, limits_of}
use Rattle.step_core.specs.Places.{Sizes, lower_place, upper_place}
use Rattle.step_core.specs.PlanLists.{PlanLists}
use Rattle.step_core.specs.PlanTables.{plan_low, plan_high}
use Rattle.step_core.specs.SoundPlan.{IsSoundPlan}
use Rattle.step_core.proofs.LimitLemmas.{lower_limit, upper_limit}
use Rattle.step_core.proofs.PlaceLemmas.{lower_rises, upper_falls}
use Rattle.mix_columns.specs.Mixed.{plan_mix, plan_settle, one_thread_words}
use Rattle.mix_columns.specs.MixLaws.{EnclosesWords}
use Rattle.mix_columns.proofs.MixLawLemmas.{mix_rises, mix_reads, settle_again, settled_rises}
use Rattle.bound_grid.specs.Notes.{AreNotes}
use Rattle.reader_pass.specs.NotedWords.{AtTables, noted_words}

-- the bracket of notes is settled
pub noted_settled : (plan : PlanLists) (notes : List ℕ) (s : ℕ) (words : WordBracket) → words ≡ noted_words plan notes s
    → words ≡ plan_settle plan s words
noted_settled plan notes s words is =
    is
    ∙ settle_again (holds_at plan.frame.sets.goal_must s) (holds_at plan.reach s)
    (plan_mix plan (λ k. lower_at (sizes_of plan) notes k s) (λ k. upper_at (sizes_of plan) notes k s))
    ∙ ap (plan_settle plan s) (sym is)

module _ (plan : PlanLists) (s : ℕ) (inside : s < length plan.frame.rows) where
  abbrev z : Sizes
  z = sizes_of plan

  pub at_limits : (k : ℕ) → k ≤ plan.layers → AtTables plan s (limits_of plan) k
  at_limits k le = record { lower = lower_limit plan k s le inside; upper = upper_limit plan k s le inside }

  -- notes that are at their limits in all layers give the bracket of the tables
  pub noted_tables : (notes : List ℕ) → ((k : ℕ) → k ≤ plan.layers → AtTables plan s notes k)
      → noted_words plan notes s ≡ one_thread_words plan s
  noted_tables notes at =
      ap (plan_settle plan s)
      (mix_reads plan.layers plan.mix (λ k. lower_at z notes k s) (λ k. upper_at z notes k s) (λ k. plan_low plan k s)
      (λ k. plan_high plan k s) (λ k le. (at k le).lower) (λ k le. (at k le).upper))

  module _ (xs ys : List ℕ) (better : NoWorse z xs ys) (k : ℕ) (le : k ≤ plan.layers) where
    pub lower_more : lower_at z xs k s ≤ lower_at z ys k s
    lower_more = subst (λ f. Better f (lower_at z xs k s) (lower_at z ys k s)) (lower_rises z k s le inside) (better (lower_place z k s))

    pub upper_less : upper_at z ys k s ≤ upper_at z xs k s
    upper_less = subst (λ f. Better f (upper_at z xs k s) (upper_at z ys k s)) (upper_falls z k s le inside) (better (upper_place z k s))

  -- notes that get better within their limits stay there
  module _ (xs ys : List ℕ) (better : NoWorse z xs ys) (end : NoWorse z ys (limits_of plan)) where
    pub stays_at_tables : (k : ℕ) → k ≤ plan.layers → AtTables plan s xs k → AtTables plan s ys k
    stays_at_tables k le at =
        let limit : AtTables plan s (limits_of plan) k = at_limits k le in
        record {
          lower =
              omega (arith, lower_more xs ys better k le, lower_more ys (limits_of plan) end k le, limit.lower, at.lower);
          upper =
              omega (arith, upper_less xs ys better k le, upper_less ys (limits_of plan) end k le, limit.upper, at.upper);
        }

    pub next_at_tables : (k : ℕ) → k ≤ plan.layers → ((j : ℕ) → j < k → AtTables plan s xs j) → AtTables plan s ys k
        → (j : ℕ) → j < k + 1 → AtTables plan s ys j
    next_at_tables k le before here j l =
        elim (cases_eq j k) [
          | inl e ↦ subst (AtTables plan s ys) (sym e) here
          | inr ne ↦ stays_at_tables j (omega (arith, l, le)) (before j (omega (arith, l, ne)))
        ]

  module _ (sound : IsSoundPlan plan) where
    pub narrower : (notes better : List ℕ) → NoWorse z notes better → EnclosesWords (noted_words plan notes s) (noted_words plan better s)
    narrower notes better h =
        settled_rises (holds_at plan.frame.sets.goal_must s) (holds_at plan.reach s) _ _
        (mix_rises plan.layers plan.mix (λ k. lower_at z notes k s) (λ k. upper_at z notes k s) (λ k. lower_at z better k s)
        (λ k. upper_at z better k s) sound.mix (lower_more notes better h) (upper_less notes better h))

    pub encloses_tables : (notes : List ℕ) → AreNotes plan notes → EnclosesWords (noted_words plan notes s) (one_thread_words plan s)
    encloses_tables notes are =
        subst (EnclosesWords (noted_words plan notes s)) (noted_tables (limits_of plan) at_limits) (narrower notes (limits_of plan) are.end)
