-- What the words of a state may be brought to, by which of them are a quotient of its row.
use Rattle.std.proofs.Common.{◌≡◌, ℕ, zero, suc, ◌-◌, ◌/◌, ◌<◌, ◌≤◌, Bool, true, false, cond, not, ◌&&◌, ◌⊎◌, All, length, inl, inr, ap, sym, ◌∙◌, subst, arith}
use Rattle.std.specs.Int.{div_ceil}
use Rattle.std.proofs.lemmas.Bool.{false≢true, cases_Bool, and_parts}
use Rattle.bound_grid.specs.Passes.{IsPassOf, notes_of, lower_note, upper_note, seal_note}
use Rattle.bound_grid.specs.SealNotes.{NotesRow}
use Rattle.bound_grid.specs.declared.board.Board.{Board}
use Rattle.bound_grid.specs.declared.board.Pass.{Pass}
use Rattle.bound_grid.proofs.KnownLemmas.{note_under, note_over}
use Rattle.ctmc_semantics.specs.RoundedTables.{one_word, set_words}
use Rattle.ctmc_semantics.specs.Sets.{holds_at}
use Rattle.flat_rows.specs.RowsOf.{low_needs_row, high_needs_row}
use Rattle.flat_rows.specs.StateRows.{StateRowLists, row_products, IsStateRow}
use Rattle.flat_rows.proofs.FixedWords.{first_false, none, no_floor, no_ceil, not_reached, not_surely, no_products}
use Rattle.flat_rows.proofs.ReadyRows.{of_targets}
use Rattle.flat_rows.proofs.ReadyValues.{ready_low, ready_high}
use Rattle.flat_rows.proofs.RowValues.{fixed}
use Rattle.step_core.specs.declared.mix.Mix.{Mix}
use Rattle.step_core.specs.declared.mix.Mix.TheVariants.{Poisson, Last}
use Rattle.step_core.specs.Events.{plan_row_low, plan_row_high}
use Rattle.step_core.specs.FrameRows.{row_at}
use Rattle.step_core.specs.Places.{block_of}
use Rattle.step_core.specs.PlanLists.{PlanLists}
use Rattle.step_core.specs.PlanTables.{plan_low, plan_high}
use Rattle.step_core.specs.SoundFrame.{Ascend, IsSoundRow}
use Rattle.step_core.specs.SoundPlan.{IsSoundPlan, starts_at_one}
use Rattle.step_core.proofs.RowLemmas.{row_low_rises, row_high_rises, low_next, high_next}
use Rattle.tighten_step.specs.Quotients.{IsReady, AreSealed, IsLowQuotient, IsHighQuotient}
use Rattle.tighten_step.specs.Values.{AreValues}
use Rattle.tighten_step.proofs.PrefixSums.{products_same}

-- ---- the words of states that need no row
-- a state that can't reach the goal starts from 0
start_none : (m : Mix) (goals reach : ℕ → Bool) (t : ℕ) → goals t ≡ false → reach t ≡ false → set_words (starts_at_one m goals reach) t ≡ 0
start_none (Poisson weights bits) goals reach t g r = ap (λ x. cond x one_word 0) g
start_none Last goals reach t g r = ap (λ x. cond x one_word 0) r

module _ (plan : PlanLists) (sound : IsSoundPlan plan) where
  abbrev n : ℕ
  n = length plan.frame.rows

  abbrev goal_must : ℕ → Bool
  goal_must = holds_at plan.frame.sets.goal_must

  abbrev goal_may : ℕ → Bool
  goal_may = holds_at plan.frame.sets.goal_may

  abbrev live_must : ℕ → Bool
  live_must = holds_at plan.frame.sets.live_must

  abbrev live_may : ℕ → Bool
  live_may = holds_at plan.frame.sets.live_may

  sound_row : (s : ℕ) → s < n → IsSoundRow n (row_at plan.frame.rows s)
  sound_row s lt = sound.frame.rows s _ lt

  unreached : (s : ℕ) → s < n → holds_at plan.reach s ≡ false → (goal_must s ≡ false) × (goal_may s ≡ false)
  unreached s lt e = (
    not_surely plan.frame plan.reach sound.frame sound.reach s lt e,
    not_reached plan.frame plan.reach sound.frame sound.reach s lt e,
  )

  unreached_low : (k s : ℕ) → s < n → holds_at plan.reach s ≡ false → plan_low plan k s ≡ 0
  unreached_low zero s lt e = ap (λ x. cond x one_word 0) (unreached s lt e).0
  unreached_low (suc k) s lt e =
      let g = (unreached s lt e).0 in
      let den = (row_at plan.frame.rows s).den in
      sym (none (goal_must s) (live_must s) _ g (λ live. ap (λ z. z / den) (no_products plan.frame plan.reach sound.frame sound.reach s lt e
      (sound.frame.sets.live s live) (plan_low plan k) (λ t l f. unreached_low k t l f)) ∙ no_floor den (sound_row s lt).positive))
      ∙ ap (λ x. cond x one_word 0) g

  unreached_high : (k s : ℕ) → s < n → holds_at plan.reach s ≡ false → plan_high plan k s ≡ 0
  unreached_high zero s lt e =
      sound.start s lt ∙ start_none plan.mix goal_may (holds_at plan.reach) s (unreached s lt e).1 e
  unreached_high (suc k) s lt e =
      let g = (unreached s lt e).1 in
      let den = (row_at plan.frame.rows s).den in
      sym (none (goal_may s) (live_may s) _ g
      (λ live. ap (λ z. div_ceil z den) (no_products plan.frame plan.reach sound.frame sound.reach s lt e
      live (plan_high plan k) (λ t l f. unreached_high k t l f)) ∙ no_ceil den (sound_row s lt).positive))
      ∙ ap (λ x. cond x one_word 0) g

  module _ (k s : ℕ) (above : 0 < k) (lt : s < n) where
    pub fixed_low : low_needs_row plan.frame.sets plan.reach s ≡ false → plan_low plan k s ≡ set_words goal_must s
    fixed_low f =
        elim (cases_Bool (holds_at plan.reach s)) [
          | inl t ↦ low_next plan k s above ∙ sym (fixed (goal_must s) (live_must s) _ (first_false _ (holds_at plan.reach s) t f))
          | inr e ↦ unreached_low k s lt e ∙ sym (ap (λ x. cond x one_word 0) (unreached s lt e).0)
        ]

    pub fixed_high : high_needs_row plan.frame.sets plan.reach s ≡ false → plan_high plan k s ≡ set_words goal_may s
    fixed_high f =
        elim (cases_Bool (holds_at plan.reach s)) [
          | inl t ↦ high_next plan k s above ∙ sym (fixed (goal_may s) (live_may s) _ (first_false _ (holds_at plan.reach s) t f))
          | inr e ↦ unreached_high k s lt e ∙ sym (ap (λ x. cond x one_word 0) (unreached s lt e).1)
        ]

    -- a state of which only the lower word is a quotient may be the goal
    pub low_alone : low_needs_row plan.frame.sets plan.reach s ≡ true → high_needs_row plan.frame.sets plan.reach s ≡ false → set_words
        goal_may s ≡ one_word
    low_alone t f =
        let parts = and_parts _ (holds_at plan.reach s) t in
        let live = sound.frame.sets.live s (and_parts (live_must s) _ parts.0).0 in
        elim (cases_Bool (goal_may s)) [
          | inl g ↦ ap (λ x. cond x one_word 0) g
          | inr g ↦ absurd (false≢true (sym f ∙ (λ i. (live i && not (g i)) && parts.1 i)))
        ]

    -- one of which only the upper word is is surely not the goal
    pub high_alone : high_needs_row plan.frame.sets plan.reach s ≡ true → set_words goal_must s ≡ 0
    high_alone t =
        let off : not (goal_may s) ≡ true = (and_parts (live_may s) _ (and_parts _ (holds_at plan.reach s) t).0).1 in
        elim (cases_Bool (goal_must s)) [
          | inl g ↦ absurd (false≢true (ap not (sym (sound.frame.sets.goal s g)) ∙ off))
          | inr g ↦ ap (λ x. cond x one_word 0) g
        ]

-- ---- values
module _ (b : Board) (p r : Pass) (sound : IsSoundPlan b.plan) (is : IsPassOf b r) (k s : ℕ) (above : 0 < k) (le : k ≤ b.plan.layers)
    (lt : s < length b.plan.frame.rows) where
  abbrev below : ℕ
  below = k - 1

  below_in : below ≤ b.plan.layers
  below_in = omega (arith, le)

  abbrev row_low_now : ℕ
  row_low_now = plan_row_low b.plan (lower_note b r below) s

  abbrev row_high_now : ℕ
  row_high_now = plan_row_high b.plan (upper_note b r below) s

  pub low_limit : row_low_now ≤ plan_low b.plan k s
  low_limit =
      subst (λ x. row_low_now ≤ x) (sym (low_next b.plan k s above))
      (row_low_rises b.plan sound s lt (lower_note b r below) (plan_low b.plan below) (λ t l. note_under b r is below t below_in l))

  pub high_limit : plan_high b.plan k s ≤ row_high_now
  high_limit =
      subst (λ x. x ≤ row_high_now) (sym (high_next b.plan k s above))
      (row_high_rises b.plan sound s lt (plan_high b.plan below) (upper_note b r below) (λ t l. note_over b r is below t below_in l))

  -- a value is the row value, or final
  pub low_side : (low : ℕ) → (low ≡ row_low_now) ⊎ (low ≡ plan_low b.plan k s) → (row_low_now ≤ low) × (low ≤ plan_low b.plan k s)
  low_side low (inl e) = let l = low_limit in (omega (arith, e), omega (arith, e, l))
  low_side low (inr e) = let l = low_limit in (omega (arith, e, l), omega (arith, e))

  pub high_side : (high : ℕ) → (high ≡ row_high_now) ⊎ (high ≡ plan_high b.plan k s) → (high ≤ row_high_now) × (plan_high b.plan k s ≤ high)
  high_side high (inl e) = let l = high_limit in (omega (arith, e), omega (arith, e, l))
  high_side high (inr e) = let l = high_limit in (omega (arith, e, l), omega (arith, e))

  pub values : (low high : ℕ) → (low ≡ row_low_now) ⊎ (low ≡ plan_low b.plan k s) → (high ≡ row_high_now) ⊎ (high ≡ plan_high b.plan k s)
      → AreValues b.plan (notes_of r) k s low high
  values low high l h = record {
    lower = (low_side low l).0;
    upper = (high_side high h).0;
    lower_limit = (low_side low l).1;
    upper_limit = (high_side high h).1;
  }

  -- ---- quotients
  module _ (ready : StateRowLists) (made : IsStateRow b.plan.frame.rows b.plan.frame.sets b.plan.reach s ready) where
    good : IsSoundRow (length b.plan.frame.rows) (row_at b.plan.frame.rows s)
    good = sound.frame.rows s _ lt

    pub is_ready : IsReady b.plan ready.row
    is_ready = record {
      fit = made.fit;
      ascend = subst Ascend (sym made.same.targets) good.ascend;
      positive = (let full = made.full in omega (arith, full));
    }

    noted : NotesRow b.plan (notes_of p) below s → All (λ e. seal_note b p below (block_of e.to) ≡ 1) ready.row.entries
    noted =
        of_targets (λ t. seal_note b p below (block_of t) ≡ 1) ready.row.entries (row_at b.plan.frame.rows s).entries made.same.targets

    products_final : (f g : ℕ → ℕ) → NotesRow b.plan (notes_of p) below s → AreSealed b p below ready.row f g
        → row_products ready.row f ≡ row_products ready.row g
    products_final f g seals sealed = products_same ready.row.entries g f (λ i d l. sealed i d l (noted seals i d l))

    module _ (needs : low_needs_row b.plan.frame.sets b.plan.reach s ≡ true) (low : ℕ)
        (quotient : IsLowQuotient b p r below ready.row low) where
      pub low_is_row : low ≡ row_low_now
      low_is_row =
          quotient.value
          ∙ ready_low b.plan.frame.rows b.plan.frame.sets b.plan.reach s ready good made (lower_note b r below) needs

      pub low_is_final : NotesRow b.plan (notes_of p) below s → low ≡ plan_low b.plan k s
      low_is_final seals =
          quotient.value
          ∙ (ap (λ z. z / ready.row.den) (products_final (lower_note b r below) (plan_low b.plan below) seals quotient.exact)
          ∙ (ready_low b.plan.frame.rows b.plan.frame.sets b.plan.reach s ready good made (plan_low b.plan below) needs
          ∙ sym (low_next b.plan k s above)))

    module _ (needs : high_needs_row b.plan.frame.sets b.plan.reach s ≡ true) (high : ℕ)
        (quotient : IsHighQuotient b p r below ready.row high) where
      pub high_is_row : high ≡ row_high_now
      high_is_row =
          quotient.value
          ∙ ready_high b.plan.frame.rows b.plan.frame.sets b.plan.reach s ready good made (upper_note b r below) needs

      pub high_is_final : NotesRow b.plan (notes_of p) below s → high ≡ plan_high b.plan k s
      high_is_final seals =
          quotient.value
          ∙ (ap (λ z. div_ceil z ready.row.den) (products_final (upper_note b r below) (plan_high b.plan below) seals quotient.exact)
          ∙ (ready_high b.plan.frame.rows b.plan.frame.sets b.plan.reach s ready good made (plan_high b.plan below) needs
          ∙ sym (high_next b.plan k s above)))
