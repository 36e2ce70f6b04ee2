-- The states of a block that were tightened so far.
use Rattle.std.proofs.Common.{◌≡◌, ℕ, ◌+◌, ◌-◌, ◌*◌, min, ◌<◌, ◌≤◌, length, sym, ◌∙◌, subst, inl, inr, arith}
use Rattle.std.proofs.lemmas.Bool.{cases_eq}
use Rattle.bound_grid.specs.Passes.{IsPassOf, KnowsMore, notes_of, seal_note}
use Rattle.bound_grid.specs.SealNotes.{NotesLayer, NotesRow}
use Rattle.bound_grid.specs.declared.board.Board.{Board}
use Rattle.bound_grid.specs.declared.board.Pass.{Pass}
use Rattle.bound_grid.proofs.KnownLemmas.{knows_itself, knows_then, lower_stays, upper_stays}
use Rattle.step_core.specs.GoodLaws.{EqualTables}
use Rattle.step_core.specs.Limits.{sizes_of}
use Rattle.step_core.specs.Places.{blocks}
use Rattle.step_core.specs.PlanLists.{PlanLists}
use Rattle.step_core.proofs.PlaceLemmas.{block_in}
use Rattle.step_core.specs.SoundPlan.{IsSoundPlan}
use Rattle.tighten_step.specs.Tight.{AreTight}
use Rattle.tighten_step.proofs.TightState.{tight_wider}

-- what is known of the states from `first` on, up to s, where p was the pass before
pub record AreTightened (b : Board) (p q : Pass) (k first s : ℕ) : Type 0 where
  pub tight : (t : ℕ) → first ≤ t → t < s → AreTight b.plan (notes_of p) (notes_of q) k t
  pub exact : NotesLayer b.plan (notes_of p) (k - 1) → (t : ℕ) → first ≤ t → t < s → EqualTables b.plan (notes_of q) k t

pub tightened_none : (b : Board) (p q : Pass) (k first : ℕ) → AreTightened b p q k first first
tightened_none b p q k first = record { tight = λ t ge lt. absurd (omega arith); exact = λ _ t ge lt. absurd (omega arith) }

-- words that equal the tables still do
pub equal_stays : (b : Board) (p q : Pass) → KnowsMore b p q → (k s : ℕ) → k ≤ b.plan.layers → s < length b.plan.frame.rows
    → EqualTables b.plan (notes_of p) k s → EqualTables b.plan (notes_of q) k s
equal_stays b p q more k s le lt was = record {
  lower = lower_stays b p q more k s le lt was.lower;
  upper = upper_stays b p q more k s le lt was.upper;
}

module _ (b : Board) (p q r : Pass) (sound : IsSoundPlan b.plan) (is : IsPassOf b p) (before : KnowsMore b p q) (step : KnowsMore b q r)
    (k first s : ℕ)
    (le : k ≤ b.plan.layers) (lt : s < length b.plan.frame.rows) where
  -- one state more
  pub tightened_next : AreTight b.plan (notes_of r) (notes_of r) k s
      → (NotesLayer b.plan (notes_of p) (k - 1) → EqualTables b.plan (notes_of r) k s)
      → AreTightened b p q k first s → AreTightened b p r k first (s + 1)
  tightened_next here exact_here was =
      let all = knows_then b p q r before step in
      let itself = knows_itself b r step.pass in
      record {
        tight = λ t ge t_lt.
            elim (cases_eq t s) [
              | inl e ↦ subst (λ u. AreTight b.plan (notes_of p) (notes_of r) k u) (sym e)
                  (tight_wider b p r r r sound all itself k s le lt here)
              | inr ne ↦ (
                  let less : t < s = omega (arith, ne, t_lt) in
                  tight_wider b p p q r sound (knows_itself b p is) step k t le (omega (arith, less, lt)) (was.tight t ge less))
            ];
        exact = λ noted t ge t_lt.
            elim (cases_eq t s) [
              | inl e ↦ subst (λ u. EqualTables b.plan (notes_of r) k u) (sym e) (exact_here noted)
              | inr ne ↦ (
                  let less : t < s = omega (arith, ne, t_lt) in
                  equal_stays b q r step k t le (omega (arith, less, lt)) (was.exact noted t ge less))
            ];
      }

-- a row leads to blocks of the layer
pub row_noted : (b : Board) (p q : Pass) (j s : ℕ) → IsSoundPlan b.plan → j ≤ b.plan.layers → s < length b.plan.frame.rows
    → ((c : ℕ) → c < blocks (sizes_of b.plan) → seal_note b q j c ≡ seal_note b p j c) → NotesLayer b.plan (notes_of p) j
    → NotesRow b.plan (notes_of q) j s
row_noted b p q j s sound le lt same noted i d l =
    let t_in = (sound.frame.rows s _ lt).targets i d l in
    let c_in = block_in (sizes_of b.plan) j _ le t_in in
    same _ c_in ∙ noted.at _ c_in

-- the end of a block, of the plan that was read
pub end_of : {q plan : PlanLists} {end : ℕ} (b : ℕ) → q ≡ plan → end ≡ min (64 * (b + 1)) (length q.frame.rows)
    → end ≡ min (64 * (b + 1)) (length plan.frame.rows)
end_of {end = end} b same e = subst (λ x. end ≡ min (64 * (b + 1)) (length x.frame.rows)) same e
