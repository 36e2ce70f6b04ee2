-- The quotients of a row that is made ready are the values of its state.
use Rattle.std.proofs.Common.{◌≡◌, ℕ, ◌*◌, ◌/◌, ◌<◌, Bool, true, List, length, ap, ◌∙◌, arith}
use Rattle.std.specs.Int.{div_ceil}
use Rattle.std.proofs.lemmas.Bool.{and_parts}
use Rattle.ctmc_semantics.specs.RoundedTables.{row_low, row_high}
use Rattle.ctmc_semantics.specs.Sets.{holds_at}
use Rattle.step_core.specs.FrameLists.{RowLists, SetLists}
use Rattle.step_core.specs.FrameRows.{row_at, frame_rows}
use Rattle.step_core.specs.SoundFrame.{IsSoundRow}
use Rattle.step_core.proofs.Entries.{entries_sum}
use Rattle.flat_rows.specs.RowsOf.{low_needs_row, high_needs_row}
use Rattle.flat_rows.specs.StateRows.{StateRowLists, row_products, HaveSameQuotients, IsStateRow}
use Rattle.flat_rows.proofs.Quotients.{same_floor, same_ceil}
use Rattle.flat_rows.proofs.RowValues.{quotient}

module _ {row other : RowLists} (same : HaveSameQuotients row other) (some : 0 < row.den) (other_some : 0 < other.den) (x : ℕ → ℕ) where
  crosswise : other.den * row_products row x ≡ row.den * row_products other x
  crosswise = let e = same.quotients x in omega (arith, e)

  dens : other.den * row.den ≡ row.den * other.den
  dens = omega arith

  pub ready_floor : row_products row x / row.den ≡ row_products other x / other.den
  ready_floor = same_floor other.den (row_products row x) row.den row.den (row_products other x) other.den other_some some other_some
      crosswise dens

  pub ready_ceil : div_ceil (row_products row x) row.den ≡ div_ceil (row_products other x) other.den
  ready_ceil = same_ceil other.den (row_products row x) row.den row.den (row_products other x) other.den other_some some other_some
      crosswise dens

module _ (rows : List RowLists) (sets : SetLists) (reach : List Bool) (s : ℕ) (ready : StateRowLists)
    (sound : IsSoundRow (length rows) (row_at rows s)) (is : IsStateRow rows sets reach s ready) (x : ℕ → ℕ) where
  some : 0 < ready.row.den
  some = let full = is.full in omega (arith, full)

  pub ready_low : low_needs_row sets reach s ≡ true
      → row_products ready.row x / ready.row.den
      ≡ row_low (frame_rows rows) (holds_at sets.live_must) (holds_at sets.goal_must) x s
  ready_low needs =
      ready_floor is.same some sound.positive x
      ∙ (ap (λ z. z / (row_at rows s).den) (entries_sum (length rows) (row_at rows s).entries x sound.targets)
      ∙ quotient (holds_at sets.goal_must s) (holds_at sets.live_must s) _ (and_parts _ (holds_at reach s) needs).0)

  pub ready_high : high_needs_row sets reach s ≡ true
      → div_ceil (row_products ready.row x) ready.row.den
      ≡ row_high (frame_rows rows) (holds_at sets.live_may) (holds_at sets.goal_may) x s
  ready_high needs =
      ready_ceil is.same some sound.positive x
      ∙ (ap (λ z. div_ceil z (row_at rows s).den) (entries_sum (length rows) (row_at rows s).entries x sound.targets)
      ∙ quotient (holds_at sets.goal_may s) (holds_at sets.live_may s) _ (and_parts _ (holds_at reach s) needs).0)
