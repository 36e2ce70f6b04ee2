use Rattle.std.proofs.Common.{◌≡◌, ℕ, ◌+◌, ◌<◌, true, All, length}
use Rattle.flat_rows.specs.PlacedRow.{HasPlace}
use Rattle.flat_rows.specs.RowsOf.{IsRowOf, IsFitRow, low_needs_row, high_needs_row}
use Rattle.flat_rows.proofs.flattening.flatten.Given as goal

abbrev pub invariant-loop-place : goal.invariant-loop-place
invariant-loop-place l = record {
  all_rows : All (IsRowOf l.rows l.sets l.reach l.first l.count) l.flat;
  fit : All (IsFitRow (length l.rows) l.count) l.flat;
  low_place : (p : ℕ) → p < l.place → low_needs_row l.sets l.reach (l.first + p) ≡ true → HasPlace l.flat p;
  high_place : (p : ℕ) → p < l.place → high_needs_row l.sets l.reach (l.first + p) ≡ true → HasPlace l.flat p;
}
