-- A row that is added to others.
use Rattle.std.specs.Prelude.{◌≡◌, ℕ, ◌^◌, ◌<◌, List, ◌∷◌, ◌++◌}
use Rattle.step_core.specs.FrameLists.{RowLists}
use Rattle.flat_rows.specs.declared.sides.Sides.{Sides}
use Rattle.flat_rows.specs.Fractions.{HaveSameFractions}
use Rattle.flat_rows.specs.PlacedRow.{PlacedRow}

-- the row is put somewhere among the others, which stay
pub record InsertsRow (added : PlacedRow) (old new : List PlacedRow) : Type 0 where
  pub front : List PlacedRow
  pub back : List PlacedRow
  pub old_rows : old ≡ front ++ back
  pub new_rows : new ≡ front ++ added ∷ back

-- a row with the fractions of the given one is put among the others, for the given place and sides
pub record AddsRow (place : ℕ) (row : RowLists) (sides : Sides) (old new : List PlacedRow) : Type 0 where
  pub added : RowLists
  pub fractions : HaveSameFractions added row
  pub fits : added.den < 2 ^ 63
  pub inserts : InsertsRow (record { place = place; row = added; sides = sides }) old new
