-- What contracts see of flat rows: a list of rows and their places.
use Rattle.std.specs.Prelude.{◌≡◌, ℕ, List, Any}
use Rattle.step_core.specs.FrameLists.{RowLists}
use Rattle.flat_rows.specs.declared.sides.Sides.{Sides}

-- a row, the place of its state, and which words of the state are a quotient of it
pub record PlacedRow : Type 0 where
  pub place : ℕ
  pub row : RowLists
  pub sides : Sides

-- some row has the place
abbrev pub HasPlace : List PlacedRow → ℕ → Type 0
HasPlace flat p = Any (λ placed. placed.place ≡ p) flat
