-- For which states flat rows stand.
use Rattle.std.specs.Prelude.{◌≡◌, ℕ, ◌+◌, ◌<◌, Bool, true, false, ◌&&◌, not, List, All}
use Rattle.ctmc_semantics.specs.Sets.{holds_at}
use Rattle.step_core.specs.FrameLists.{RowLists, SetLists}
use Rattle.step_core.specs.FrameRows.{row_at}
use Rattle.flat_rows.specs.declared.sides.Sides.{Sides}
use Rattle.flat_rows.specs.declared.sides.Sides.TheVariants.{Both, Low, High}
use Rattle.flat_rows.specs.Fractions.{HaveSameFractions}
use Rattle.flat_rows.specs.PlacedRow.{PlacedRow, HasPlace}
use Rattle.flat_rows.specs.RowWords.{IsFit}

-- whether the state's lower word is a quotient of its row: it is live and not of the goal, and can reach it
abbrev pub low_needs_row : SetLists → List Bool → ℕ → Bool
low_needs_row sets reach s = (holds_at sets.live_must s && not (holds_at sets.goal_must s)) && holds_at reach s

-- whether the state's upper word is a quotient of its row
abbrev pub high_needs_row : SetLists → List Bool → ℕ → Bool
high_needs_row sets reach s = (holds_at sets.live_may s && not (holds_at sets.goal_may s)) && holds_at reach s

-- the sides are those of the state's words that are a quotient of its row; the other word is 1 if it is the upper one, and else 0
abbrev pub HasSides : SetLists → List Bool → ℕ → Sides → Type 0
HasSides sets reach s Both = (low_needs_row sets reach s ≡ true) × (high_needs_row sets reach s ≡ true)
HasSides sets reach s Low = (low_needs_row sets reach s ≡ true) × (holds_at sets.goal_may s ≡ true)
HasSides sets reach s High =
    (high_needs_row sets reach s ≡ true) × ((holds_at sets.goal_must s ≡ false) × (holds_at sets.live_must s ≡ false))

-- the row has the fractions and the sides of the state at its place from `first` on
pub record IsRowOf (rows : List RowLists) (sets : SetLists) (reach : List Bool) (first count : ℕ) (placed : PlacedRow) : Type 0 where
  pub place : placed.place < count
  pub fractions : HaveSameFractions placed.row (row_at rows (first + placed.place))
  pub sides : HasSides sets reach (first + placed.place) placed.sides

-- the flat rows are those of the `count` states from `first` on that need theirs
pub record AreRowsOf (rows : List RowLists) (sets : SetLists) (reach : List Bool) (first count : ℕ) (flat : List PlacedRow) : Type 0 where
  pub all_rows : All (IsRowOf rows sets reach first count) flat
  pub low_place : (p : ℕ) → p < count → low_needs_row sets reach (first + p) ≡ true → HasPlace flat p
  pub high_place : (p : ℕ) → p < count → high_needs_row sets reach (first + p) ≡ true → HasPlace flat p

-- the row leads to the first `states` states, its numbers add up to its divisor, and its place is one of `places`
pub record IsFitRow (states places : ℕ) (placed : PlacedRow) : Type 0 where
  pub fit : IsFit states placed.row
  pub place : placed.place < places

-- each row is such a one
pub record AreFit (states places : ℕ) (flat : List PlacedRow) : Type 0 where
  pub each : All (IsFitRow states places) flat
