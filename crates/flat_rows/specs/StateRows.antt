-- The rows of all states in their order, each made ready for a quotient.
use Rattle.std.specs.Prelude.{◌≡◌, ℕ, ◌*◌, ◌^◌, ◌<◌, ◌≤◌, Bool, false, List, [], ◌∷◌, ◌++◌, map, length, slice_index_or}
use Rattle.std.specs.List.{sum_by}
use Rattle.step_core.specs.FrameLists.{RowLists, SetLists}
use Rattle.step_core.specs.FrameRows.{row_at}
use Rattle.flat_rows.specs.RowsOf.{low_needs_row, high_needs_row}
use Rattle.flat_rows.specs.RowWords.{IsFit}

-- a state's row, and whether its lower and its upper word are a quotient of it
pub record StateRowLists : Type 0 where
  pub low : Bool
  pub high : Bool
  pub row : RowLists

-- the row of a state; past the last one, a row without entries
abbrev pub state_row_at : List StateRowLists → ℕ → StateRowLists
state_row_at rows s = slice_index_or rows s record { low = false; high = false; row = record { den = 0; entries = [] } }

-- the entries' numbers times the words of their targets, added up
abbrev pub row_products : RowLists → (ℕ → ℕ) → ℕ
row_products row x = sum_by (λ e. e.num * x e.to) row.entries

-- the rows lead to the same states, and have the same quotient over each layer of words
pub record HaveSameQuotients (row other : RowLists) : Type 0 where
  pub targets : map (λ e. e.to) row.entries ≡ map (λ e. e.to) other.entries
  pub quotients : (x : ℕ → ℕ) → row_products row x * other.den ≡ row_products other x * row.den

-- it is the row of the state over a divisor of 63 bits, and says which of the state's words are a quotient of it
pub record IsStateRow (rows : List RowLists) (sets : SetLists) (reach : List Bool) (s : ℕ) (ready : StateRowLists) : Type 0 where
  pub low : ready.low ≡ low_needs_row sets reach s
  pub high : ready.high ≡ high_needs_row sets reach s
  pub fit : IsFit (length rows) ready.row
  pub full : 2 ^ 62 ≤ ready.row.den
  pub same : HaveSameQuotients ready.row (row_at rows s)

-- they are the rows of all states
pub record AreStateRows (rows : List RowLists) (sets : SetLists) (reach : List Bool) (ready : List StateRowLists) : Type 0 where
  pub states : length ready ≡ length rows
  pub each : (s : ℕ) → s < length rows → IsStateRow rows sets reach s (state_row_at ready s)

-- a row with the same quotients, over a divisor of 63 bits, is put at the end
pub record AddsStateRow (row : RowLists) (low high : Bool) (old new : List StateRowLists) : Type 0 where
  pub added : RowLists
  pub same : HaveSameQuotients added row
  pub whole : sum_by (λ e. e.num) added.entries ≡ added.den
  pub full : 2 ^ 62 ≤ added.den
  pub fits : added.den < 2 ^ 63
  pub rows : new ≡ old ++ record { low = low; high = high; row = added } ∷ []
