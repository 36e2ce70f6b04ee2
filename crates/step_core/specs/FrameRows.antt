-- The jumps for which a frame's rows stand.
use Rattle.std.specs.Prelude.{ℕ, ◌==◌, List, [], length, slice_index_or, if◌then◌else◌}
use Rattle.std.specs.List.{sum_by}
use Rattle.ctmc_semantics.specs.Jumps.{Jumps}
use Rattle.ctmc_semantics.specs.Rows.{Rows, IsRowsOf}
use Rattle.round_out.specs.declared.entry.Entry.{Entry}
use Rattle.step_core.specs.FrameLists.{RowLists}

-- the row of a state; past the last one, a row without entries
abbrev pub row_at : List RowLists → ℕ → RowLists
row_at rows s = slice_index_or rows s record { den = 0; entries = [] }

-- the number of the jumps to a target: the sum of the entries' numbers that lead there
abbrev pub number_to : List Entry → ℕ → ℕ
number_to entries t = sum_by (λ e. if e.to == t then e.num else 0) entries

-- the rows as numbers of source and target
abbrev pub frame_rows : List RowLists → Rows
frame_rows rows = record {
  states = length rows;
  num = λ s t. number_to (row_at rows s).entries t;
  den = λ s. (row_at rows s).den;
}

-- the rows stand for the chain: they have its probabilities
abbrev pub StandFor : List RowLists → Jumps → Type 0
StandFor rows j = IsRowsOf (frame_rows rows) j
