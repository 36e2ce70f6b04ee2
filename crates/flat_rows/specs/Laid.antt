-- How the code lays a row, and which row that is.
use Rattle.std.specs.Prelude.{ℕ, ◌≤◌, List, [], ◌∷◌, slice_range}
use Rattle.round_out.specs.declared.entry.Entry.{Entry}
use Rattle.flat_rows.specs.declared.flat_row.FlatRow.{FlatRow}
use Rattle.flat_rows.specs.declared.laid_row.LaidRow.{LaidRow}
use Rattle.flat_rows.specs.declared.long_row.LongRow.{LongRow}
use Rattle.flat_rows.specs.declared.one_row.OneRow.{OneRow}
use Rattle.flat_rows.specs.declared.sides.Sides.TheVariants.{Both}
use Rattle.flat_rows.specs.PlacedRow.{PlacedRow}
use Rattle.flat_rows.specs.StateRows.{StateRowLists}

-- a row of one entry, which surely leads to its target
abbrev pub sure_row : OneRow → PlacedRow
sure_row r = record { place = r.place; row = record { den = 1; entries = record { to = r.to; num = 1 } ∷ [] }; sides = Both }

-- a row of a fixed number of entries, over the divisor
abbrev pub short_row : {N : ℕ} → ℕ → FlatRow N → PlacedRow
short_row den r = record { place = r.place; row = record { den = den; entries = r.entries }; sides = Both }

-- a row whose entries are a range of all such rows' entries
abbrev pub long_row : List Entry → LongRow → PlacedRow
long_row entries r = record {
  place = r.place;
  row = record { den = r.divisor; entries = slice_range entries r.first r.end };
  sides = r.sides;
}

-- the row's range is one of `entries` entries
pub record IsInside (entries : ℕ) (r : LongRow) : Type 0 where
  pub ordered : r.first ≤ r.end
  pub inside : r.end ≤ entries

-- a state's row, whose entries are a range of all states' entries
abbrev pub laid_row : List Entry → LaidRow → StateRowLists
laid_row entries r = record {
  low = r.low;
  high = r.high;
  row = record { den = r.divisor; entries = slice_range entries r.first r.end };
}

-- the row's range is one of `entries` entries
pub record LiesInside (entries : ℕ) (r : LaidRow) : Type 0 where
  pub ordered : r.first ≤ r.end
  pub inside : r.end ≤ entries
