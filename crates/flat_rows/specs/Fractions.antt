-- Rows that are multiplied, so that their divisor has 63 bits.
use Rattle.std.specs.Prelude.{◌≡◌, ℕ, ◌*◌, ◌<◌, List, map}
use Rattle.round_out.specs.declared.entry.Entry.{Entry}
use Rattle.step_core.specs.FrameLists.{RowLists}

-- the entry with its number multiplied
abbrev pub scaled_entry : ℕ → Entry → Entry
scaled_entry scale e = record { to = e.to; num = scale * e.num }

-- the entries with their numbers multiplied
abbrev pub scaled_entries : ℕ → List Entry → List Entry
scaled_entries scale entries = map (scaled_entry scale) entries

-- the rows have the same fractions: either, multiplied by a number of its own, comes out the same
pub record HaveSameFractions (row other : RowLists) : Type 0 where
  pub scale : ℕ
  pub other_scale : ℕ
  pub some_scale : 0 < scale
  pub some_other_scale : 0 < other_scale
  pub same_den : scale * row.den ≡ other_scale * other.den
  pub same_entries : scaled_entries scale row.entries ≡ scaled_entries other_scale other.entries
