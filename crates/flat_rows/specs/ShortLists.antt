-- What contracts see of rows that share a divisor.
use Rattle.std.specs.Prelude.{ℕ, List}
use Rattle.flat_rows.specs.PlacedRow.{PlacedRow}

-- the divisor that the rows share, and the rows
pub record ShortLists : Type 0 where
  pub den : ℕ
  pub rows : List PlacedRow
