-- What contracts see of a frame: lists of rows, entries and truth values.
use Rattle.std.specs.Prelude.{ℕ, Bool, List}
use Rattle.round_out.specs.declared.entry.Entry.{Entry}

-- the jumps from one state: to each entry's target with the entry's number over `den`
pub record RowLists : Type 0 where
  pub den : ℕ
  pub entries : List Entry

-- for each state, whether it surely is and may be the goal, and whether it surely is and may be live
pub record SetLists : Type 0 where
  pub goal_must : List Bool
  pub goal_may : List Bool
  pub live_must : List Bool
  pub live_may : List Bool

-- a row for each state, and the sets of an until
pub record FrameLists : Type 0 where
  pub rows : List RowLists
  pub sets : SetLists
