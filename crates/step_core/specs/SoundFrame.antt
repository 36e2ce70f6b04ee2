-- When a frame is sound.
use Rattle.std.specs.Prelude.{◌≡◌, ℕ, ◌+◌, ◌^◌, ◌<◌, ◌≤◌, List, map, length, slice_index, All}
use Rattle.std.specs.List.{sum_by}
use Rattle.ctmc_semantics.specs.Sets.{IsSubset, holds_at}
use Rattle.step_core.specs.FrameLists.{RowLists, SetLists, FrameLists}

-- each number is below the next
abbrev pub Ascend : List ℕ → Type 0
Ascend xs = (i : ℕ) → i + 1 < length xs → slice_index xs i < slice_index xs (i + 1)

-- a row among n states is sound: its targets are states and ascend, and its numbers are positive and add up to its divisor
pub record IsSoundRow (n : ℕ) (row : RowLists) : Type 0 where
  pub targets : All (λ e. e.to < n) row.entries
  pub ascend : Ascend (map (λ e. e.to) row.entries)
  pub numbers : All (λ e. 0 < e.num) row.entries
  pub whole : sum_by (λ e. e.num) row.entries ≡ row.den
  pub positive : 0 < row.den
  pub fits : row.den < 2 ^ 63

-- the sets of n states are sound: what surely is in a set may be in it
pub record AreSoundSets (n : ℕ) (sets : SetLists) : Type 0 where
  pub goal_must_states : length sets.goal_must ≡ n
  pub goal_may_states : length sets.goal_may ≡ n
  pub live_must_states : length sets.live_must ≡ n
  pub live_may_states : length sets.live_may ≡ n
  pub goal : IsSubset (holds_at sets.goal_must) (holds_at sets.goal_may)
  pub live : IsSubset (holds_at sets.live_must) (holds_at sets.live_may)

-- a frame is sound: it has 1 to 65,536 states, and its rows and sets are sound among them
pub record IsSoundFrame (frame : FrameLists) : Type 0 where
  pub some : 1 ≤ length frame.rows
  pub few : length frame.rows ≤ 65536
  pub rows : All (IsSoundRow (length frame.rows)) frame.rows
  pub sets : AreSoundSets (length frame.rows) frame.sets
