-- The rounded tables of a plan.
use Rattle.std.specs.Prelude.{◌≡◌, ℕ, suc, ◌<◌, ◌≤◌, List, [], length, slice_index, slice_index_or}
use Rattle.ctmc_semantics.specs.RoundedTables.{low_table, high_table}
use Rattle.ctmc_semantics.specs.Sets.{holds_at}
use Rattle.step_core.specs.FrameRows.{frame_rows}
use Rattle.step_core.specs.PlanLists.{PlanLists}
use Rattle.step_core.specs.TableLists.{TableLists}

-- the list has the word of each of the n states
pub record IsLayer (n : ℕ) (word : ℕ → ℕ) (layer : List ℕ) : Type 0 where
  pub states : length layer ≡ n
  pub words : (s : ℕ) → s < n → slice_index layer s ≡ word s

-- the layer of k jumps; past the last one, no words
abbrev pub layer_at : List (List ℕ) → ℕ → List ℕ
layer_at table k = slice_index_or table k []

-- the list has a layer of the n states' words for each number of jumps from 0 to `last`
pub record IsTable (n last : ℕ) (word : ℕ → ℕ → ℕ) (table : List (List ℕ)) : Type 0 where
  pub layers : length table ≡ suc last
  pub layer : (k : ℕ) → k ≤ last → IsLayer n (word k) (layer_at table k)

-- the plan's lower table: over the sets that surely hold
abbrev pub plan_low : PlanLists → ℕ → ℕ → ℕ
plan_low plan =
    low_table (frame_rows plan.frame.rows) (holds_at plan.frame.sets.live_must) (holds_at plan.frame.sets.goal_must)

-- the plan's upper table: over the sets that may hold, from the plan's start
abbrev pub plan_high : PlanLists → ℕ → ℕ → ℕ
plan_high plan =
    high_table (frame_rows plan.frame.rows) (holds_at plan.frame.sets.live_may) (holds_at plan.frame.sets.goal_may)
    (slice_index plan.start_upper)

-- the tables are the plan's
pub record AreTablesOf (plan : PlanLists) (tables : TableLists) : Type 0 where
  pub low : IsTable (length plan.frame.rows) plan.layers (plan_low plan) tables.low
  pub high : IsTable (length plan.frame.rows) plan.layers (plan_high plan) tables.high
