-- What the rows and the rounded tables of a sound plan promise.
use Rattle.std.specs.Prelude.{◌≡◌, ℕ, ◌+◌, ◌*◌, ◌^◌, ◌<◌, ◌≤◌, length, slice_index}
use Rattle.ctmc_semantics.specs.Sum.{sum_below}
use Rattle.ctmc_semantics.specs.Jumps.{Jumps}
use Rattle.ctmc_semantics.specs.JumpValue.{jump_value}
use Rattle.ctmc_semantics.specs.RoundedTables.{one_word, exact_word}
use Rattle.ctmc_semantics.specs.Rows.{Rows}
use Rattle.ctmc_semantics.specs.Sets.{holds_at}
use Rattle.step_core.specs.declared.mix.Mix.TheVariants.{Poisson, Last}
use Rattle.step_core.specs.FrameLists.{FrameLists}
use Rattle.step_core.specs.FrameRows.{frame_rows, StandFor}
use Rattle.step_core.specs.PlanLists.{PlanLists}
use Rattle.step_core.specs.PlanTables.{layer_at, AreTablesOf}
use Rattle.step_core.specs.SoundFrame.{IsSoundFrame}
use Rattle.step_core.specs.SoundPlan.{IsSoundPlan}
use Rattle.step_core.specs.TableLists.{TableLists}
use Rattle.step_core.specs.WeightLists.{WeightLists}

-- the numbers of a row add up to its divisor, which is positive
pub record IsWholeRow (r : Rows) (s : ℕ) : Type 0 where
  pub whole : sum_below r.states (r.num s) ≡ r.den s
  pub positive : 0 < r.den s

-- each row of a sound frame is whole
abbrev pub FrameRowsAreWhole : Type 0
FrameRowsAreWhole = (frame : FrameLists) (s : ℕ) → IsSoundFrame frame → s < length frame.rows → IsWholeRow (frame_rows frame.rows) s

-- a word is never above `value / power`, and below it by at most one unit a jump
pub record RoundsDown (word value power jumps : ℕ) : Type 0 where
  pub below : word * power ≤ value
  pub near : value ≤ (word + jumps) * power

-- a word is never below `value / power`, and above it by at most one unit a jump
pub record RoundsUp (word value power jumps : ℕ) : Type 0 where
  pub above : value ≤ word * power
  pub near : word * power ≤ value + jumps * power

-- the lower table rounds the probabilities over the sets that surely hold down
abbrev pub LowTableRounds : Type 0
LowTableRounds =
    (plan : PlanLists) (tables : TableLists) (j : Jumps) (k s : ℕ)
    → IsSoundPlan plan → AreTablesOf plan tables → StandFor plan.frame.rows j → k ≤ plan.layers → s < length plan.frame.rows
    → RoundsDown (slice_index (layer_at tables.low k) s)
    (one_word * jump_value j (holds_at plan.frame.sets.live_must) (holds_at plan.frame.sets.goal_must) k s) (j.total ^ k) k

-- the upper table rounds the exact words of its start, over the sets that may hold, up
abbrev pub HighTableRounds : Type 0
HighTableRounds =
    (plan : PlanLists) (tables : TableLists) (j : Jumps) (k s : ℕ)
    → IsSoundPlan plan → AreTablesOf plan tables → StandFor plan.frame.rows j → k ≤ plan.layers → s < length plan.frame.rows
    → RoundsUp (slice_index (layer_at tables.high k) s)
    (exact_word j (holds_at plan.frame.sets.live_may) (holds_at plan.frame.sets.goal_may) (slice_index plan.start_upper) k s)
    (j.total ^ k) k

-- of a bounded until, the upper table rounds the probabilities over the sets that may hold up
abbrev pub BoundedHighTableRounds : Type 0
BoundedHighTableRounds =
    (plan : PlanLists) (tables : TableLists) (weights : WeightLists) (bits : ℕ) (j : Jumps) (k s : ℕ)
    → IsSoundPlan plan → plan.mix ≡ Poisson weights bits → AreTablesOf plan tables → StandFor plan.frame.rows j
    → k ≤ plan.layers → s < length plan.frame.rows
    → RoundsUp (slice_index (layer_at tables.high k) s)
    (one_word * jump_value j (holds_at plan.frame.sets.live_may) (holds_at plan.frame.sets.goal_may) k s) (j.total ^ k) k

-- of an unbounded until, each layer of the upper table is above the probabilities within any number n of jumps
abbrev pub UnboundedHighTableIsAbove : Type 0
UnboundedHighTableIsAbove =
    (plan : PlanLists) (tables : TableLists) (j : Jumps) (k n s : ℕ)
    → IsSoundPlan plan → plan.mix ≡ Last → AreTablesOf plan tables → StandFor plan.frame.rows j → 0 < j.total
    → k ≤ plan.layers → s < length plan.frame.rows
    → one_word * jump_value j (holds_at plan.frame.sets.live_may) (holds_at plan.frame.sets.goal_may) n s
    ≤ slice_index (layer_at tables.high k) s * j.total ^ n
