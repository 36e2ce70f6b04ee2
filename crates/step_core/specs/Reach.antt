-- The states of a frame from which its goal can be reached.
use Rattle.std.specs.Prelude.{◌≡◌, ℕ, ◌<◌, ◌↔◌, Bool, IsTrue, List, length}
use Rattle.ctmc_semantics.specs.Sets.{holds_at}
use Rattle.step_core.specs.FrameLists.{FrameLists}
use Rattle.step_core.specs.FrameRows.{frame_rows}
use Rattle.step_core.specs.Walk.{Walk}

-- a walk through states that may be live leads from the state to one that may be the goal
abbrev pub CanReach : FrameLists → ℕ → Type 0
CanReach frame = Walk (length frame.rows) (frame_rows frame.rows).num (holds_at frame.sets.live_may) (holds_at frame.sets.goal_may)

-- the list tells of each state whether it can reach the goal
pub record TellsReach (frame : FrameLists) (reach : List Bool) : Type 0 where
  pub states : length reach ≡ length frame.rows
  pub exact : (s : ℕ) → s < length frame.rows → IsTrue (holds_at reach s) ↔ CanReach frame s
