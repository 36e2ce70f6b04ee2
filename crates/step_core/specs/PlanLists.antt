-- What contracts see of a plan.
use Rattle.std.specs.Prelude.{ℕ, Bool, List}
use Rattle.step_core.specs.declared.mix.Mix.{Mix}
use Rattle.step_core.specs.FrameLists.{FrameLists}

-- a frame, the number of jumps to look at, each state's upper word within no jump, whether the state can reach the goal, and how words make
-- a bracket
pub record PlanLists : Type 0 where
  pub frame : FrameLists
  pub layers : ℕ
  pub start_upper : List ℕ
  pub reach : List Bool
  pub mix : Mix
