-- How good notes of a state are.
use Rattle.std.specs.Prelude.{ℕ, ◌-◌, ◌≤◌, List}
use Rattle.step_core.specs.CoreLists.{lower_at, upper_at}
use Rattle.step_core.specs.Events.{plan_row_low, plan_row_high}
use Rattle.step_core.specs.Limits.{sizes_of}
use Rattle.step_core.specs.PlanLists.{PlanLists}

-- the notes of the state in the layer are at least as good as its row values over what `below` notes of the layer before
pub record AreTight (plan : PlanLists) (below notes : List ℕ) (k s : ℕ) : Type 0 where
  pub lower : plan_row_low plan (lower_at (sizes_of plan) below (k - 1)) s ≤ lower_at (sizes_of plan) notes k s
  pub upper : upper_at (sizes_of plan) notes k s ≤ plan_row_high plan (upper_at (sizes_of plan) below (k - 1)) s
