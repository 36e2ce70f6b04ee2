-- What the words of a state may be brought to.
use Rattle.std.specs.Prelude.{◌≡◌, ℕ, ◌-◌, ◌≤◌, List}
use Rattle.step_core.specs.CoreLists.{lower_at, upper_at}
use Rattle.step_core.specs.Events.{plan_row_low, plan_row_high}
use Rattle.step_core.specs.Limits.{sizes_of}
use Rattle.step_core.specs.PlanLists.{PlanLists}
use Rattle.step_core.specs.PlanTables.{plan_low, plan_high}

-- the values are at least as good as the row values of the state over the notes of the layer before, and no better than the tables
pub record AreValues (plan : PlanLists) (notes : List ℕ) (k s low high : ℕ) : Type 0 where
  pub lower : plan_row_low plan (lower_at (sizes_of plan) notes (k - 1)) s ≤ low
  pub upper : high ≤ plan_row_high plan (upper_at (sizes_of plan) notes (k - 1)) s
  pub lower_limit : low ≤ plan_low plan k s
  pub upper_limit : plan_high plan k s ≤ high

-- the values equal the tables
pub record AreFinal (plan : PlanLists) (k s low high : ℕ) : Type 0 where
  pub lower : low ≡ plan_low plan k s
  pub upper : high ≡ plan_high plan k s
