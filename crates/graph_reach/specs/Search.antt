-- The search backwards from the goal.
use Rattle.std.specs.Prelude.{◌≡◌, ℕ, ◌<◌, ◌≤◌, ◌↔◌, Bool, IsTrue, List, length, count_by, slice_index}
use Rattle.std.specs.List.{Contains}
use Rattle.ctmc_semantics.specs.Sets.{holds_at}
use Rattle.graph_reach.specs.Sources.{IsLinked}

-- the states in the order are those that are marked, each once
pub record IsOrderOf (reach : List Bool) (order : List ℕ) : Type 0 where
  pub marked : (k : ℕ) → k < length order → IsTrue (holds_at reach (slice_index order k))
  pub listed : (s : ℕ) → IsTrue (holds_at reach s) → Contains order s
  pub as_many : length order ≡ count_by (λ b. b) reach

-- the second list begins with the first
pub record Extends (old new : List ℕ) : Type 0 where
  pub longer : length old ≤ length new
  pub same : (k : ℕ) → k < length old → slice_index new k ≡ slice_index old k

-- jumps lead from a state to the goal: the state is of the goal, or it is linked to one from which they do
pub data Leads (starts ends states : List ℕ) (goal : List Bool) : ℕ → Type 0 where
  at_goal : {s : ℕ} → IsTrue (holds_at goal s) → Leads starts ends states goal s
  onward : {s t : ℕ} → IsLinked starts ends states s t → Leads starts ends states goal t → Leads starts ends states goal s

-- the list tells of each state whether jumps lead from it to the goal
pub record TellsLeads (starts ends states : List ℕ) (goal reach : List Bool) : Type 0 where
  pub as_long : length reach ≡ length goal
  pub exact : (s : ℕ) → IsTrue (holds_at reach s) ↔ Leads starts ends states goal s
