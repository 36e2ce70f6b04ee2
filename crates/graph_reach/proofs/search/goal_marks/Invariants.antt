use Rattle.std.proofs.Common.{◌≡◌, ℕ, ◌<◌, IsTrue, length}
use Rattle.std.specs.Prelude.{◌↔◌}
use Rattle.ctmc_semantics.specs.Sets.{holds_at}
use Rattle.graph_reach.specs.Search.{IsOrderOf}
use Rattle.graph_reach.proofs.search.goal_marks.Given as goal

abbrev pub invariant-loop-state : goal.invariant-loop-state
invariant-loop-state l = record {
  states : length l.marks.reach.items ≡ length l.goal;
  order : IsOrderOf l.marks.reach.items l.marks.order.items;
  marked : (s : ℕ) → IsTrue (holds_at l.marks.reach.items s) ↔ ((s < l.state) × IsTrue (holds_at l.goal s));
}
