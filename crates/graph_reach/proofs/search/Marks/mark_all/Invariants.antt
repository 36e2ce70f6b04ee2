use Rattle.std.proofs.Common.{◌≡◌, ℕ, IsTrue, length, take}
use Rattle.std.specs.List.{Contains}
use Rattle.std.specs.Prelude.{◌↔◌, ◌⊎◌}
use Rattle.ctmc_semantics.specs.Sets.{holds_at}
use Rattle.graph_reach.specs.Search.{IsOrderOf, Extends}
use Rattle.graph_reach.proofs.search.Marks.mark_all.Given as goal

abbrev pub invariant-loop-state : goal.invariant-loop-state
invariant-loop-state l = record {
  states : length l.self.reach.items ≡ length l.initial.self.reach.items;
  order : IsOrderOf l.self.reach.items l.self.order.items;
  extends : Extends l.initial.self.order.items l.self.order.items;
  marked :
      (s : ℕ) → IsTrue (holds_at l.self.reach.items s)
      ↔ (IsTrue (holds_at l.initial.self.reach.items s) ⊎ Contains (take l.state-index l.states) s);
}
