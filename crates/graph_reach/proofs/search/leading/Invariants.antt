use Rattle.std.proofs.Common.{◌≡◌, ℕ, ◌-◌, ◌<◌, IsTrue, length, slice_index}
use Rattle.ctmc_semantics.specs.Sets.{holds_at}
use Rattle.graph_reach.specs.Sources.{IsLinked}
use Rattle.graph_reach.specs.Search.{IsOrderOf, Leads}
use Rattle.graph_reach.proofs.search.leading.Given as goal

abbrev pub invariant-loop-turn : goal.invariant-loop-turn
invariant-loop-turn l = record {
  states : length l.marks.reach.items ≡ length l.goal;
  order : IsOrderOf l.marks.reach.items l.marks.order.items;
  goals : (s : ℕ) → IsTrue (holds_at l.goal s) → IsTrue (holds_at l.marks.reach.items s);
  leads :
      (s : ℕ) → IsTrue (holds_at l.marks.reach.items s)
      → Leads l.sources.starts.items l.sources.ends.items l.sources.states.items l.goal s;
  closed :
      (k : ℕ) → k < l.turn → (s : ℕ)
      → IsLinked l.sources.starts.items l.sources.ends.items l.sources.states.items s (slice_index l.marks.order.items k)
      → IsTrue (holds_at l.marks.reach.items s);
}

abbrev pub decreases-loop-turn : goal.decreases-loop-turn
decreases-loop-turn l = length l.goal - l.turn
