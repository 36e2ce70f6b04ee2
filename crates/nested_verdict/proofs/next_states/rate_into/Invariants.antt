use Rattle.std.proofs.Common.{◌≡◌, ◌≤◌, take}
use Rattle.std.specs.List.{sum_by}
use Rattle.ctmc_semantics.specs.Sets.{holds_at}
use Rattle.model_core.specs.Transitions.{sum_into}
use Rattle.nested_verdict.proofs.next_states.rate_into.Given as goal

abbrev pub invariant-loop-transition : goal.invariant-loop-transition
invariant-loop-transition l = record {
  into : l.sum ≡ sum_into (holds_at l.goal) (take l.transition-index l.transition-items);
  within : l.sum ≤ sum_by (λ r. r.rate) (take l.transition-index l.transition-items);
}
