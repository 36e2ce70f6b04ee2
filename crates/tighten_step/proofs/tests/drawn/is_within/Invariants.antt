use Rattle.std.proofs.Common.{ℕ, ◌<◌, IsTrue}
use Rattle.ctmc_semantics.specs.Sets.{holds_at}
use Rattle.tighten_step.proofs.tests.drawn.is_within.Given as goal

abbrev pub invariant-loop-state : goal.invariant-loop-state
invariant-loop-state l = (s : ℕ) → s < l.state → IsTrue (holds_at l.inner s) → IsTrue (holds_at l.outer s)
