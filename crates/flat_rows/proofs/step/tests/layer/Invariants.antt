use Rattle.std.proofs.Common.{◌≡◌, length}
use Rattle.step_core.specs.WordPairs.{ArePairs}
use Rattle.flat_rows.proofs.step.tests.layer.Given as goal

abbrev pub invariant-loop-state : goal.invariant-loop-state
invariant-loop-state l = record {
  states : length l.layer.items ≡ l.state;
  pairs : ArePairs l.layer.items;
}
