use Rattle.bound_grid.specs.Passes.{IsPassOf}
use Rattle.column_workers.proofs.tests.gates.all_unsealed.Given as goal

abbrev pub invariant-loop-k : goal.invariant-loop-k
invariant-loop-k l = IsPassOf l.board l.pass
