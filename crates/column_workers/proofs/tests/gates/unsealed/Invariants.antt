use Rattle.bound_grid.specs.Passes.{IsPassOf}
use Rattle.column_workers.proofs.tests.gates.unsealed.Given as goal

abbrev pub invariant-loop-b : goal.invariant-loop-b
invariant-loop-b l = IsPassOf l.board l.pass
