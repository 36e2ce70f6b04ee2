use Rattle.bound_grid.specs.Passes.{IsPassOf}
use Rattle.reader_pass.proofs.tests.sealed_layers.Given as goal

-- the pass is the board's still
abbrev pub invariant-loop-k : goal.invariant-loop-k
invariant-loop-k l = IsPassOf l.board l.pass
