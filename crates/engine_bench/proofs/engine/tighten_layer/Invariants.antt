use Rattle.bound_grid.specs.Passes.{IsPassOf}
use Rattle.engine_bench.proofs.engine.tighten_layer.Given as goal

-- the pass is the board's still
abbrev pub invariant-loop-b : goal.invariant-loop-b
invariant-loop-b l = IsPassOf l.board l.pass
