use Rattle.bound_grid.specs.Passes.{IsPassOf}
use Rattle.engine_bench.proofs.engine.tighten_all.Given as goal

-- the pass is the board's still
abbrev pub invariant-loop-k : goal.invariant-loop-k
invariant-loop-k l = IsPassOf l.board l.pass
