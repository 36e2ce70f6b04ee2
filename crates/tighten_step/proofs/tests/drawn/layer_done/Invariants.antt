use Rattle.bound_grid.specs.Passes.{IsPassOf}
use Rattle.tighten_step.proofs.tests.drawn.layer_done.Given as goal

-- the pass is the board's still
abbrev pub invariant-loop-s : goal.invariant-loop-s
invariant-loop-s l = IsPassOf l.board l.pass
