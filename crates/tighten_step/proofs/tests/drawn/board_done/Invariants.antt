use Rattle.bound_grid.specs.Passes.{IsPassOf}
use Rattle.tighten_step.proofs.tests.drawn.board_done.Given as goal

-- the pass is the board's still
abbrev pub invariant-loop-k : goal.invariant-loop-k
invariant-loop-k l = IsPassOf l.board l.pass
