use Rattle.bound_grid.specs.Passes.{IsPassOf}
use Rattle.tighten_step.proofs.tests.drawn.sweep_layer.Given as goal

-- the pass is the board's still
abbrev pub invariant-loop-step : goal.invariant-loop-step
invariant-loop-step l = IsPassOf l.board l.pass
