use Rattle.std.proofs.Common.{◌≡◌, ◌+◌}
use Rattle.bound_grid.specs.Passes.{IsPassOf, draws_of}
use Rattle.bound_grid.proofs.tests.draw_some.Given as goal

-- the pass is the board's still, and took a draw each time
abbrev pub invariant-loop : goal.invariant-loop
invariant-loop l = record {
  pass : IsPassOf l.board l.pass;
  draws : draws_of l.pass + l.counter ≡ draws_of l.fn.pass;
}
