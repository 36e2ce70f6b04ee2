use Rattle.std.proofs.Common.{◌≡◌}
use Rattle.bound_grid.specs.RestingStates.{resting_rows}
use Rattle.bound_grid.proofs.tests.resting_rows.Given as goal

-- the rows so far
abbrev pub invariant-loop-s : goal.invariant-loop-s
invariant-loop-s l = l.rows.items ≡ resting_rows l.s
