use Rattle.bound_grid.specs.Passes.{KnowsMore}
use Rattle.column_workers.proofs.early.are_enough.Given as goal

abbrev pub invariant-loop-s : goal.invariant-loop-s
invariant-loop-s g l = KnowsMore l.board l.fn.pass l.pass
