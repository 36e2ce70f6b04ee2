use Rattle.std.proofs.Common.{◌≡◌, ℕ, ◌<◌}
use Rattle.bound_grid.specs.Passes.{KnowsMore, seal_note}
use Rattle.column_workers.proofs.sure.make_sure.Given as goal

abbrev pub invariant-loop-b : goal.invariant-loop-b
invariant-loop-b l = record {
  knows : KnowsMore l.board l.fn.pass l.pass;
  sealed : (c : ℕ) → c < l.b → seal_note l.board l.pass l.k c ≡ 1;
}
