use Rattle.std.specs.Prelude.{◌≡◌, IsTrue}
use Rattle.bound_grid.specs.Passes.{KnowsMore, notes_of}
use Rattle.step_core.specs.Limits.{sizes_of}
use Rattle.tighten_step.proofs.SeenSeals.{Seen}
use Rattle.tighten_step.proofs.layer.see_layer.Given as goal

abbrev pub invariant-loop-b : goal.invariant-loop-b
invariant-loop-b l = record {
  knows : KnowsMore l.board l.initial.pass l.pass;
  first : l.k ≡ 0 → IsTrue l.all;
  seen : Seen (sizes_of l.board.plan) l.k l.b (notes_of l.pass) l.all;
}
