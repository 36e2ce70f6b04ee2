use Rattle.std.proofs.Common.{ℕ, ◌<◌}
use Rattle.bound_grid.specs.Passes.{KnowsMore, notes_of}
use Rattle.bound_grid.specs.SealNotes.{NotesLayer}
use Rattle.column_workers.proofs.sure.make_sure_from.Given as goal

abbrev pub invariant-loop-k : goal.invariant-loop-k
invariant-loop-k l = record {
  knows : KnowsMore l.board l.fn.pass l.pass;
  sealed : (j : ℕ) → j < l.k → NotesLayer l.board.plan (notes_of l.pass) j;
}
