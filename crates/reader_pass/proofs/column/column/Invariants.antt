use Rattle.std.proofs.Common.{ℕ, ◌<◌}
use Rattle.bound_grid.specs.Passes.{KnowsMore, notes_of}
use Rattle.bound_grid.specs.SealNotes.{NotesColumn}
use Rattle.mix_columns.specs.MixNumbers.{StandsFor}
use Rattle.reader_pass.specs.NotedWords.{AtTables, lower_notes, upper_notes}
use Rattle.reader_pass.proofs.column.column.Given as goal

-- the mixer stands for what the pass knows of the state in the layers so far
abbrev pub invariant-loop-k : goal.invariant-loop-k
invariant-loop-k l = record {
  knows : KnowsMore l.board l.fn.pass l.pass;
  stands :
      StandsFor l.board.plan l.mixer (lower_notes l.board.plan l.s (notes_of l.pass) l.k)
      (upper_notes l.board.plan l.s (notes_of l.pass) l.k);
  sealed :
      NotesColumn l.board.plan (notes_of l.fn.pass) l.s → (j : ℕ) → j < l.k → AtTables l.board.plan l.s (notes_of l.pass) j;
}
