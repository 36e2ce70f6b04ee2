use Rattle.std.proofs.Common.{◌≡◌, ◌+◌, ◌≤◌}
use Rattle.std.specs.Prelude.{vec_len, vec_capacity}
use Rattle.bound_grid.specs.Passes.{KnowsMore, notes_of}
use Rattle.reader_pass.specs.NotedWords.{noted_words}
use Rattle.column_workers.specs.Hands.{StayTaken}
use Rattle.column_workers.proofs.watching.take_brackets.Given as goal

abbrev pub invariant-loop-i : goal.invariant-loop-i
invariant-loop-i g l = record {
  knows : KnowsMore l.board l.fn.pass l.pass;
  count : vec_len l.watched ≡ vec_len l.fn.watched + l.i;
  room : vec_capacity l.fn.watched ≤ vec_capacity l.watched;
  taken :
      StayTaken l.board.plan l.watch.state (noted_words l.board.plan (notes_of l.fn.pass) l.watch.state)
      (noted_words l.board.plan (notes_of l.pass) l.watch.state) l.fn.watched.items l.watched.items;
}
