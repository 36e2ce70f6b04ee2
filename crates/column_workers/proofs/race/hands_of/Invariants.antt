use Rattle.std.proofs.Common.{◌≡◌, ◌+◌, ◌*◌}
use Rattle.std.specs.Prelude.{vec_len}
use Rattle.std.specs.List.{range_with_len}
use Rattle.bound_grid.specs.Passes.{IsPassOf, draws_of, notes_of}
use Rattle.column_workers.specs.Hands.{AreReady, numbers}
use Rattle.step_core.specs.declared.draws.TheConstants.{SPLIT_DRAWS}
use Rattle.column_workers.proofs.race.hands_of.Given as goal

abbrev pub invariant-loop-number : goal.invariant-loop-number
invariant-loop-number l = record {
  pass : IsPassOf l.board l.pass;
  kept : notes_of l.pass ≡ notes_of l.fn.pass;
  draws : draws_of l.pass + l.number * SPLIT_DRAWS ≡ draws_of l.fn.pass;
  count : vec_len l.hands ≡ l.number;
  ready : AreReady l.board l.hands.items;
  numbers : numbers l.hands.items ≡ range_with_len 0 l.number;
}
