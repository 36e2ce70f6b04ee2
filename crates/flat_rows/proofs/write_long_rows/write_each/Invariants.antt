use Rattle.std.proofs.Common.{take, map}
use Rattle.flat_rows.specs.Laid.{long_row}
use Rattle.flat_rows.specs.Written.{AreWritten}
use Rattle.step_core.specs.WordPairs.{ArePairs}
use Rattle.flat_rows.proofs.write_long_rows.write_each.Given as goal

abbrev pub invariant-loop-row : goal.invariant-loop-row
invariant-loop-row l = record {
  written : AreWritten l.words (map (long_row l.entries) (take l.row-index l.rows)) l.initial.next l.next;
  pairs : ArePairs l.next;
}
