use Rattle.std.proofs.Common.{◌≡◌, ◌^◌, length, take}
use Rattle.flat_rows.specs.Fractions.{scaled_entries}
use Rattle.flat_rows.proofs.flat_row.FlatRow.scaled.Given as goal

abbrev pub invariant-loop-at : goal.invariant-loop-at
invariant-loop-at g l = record {
  same_length : length l.moved ≡ length l.entries;
  done : take l.at l.moved ≡ scaled_entries (2 ^ l.shift) (take l.at l.entries);
}
