use Rattle.std.proofs.Common.{◌≡◌, ◌^◌, ◌++◌, take}
use Rattle.flat_rows.specs.Fractions.{scaled_entries}
use Rattle.flat_rows.proofs.scale.push_scaled.Given as goal

abbrev pub invariant-loop-entry : goal.invariant-loop-entry
invariant-loop-entry l = l.all.items ≡ l.initial.all.items ++ scaled_entries (2 ^ l.shift) (take l.entry-index l.entries)
