use Rattle.std.proofs.Common.{arith}
use Rattle.std.proofs.lemmas.List.Sums.{sum_by_more_le}
use Rattle.step_core.proofs.row_value.both_dots.Goals as goal

-- the numbers so far and the next one are within the row's sum
pub add-requires-clause-room : goal.add-requires-clause-room
add-requires-clause-room c =
    omega (
      arith,
      c.requires.fits,
      sum_by_more_le (λ e. e.num) c.args.entries.now c.loop-entry.entry-index record { to = 0; num = 0 } (omega arith),
    )
