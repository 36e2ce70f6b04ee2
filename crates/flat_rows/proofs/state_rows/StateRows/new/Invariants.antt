use Rattle.std.proofs.Common.{◌≡◌, ℕ, ◌<◌, length}
use Rattle.flat_rows.specs.StateRows.{IsStateRow, state_row_at}
use Rattle.flat_rows.proofs.state_rows.StateRows.new.Given as goal

abbrev pub invariant-loop-state : goal.invariant-loop-state
invariant-loop-state l = record {
  states : length l.all ≡ l.state;
  each : (s : ℕ) → s < l.state → IsStateRow l.rows l.sets l.reach s (state_row_at l.all s);
}
