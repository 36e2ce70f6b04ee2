use Rattle.std.proofs.Common.{◌≡◌, All, length}
use Rattle.step_core.specs.SoundFrame.{IsSoundRow}
use Rattle.tighten_step.proofs.tests.drawn.drawn_rows.Given as goal

abbrev pub invariant-loop-state : goal.invariant-loop-state
invariant-loop-state l = record {
  sound : All (IsSoundRow 300) l.rows.items;
  states : length l.rows.items ≡ l.state;
}
