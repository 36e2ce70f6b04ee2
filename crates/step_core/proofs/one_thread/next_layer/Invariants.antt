use Rattle.std.proofs.Common.{◌≡◌, ◌≤◌, ◌<◌, ◌^◌, ℕ, All, length}
use Rattle.std.specs.Prelude.{slice_index}
use Rattle.ctmc_semantics.specs.RoundedTables.{row_low, row_high}
use Rattle.ctmc_semantics.specs.Sets.{holds_at}
use Rattle.step_core.specs.FrameRows.{frame_rows}
use Rattle.step_core.proofs.one_thread.next_layer.Given as goal

abbrev pub invariant-loop-state : goal.invariant-loop-state
invariant-loop-state l = record {
  low_states : length l.next_low.items ≡ length l.rows;
  low :
      (s : ℕ) → s < l.state
      → slice_index l.next_low.items s
      ≡ row_low (frame_rows l.rows) (holds_at l.sets.live_must) (holds_at l.sets.goal_must) (slice_index l.low) s;
  low_words : All (λ w. w ≤ 2 ^ 62) l.next_low.items;
  high_states : length l.next_high.items ≡ length l.rows;
  high :
      (s : ℕ) → s < l.state
      → slice_index l.next_high.items s
      ≡ row_high (frame_rows l.rows) (holds_at l.sets.live_may) (holds_at l.sets.goal_may) (slice_index l.high) s;
  high_words : All (λ w. w ≤ 2 ^ 62) l.next_high.items;
}
