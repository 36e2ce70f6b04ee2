use Rattle.std.proofs.Common.{◌≡◌, ℕ, ◌<◌, All, Some, length}
use Rattle.model_core.specs.Model.{Rewards, labelled_chain, model_chain}
use Rattle.step_core.specs.FrameRows.{number_to, row_at}
use Rattle.step_core.specs.SoundFrame.{IsSoundRow}
use Rattle.uniformise.specs.JumpRow.{jump_number}
use Rattle.reward_dual.specs.Deciding.{row_factor, row_total}
use Rattle.reward_dual.proofs.dual_rows.dual_frame.Given as goal

abbrev pub invariant-loop-s : goal.invariant-loop-s
invariant-loop-s l = record {
  states : length l.rows.items ≡ l.s;
  sound : All (IsSoundRow l.model.n) l.rows.items;
  divisors : (rewards : Rewards) → (labelled_chain l.model).rewards ≡ Some rewards → (s : ℕ) → s < l.s
      → (row_at l.rows.items s).den ≡ row_total (model_chain l.model) rewards.reward s;
  numbers : (rewards : Rewards) → (labelled_chain l.model).rewards ≡ Some rewards → (s t : ℕ) → s < l.s → t < l.model.n
      → number_to (row_at l.rows.items s).entries t
      ≡ jump_number (model_chain l.model) (row_factor (model_chain l.model) rewards.reward)
      (row_total (model_chain l.model) rewards.reward s) s t;
}
