use Rattle.std.proofs.Common.{◌≡◌, ◌<◌, ℕ, length, All}
use Rattle.ctmc_semantics.specs.Uniformised.{uniformised}
use Rattle.model_core.specs.Model.{model_chain}
use Rattle.step_core.specs.FrameLists.{RowLists}
use Rattle.step_core.specs.FrameRows.{number_to, row_at}
use Rattle.step_core.specs.SoundFrame.{IsSoundRow}
use Rattle.uniformise.proofs.uniformised_rows.uniformised_rows.Given as goal

abbrev pub invariant-loop-s : goal.invariant-loop-s
invariant-loop-s l = record {
  states : length l.rows.items ≡ l.s;
  sound : All (IsSoundRow l.model.n) l.rows.items;
  divisors : All (λ (row : RowLists). row.den ≡ l.uniform) l.rows.items;
  numbers : (s t : ℕ) → s < l.s → t < l.model.n
      → number_to (row_at l.rows.items s).entries t ≡ (uniformised (model_chain l.model)).weight s t;
}
