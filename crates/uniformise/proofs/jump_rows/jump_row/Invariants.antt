use Rattle.std.proofs.Common.{◌≡◌, ◌<◌, ◌-◌, ◌*◌, ◌^◌, ◌++◌, drop}
use Rattle.ctmc_semantics.specs.Chain.{exit_rate}
use Rattle.model_core.specs.Model.{model_chain}
use Rattle.uniformise.specs.JumpRow.{all_times}
use Rattle.uniformise.proofs.UniformRows.{row_entries}
use Rattle.uniformise.proofs.jump_rows.jump_row.Given as goal

abbrev pub invariant-loop-transition : goal.invariant-loop-transition
invariant-loop-transition l = record {
  entries : l.entries.items ++ row_entries l.s l.share (drop l.transition-index (all_times l.factor l.row)) ≡ row_entries l.s
      (l.total - exit_rate (model_chain l.model) l.s * l.factor) (all_times l.factor l.row);
  share : l.share < 2 ^ 63;
}
