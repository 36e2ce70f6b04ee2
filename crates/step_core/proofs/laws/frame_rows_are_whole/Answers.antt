use Rattle.step_core.proofs.PlanTableLemmas.{whole_row}
use Rattle.step_core.proofs.laws.frame_rows_are_whole.Goals as goal

pub returns : goal.returns
returns c = whole_row
