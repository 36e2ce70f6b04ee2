use Rattle.ctmc_semantics.proofs.Thresholds.{opposite_not}
use Rattle.ctmc_semantics.proofs.laws.comparisons_are_complements.Goals as goal

pub returns : goal.returns
returns c = opposite_not
