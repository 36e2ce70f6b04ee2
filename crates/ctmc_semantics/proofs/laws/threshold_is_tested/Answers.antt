use Rattle.ctmc_semantics.proofs.Thresholds.{test_right}
use Rattle.ctmc_semantics.proofs.laws.threshold_is_tested.Goals as goal

pub returns : goal.returns
returns c = test_right
