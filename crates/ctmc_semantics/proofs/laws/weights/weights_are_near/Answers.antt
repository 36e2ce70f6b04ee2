use Rattle.ctmc_semantics.proofs.WeightsNear.{ordered, capped, near}
use Rattle.ctmc_semantics.proofs.MixBounds.{mode_in}
use Rattle.ctmc_semantics.proofs.laws.weights.weights_are_near.Goals as goal

pub returns-clause-ordered : goal.returns-clause-ordered
returns-clause-ordered c = λ load k pos. ordered load pos k

pub returns-clause-at_most_one : goal.returns-clause-at_most_one
returns-clause-at_most_one c = λ load k pos. capped load pos k

pub returns-clause-near : goal.returns-clause-near
returns-clause-near c = λ load bits k pos l. near load pos bits k (mode_in load pos bits) l
