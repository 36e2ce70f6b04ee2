use Rattle.ctmc_semantics.proofs.MixBounds.{mode_in, mode_one, sum_one}
use Rattle.ctmc_semantics.proofs.laws.weights.mode_weighs_one.Goals as goal

pub returns-clause-within : goal.returns-clause-within
returns-clause-within c = λ load bits pos. mode_in load pos bits

pub returns-clause-one : goal.returns-clause-one
returns-clause-one c = mode_one

pub returns-clause-sum : goal.returns-clause-sum
returns-clause-sum c = λ load bits pos. sum_one load pos bits
