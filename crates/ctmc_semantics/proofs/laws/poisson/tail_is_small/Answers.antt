use Rattle.std.proofs.Common.{◌*◌}
use Rattle.std.specs.Int.{div_ceil}
use Rattle.ctmc_semantics.specs.JumpValue.{jump_value}
use Rattle.ctmc_semantics.proofs.JumpsRise.{jump_value_capped}
use Rattle.ctmc_semantics.proofs.TailLemmas.{poisson_tail}
use Rattle.ctmc_semantics.proofs.HorizonLemmas.{average_tail}
use Rattle.ctmc_semantics.proofs.OneStep.{twice_load}
use Rattle.ctmc_semantics.proofs.laws.poisson.tail_is_small.Goals as goal

pub returns-clause-weights : goal.returns-clause-weights
returns-clause-weights c = λ load bits more pos.
    poisson_tail load.num load.den (div_ceil (2 * load.num) load.den) bits more pos (twice_load load pos)

pub returns-clause-averages : goal.returns-clause-averages
returns-clause-averages c = λ j load live set bits more s h l pos.
    average_tail load.num load.den j.total (λ k. jump_value j live set k s) (λ k. jump_value_capped j h live set k s l)
    (div_ceil (2 * load.num) load.den) bits more pos (twice_load load pos)
