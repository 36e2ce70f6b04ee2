use Rattle.std.proofs.Common.{suc, ◌≤◌, arith}
use Rattle.ctmc_semantics.specs.Sum.{sum_below}
use Rattle.ctmc_semantics.specs.RoundedTables.{one_word}
use Rattle.ctmc_semantics.specs.Weights.{low_weight, high_weight}
use Rattle.ctmc_semantics.specs.Horizon.{horizon}
use Rattle.ctmc_semantics.proofs.Sums.{sum_below-le}
use Rattle.ctmc_semantics.proofs.WeightsNear.{ordered}
use Rattle.ctmc_semantics.proofs.MixBounds.{sum_one}
use Rattle.ctmc_semantics.proofs.MixNarrow.{mix_low_rises, mix_high_rises}
use Rattle.ctmc_semantics.proofs.laws.mix.mix_rises.Goals as goal

pub returns-clause-low : goal.returns-clause-low
returns-clause-low c = λ load bits x y pos h.
    let some : one_word ≤ sum_below (suc (horizon load bits)) (high_weight load) =
    omega (
      arith,
      sum_one load pos bits,
      sum_below-le (suc (horizon load bits)) (low_weight load) (high_weight load) (λ k l. ordered load pos k),
    ) in
    mix_low_rises (horizon load bits) (low_weight load) (high_weight load) x y some h

pub returns-clause-high : goal.returns-clause-high
returns-clause-high c = λ load bits x y pos h.
    mix_high_rises (horizon load bits) bits (low_weight load) (high_weight load) x y (sum_one load pos bits) h
