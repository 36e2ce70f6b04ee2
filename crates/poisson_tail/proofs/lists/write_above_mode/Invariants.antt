use Rattle.std.proofs.Common.{◌≡◌, ℕ, ◌<◌, slice_index}
use Rattle.ctmc_semantics.specs.Weights.{low_weight, high_weight}
use Rattle.poisson_tail.proofs.lists.write_above_mode.Given as goal

abbrev pub invariant-loop-k : goal.invariant-loop-k
invariant-loop-k l = record {
  low : (j : ℕ) → j < l.k → slice_index l.low j ≡ low_weight l.load j;
  high : (j : ℕ) → j < l.k → slice_index l.high j ≡ high_weight l.load j;
}
