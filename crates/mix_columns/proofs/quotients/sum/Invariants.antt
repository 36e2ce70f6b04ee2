use Rattle.std.proofs.Common.{◌≡◌, ◌*◌, ◌^◌, ◌≤◌, slice_index}
use Rattle.ctmc_semantics.specs.Sum.{sum_below}
use Rattle.mix_columns.proofs.quotients.sum.Given as goal

abbrev pub invariant-loop-weight : goal.invariant-loop-weight
invariant-loop-weight l = record {
  value : l.sum ≡ sum_below l.weight-index (slice_index l.weights);
  small : l.sum ≤ l.weight-index * 2 ^ 62;
}
