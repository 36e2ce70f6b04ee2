use Rattle.std.proofs.Common.{◌≡◌, ℕ, ◌<◌, ◌≤◌, length}
use Rattle.step_core.specs.WordPairs.{words_at}
use Rattle.mix_columns.specs.LayerSums.{sums_at, weighted_sums}
use Rattle.mix_columns.proofs.sums.add_two.Given as goal

abbrev pub invariant-loop-state : goal.invariant-loop-state
invariant-loop-state l = record {
  states : length l.sums ≡ length l.initial.sums;
  done :
      (s : ℕ) → s < l.state
      → sums_at l.sums s
      ≡ weighted_sums (weighted_sums (sums_at l.initial.sums s) l.first_weights (words_at l.first s)) l.second_weights
      (words_at l.second s);
  rest : (s : ℕ) → l.state ≤ s → sums_at l.sums s ≡ sums_at l.initial.sums s;
}
