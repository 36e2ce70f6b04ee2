use Rattle.std.proofs.Common.{◌≡◌, ℕ, ◌<◌, length, get_or}
use Rattle.model_core.specs.Transitions.{count_before}
use Rattle.model_core.proofs.model.row_starts.Given as goal

abbrev pub invariant-loop-s : goal.invariant-loop-s
invariant-loop-s l = record {
  long : length l.starts.items ≡ l.s;
  begins : (k : ℕ) → k < l.s → get_or l.starts.items k 0 ≡ count_before l.rates k;
}
