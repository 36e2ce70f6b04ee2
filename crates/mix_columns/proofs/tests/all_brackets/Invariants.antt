use Rattle.std.proofs.Common.{◌≡◌, ◌<◌, ℕ, List, length}
use Rattle.mix_columns.specs.MixNumbers.{StandsFor}
use Rattle.mix_columns.specs.SideBySide.{mixer_at}
use Rattle.mix_columns.proofs.tests.all_brackets.Given as goal

abbrev pub invariant-loop-layer : goal.invariant-loop-layer
invariant-loop-layer l = record {
  states : length l.mixers ≡ length l.plan.frame.rows;
  took : (s : ℕ) → s < length l.mixers → (xs ys : List ℕ) × (length xs ≡ l.layer) × StandsFor l.plan (mixer_at l.mixers s) xs ys;
}
