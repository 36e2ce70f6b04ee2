use Rattle.std.proofs.Common.{◌≡◌, ℕ, List, length}
use Rattle.mix_columns.specs.MixNumbers.{StandsFor}
use Rattle.window_engine.proofs.tests.mixed.Given as goal

abbrev pub invariant-loop-layer : goal.invariant-loop-layer
invariant-loop-layer l = (xs ys : List ℕ) × (length xs ≡ l.layer) × StandsFor l.plan l.mixer xs ys
