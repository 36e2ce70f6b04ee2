use Rattle.std.proofs.Common.{take}
use Rattle.mix_columns.specs.MixNumbers.{StandsFor}
use Rattle.mix_columns.proofs.tests.taken.Given as goal

abbrev pub invariant-loop-layer : goal.invariant-loop-layer
invariant-loop-layer l = StandsFor l.plan l.mixer (take l.layer l.low) (take l.layer l.high)
