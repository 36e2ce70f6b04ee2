use Rattle.std.proofs.Common.{◌≡◌, ◌*◌, length}
use Rattle.flat_rows.specs.NextWords.{HasFixed}
use Rattle.step_core.specs.WordPairs.{ArePairs}
use Rattle.window_engine.specs.PlanLayers.{IsPlanLayer, TookLayers}
use Rattle.window_engine.proofs.run.run_layers.Given as goal

abbrev pub invariant-loop-pair : goal.invariant-loop-pair
invariant-loop-pair l = record {
  even : IsPlanLayer l.plan (2 * l.pair) l.even;
  even_fixed : HasFixed l.plan.frame.sets l.plan.reach 0 l.even;
  even_pairs : ArePairs l.even;
  odd_states : length l.odd ≡ length l.plan.frame.rows;
  odd_fixed : HasFixed l.plan.frame.sets l.plan.reach 0 l.odd;
  odd_pairs : ArePairs l.odd;
  mixers : TookLayers l.plan (2 * l.pair) l.mixers;
}
