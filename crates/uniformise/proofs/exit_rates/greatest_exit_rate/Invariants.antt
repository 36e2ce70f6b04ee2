use Rattle.std.proofs.Common.{◌≡◌, ◌<◌, ◌^◌}
use Rattle.ctmc_semantics.specs.Sum.{max_below}
use Rattle.ctmc_semantics.specs.Chain.{exit_rate}
use Rattle.model_core.specs.Model.{model_chain}
use Rattle.uniformise.proofs.exit_rates.greatest_exit_rate.Given as goal

abbrev pub invariant-loop-s : goal.invariant-loop-s
invariant-loop-s l = record {
  value : l.greatest ≡ max_below l.s (exit_rate (model_chain l.model));
  bound : l.greatest < 2 ^ 63;
}
