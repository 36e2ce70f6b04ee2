use Rattle.std.proofs.Common.{◌≡◌, ◌<◌, ◌^◌, Some}
use Rattle.ctmc_semantics.specs.Chain.{exit_rate}
use Rattle.model_core.specs.Model.{Rewards, labelled_chain, model_chain}
use Rattle.reward_dual.specs.Deciding.{fastest_below}
use Rattle.reward_dual.proofs.deciding.fastest_state.Given as goal

abbrev pub invariant-loop-s : goal.invariant-loop-s
invariant-loop-s l = record {
  exit : (rewards : Rewards) → (labelled_chain l.model).rewards ≡ Some rewards
      → l.fastest.exit ≡ exit_rate (model_chain l.model) (fastest_below (model_chain l.model) rewards.reward l.s);
  reward : (rewards : Rewards) → (labelled_chain l.model).rewards ≡ Some rewards
      → l.fastest.reward ≡ rewards.reward (fastest_below (model_chain l.model) rewards.reward l.s);
  exit_fits : l.fastest.exit < 2 ^ 63;
  reward_fits : l.fastest.reward < 2 ^ 63;
}
