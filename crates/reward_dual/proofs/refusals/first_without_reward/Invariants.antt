use Rattle.std.proofs.Common.{◌≡◌, Some, None}
use Rattle.model_core.specs.Model.{Rewards, labelled_chain}
use Rattle.reward_dual.specs.RewardRefusal.{first_below, earns_nothing}
use Rattle.reward_dual.proofs.refusals.first_without_reward.Given as goal

abbrev pub invariant-loop-s : goal.invariant-loop-s
invariant-loop-s l = (rewards : Rewards) → (labelled_chain l.model).rewards ≡ Some rewards → first_below l.s (earns_nothing rewards) ≡ None
