use Rattle.std.proofs.Common.{◌≡◌, Some, None}
use Rattle.model_core.specs.Model.{Rewards, labelled_chain}
use Rattle.reward_dual.specs.RewardRefusal.{first_below, passes_range}
use Rattle.reward_dual.proofs.refusals.first_past_range.Given as goal

abbrev pub invariant-loop-s : goal.invariant-loop-s
invariant-loop-s l = (rewards : Rewards) → (labelled_chain l.model).rewards ≡ Some rewards → first_below l.s (passes_range (labelled_chain l.model) rewards) ≡ None
