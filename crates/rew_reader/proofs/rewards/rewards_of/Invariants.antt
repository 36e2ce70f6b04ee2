use Rattle.std.proofs.Common.{take}
use Rattle.rew_reader.proofs.RewardSums.{AreRewards}
use Rattle.rew_reader.proofs.rewards.rewards_of.Given as goal

abbrev pub invariant-loop-entry : goal.invariant-loop-entry
invariant-loop-entry l = AreRewards l.scale l.n (take l.entry-index l.entries) l.rewards.items
