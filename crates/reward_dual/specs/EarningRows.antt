-- What makes the rows of the dual chain.
use Rattle.std.specs.Prelude.{◌≡◌, ℕ, ◌*◌, ◌^◌, ◌<◌}
use Rattle.model_core.specs.Model.{LabelledChain, Rewards}
use Rattle.reward_dual.specs.Deciding.{deciding_rate, deciding_state}
use Rattle.reward_dual.specs.declared.deciding.Earning.{Earning}

-- each state earns, the divisors of all rows fit, and this is the deciding state's exit rate and reward
pub record MakesRows (over : LabelledChain) (rewards : Rewards) (fastest : Earning) : Type 0 where
  pub positive : (s : ℕ) → s < over.chain.states → 0 < rewards.reward s
  pub fits : (s : ℕ) → s < over.chain.states → rewards.reward s * deciding_rate over.chain rewards.reward < 2 ^ 63
  pub exit : fastest.exit ≡ deciding_rate over.chain rewards.reward
  pub reward : fastest.reward ≡ rewards.reward (deciding_state over.chain rewards.reward)
