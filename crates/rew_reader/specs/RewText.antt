-- The rewards for which a `.rew` file stands, over n states.
use Rattle.std.specs.Prelude.{◌≡◌, ℕ, ◌+◌, ◌<◌, ◌≤◌, ◌==◌, if◌then◌else◌, List, map, sum_by, All, Any}
use Rattle.std.specs.List.{range_with_len}
use Rattle.decimal_text.specs.Scale.{scaled}
use Rattle.model_core.specs.Files.{RewLists}
use Rattle.model_core.specs.declared.limits.TheConstants.{AMOUNT_LIMIT}
use Rattle.text_lines.specs.Entries.{AreEntries, scale_of}
use Rattle.text_lines.specs.WordLines.{WordLine, word_lines_of}
use Rattle.rew_reader.specs.RewardLines.{StateReward, reward_lines}

-- each reward is below `2^63` at the scale
abbrev pub AreWithin : ℕ → List StateReward → Type 0
AreWithin scale entries = All (λ e. scaled scale e.value < AMOUNT_LIMIT) entries

-- some reward is `2^63` or more at the scale
abbrev pub HasTooLarge : ℕ → List StateReward → Type 0
HasTooLarge scale entries = Any (λ e. AMOUNT_LIMIT ≤ scaled scale e.value) entries

-- the reward of a state, numbered from 0: 0 where it has no line
abbrev pub reward_of : ℕ → List StateReward → ℕ → ℕ
reward_of scale entries s = sum_by (λ e. if e.key == s + 1 then scaled scale e.value else 0) entries

-- the lines stand for the rewards: each line is of a state that has no other, the rewards are taken at the greatest number of decimals,
-- and
-- none is `2^63` or more
pub record LinesSayRew (n : ℕ) (lines : List WordLine) (rew : RewLists) : Type 0 where
  pub entries : List StateReward
  pub are : AreEntries (reward_lines n) lines entries
  pub scale : rew.scale ≡ scale_of entries
  pub within : AreWithin rew.scale entries
  pub rewards : rew.rewards ≡ map (reward_of rew.scale entries) (range_with_len 0 n)

-- the text of a `.rew` file stands for the rewards of n states
abbrev pub RewSays : List ℕ → ℕ → RewLists → Type 0
RewSays text n rew = LinesSayRew n (word_lines_of text) rew
