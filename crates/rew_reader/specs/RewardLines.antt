-- The lines of states with their rewards.
use Rattle.std.specs.Prelude.{◌≡◌, ℕ, List, [], ◌∷◌}
use Rattle.model_core.specs.StateNumber.{IsState}
use Rattle.text_lines.specs.Entries.{Entry, Kind}
use Rattle.text_lines.specs.WholeNumber.{IsWholeNumber}
use Rattle.text_lines.specs.WordLines.{WordLine}

-- the line has two words; the first writes this whole number
pub record HasNumber (line : WordLine) (number : ℕ) (reward : List ℕ) : Type 0 where
  pub word : List ℕ
  pub words : line.words ≡ word ∷ reward ∷ []
  pub whole : IsWholeNumber word number

-- a state, numbered from 1, and its reward for each unit of time
abbrev pub StateReward : Type 0
StateReward = Entry ℕ

-- the lines of the rewards of n states
abbrev pub reward_lines : ℕ → Kind ℕ
reward_lines n = record { Writes = HasNumber; IsInRange = IsState n }
