-- The lines of transitions.
use Rattle.std.specs.Prelude.{◌≡◌, ℕ, List, [], ◌∷◌}
use Rattle.model_core.specs.StateNumber.{IsState}
use Rattle.text_lines.specs.Entries.{Entry, Kind}
use Rattle.text_lines.specs.WholeNumber.{IsWholeNumber}
use Rattle.text_lines.specs.WordLines.{WordLine}

-- the state that is left and the one that is reached, numbered from 1
pub record StatePair : Type 0 where
  pub from : ℕ
  pub to : ℕ

-- a transition as its line writes it: its two states, and its rate
abbrev pub Transition : Type 0
Transition = Entry StatePair

-- the line has three words; the first two write these whole numbers
pub record HasPair (line : WordLine) (pair : StatePair) (rate : List ℕ) : Type 0 where
  pub from_word : List ℕ
  pub to_word : List ℕ
  pub words : line.words ≡ from_word ∷ to_word ∷ rate ∷ []
  pub from_whole : IsWholeNumber from_word pair.from
  pub to_whole : IsWholeNumber to_word pair.to

-- both numbers are states
pub record AreStates (n : ℕ) (pair : StatePair) : Type 0 where
  pub from_state : IsState n pair.from
  pub to_state : IsState n pair.to

-- the lines of the transitions between n states
abbrev pub transition_lines : ℕ → Kind StatePair
transition_lines n = record { Writes = HasPair; IsInRange = AreStates n }
