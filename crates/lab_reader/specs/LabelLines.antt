-- The lines of states with their labels.
use Rattle.std.specs.Prelude.{◌≡◌, ℕ, List, ◌∷◌, All, Contains}
use Rattle.model_core.specs.StateNumber.{IsState}
use Rattle.text_lines.specs.WholeNumber.{IsWholeNumber}
use Rattle.text_lines.specs.WordLines.{WordLine}

-- the first word of the line writes the number, and then come the others
pub record BeginsWithNumber (line : WordLine) (number : ℕ) (others : List (List ℕ)) : Type 0 where
  pub word : List ℕ
  pub words : line.words ≡ word ∷ others
  pub whole : IsWholeNumber word number

-- the line gives the state, numbered from 1, these labels, each of which is declared
pub record IsLabelLine (n : ℕ) (names : List (List ℕ)) (line : WordLine) (state : ℕ) (labels : List (List ℕ)) : Type 0 where
  pub begins : BeginsWithNumber line state labels
  pub is_state : IsState n state
  pub declared : All (Contains names) labels

-- the line gives some state some labels
pub record IsSomeLabelLine (n : ℕ) (names : List (List ℕ)) (line : WordLine) : Type 0 where
  pub state : ℕ
  pub labels : List (List ℕ)
  pub is : IsLabelLine n names line state labels

-- one of the lines gives the state this label
pub record GivesLabel (lines : List WordLine) (state : ℕ) (name : List ℕ) : Type 0 where
  pub line : WordLine
  pub there : Contains lines line
  pub labels : List (List ℕ)
  pub begins : BeginsWithNumber line state labels
  pub among : Contains labels name
