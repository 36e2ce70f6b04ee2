-- The two lines that begin a `.tra` file. Lines that are blank don't count here.
use Rattle.std.specs.Prelude.{◌≡◌, ℕ, ◌≤◌, List, [], ◌∷◌, codes}
use Rattle.model_core.specs.StateNumber.{IsState}
use Rattle.model_core.specs.declared.limits.TheConstants.{MOST_STATES, MOST_TRANSITIONS}
use Rattle.text_lines.specs.WholeNumber.{IsWholeNumber}
use Rattle.text_lines.specs.WordLines.{WordLine}

-- the line has two words, this keyword and one that writes the count
pub record SaysCount (keyword : List ℕ) (words : List (List ℕ)) (count : ℕ) : Type 0 where
  pub word : List ℕ
  pub are : words ≡ keyword ∷ word ∷ []
  pub whole : IsWholeNumber word count

-- the first of the lines says the count after the keyword, and then come the others
pub record BeginsWithCount (keyword : List ℕ) (lines : List WordLine) (count : ℕ) (others : List WordLine) : Type 0 where
  pub line : WordLine
  pub first : lines ≡ line ∷ others
  pub says : SaysCount keyword line.words count

-- there may be 1 to 65,536 states
abbrev pub IsStateCount : ℕ → Type 0
IsStateCount n = IsState MOST_STATES n

-- the first line says how many states there are, and their number is in range
pub record HasStates (lines : List WordLine) (n : ℕ) (others : List WordLine) : Type 0 where
  pub begins : BeginsWithCount (codes "STATES") lines n others
  pub range : IsStateCount n

-- the second line says how many transitions there are, and their number is in range; the body follows
pub record HasHead (lines : List WordLine) (n count : ℕ) (body : List WordLine) : Type 0 where
  pub others : List WordLine
  pub states : HasStates lines n others
  pub begins : BeginsWithCount (codes "TRANSITIONS") others count body
  pub few : count ≤ MOST_TRANSITIONS
