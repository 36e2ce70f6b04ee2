-- What is wrong with a `.tra` file, and at which line: the first check that fails, line by line.
use Rattle.std.specs.Prelude.{◌≡◌, ℕ, ◌<◌, ◌⊎◌, List, [], ◌∷◌, ◌++◌, length, codes}
use Rattle.model_core.specs.declared.limits.TheConstants.{MOST_TRANSITIONS}
use Rattle.text_lines.specs.Entries.{AreEntries}
use Rattle.text_lines.specs.EntryFault.{HasFailingLine, HasLinePast}
use Rattle.text_lines.specs.LinesOf.{end_line_of}
use Rattle.text_lines.specs.WordLines.{WordLine, word_lines_of}
use Rattle.text_lines.specs.declared.fault.FileWhat.{FileWhat}
use Rattle.text_lines.specs.declared.fault.FileWhat.TheVariants as what
use Rattle.tra_reader.specs.Entries.{Transition, transition_lines}
use Rattle.tra_reader.specs.Head.{BeginsWithCount, IsStateCount, HasStates, HasHead}
use Rattle.tra_reader.specs.TraText.{AreWithin, HasTooLarge}

-- the number of the first of the lines, or the end line where there is none
abbrev pub line_or_end : List WordLine → ℕ → ℕ
line_or_end [] end = end
line_or_end (line ∷ lines) end = line.number

-- the first of the lines isn't this keyword and a whole number, or isn't there
pub record LacksCount (keyword : List ℕ) (lines : List WordLine) (end number : ℕ) : Type 0 where
  pub lacks : (count : ℕ) (others : List WordLine) → ¬ BeginsWithCount keyword lines count others
  pub here : number ≡ line_or_end lines end

-- the line of the states is right, and the one of the transitions is wrong
pub record LacksTransitions (lines : List WordLine) (end number : ℕ) : Type 0 where
  pub n : ℕ
  pub others : List WordLine
  pub states : HasStates lines n others
  pub lacks : LacksCount (codes "TRANSITIONS") others end number

-- the number of states is out of range
pub record StatesOutOfRange (lines : List WordLine) (number : ℕ) : Type 0 where
  pub n : ℕ
  pub others : List WordLine
  pub begins : BeginsWithCount (codes "STATES") lines n others
  pub outside : ¬ IsStateCount n
  pub here : number ≡ begins.line.number

-- the number of transitions is out of range
pub record TransitionsOutOfRange (lines : List WordLine) (number : ℕ) : Type 0 where
  pub n : ℕ
  pub others : List WordLine
  pub states : HasStates lines n others
  pub count : ℕ
  pub body : List WordLine
  pub begins : BeginsWithCount (codes "TRANSITIONS") others count body
  pub outside : MOST_TRANSITIONS < count
  pub here : number ≡ begins.line.number

-- the head is right
pub record HasBody (lines : List WordLine) : Type 0 where
  pub n : ℕ
  pub count : ℕ
  pub body : List WordLine
  pub head : HasHead lines n count body

-- one of the lines that must write transitions fails so
pub record HasWrongLine (lines : List WordLine) (number : ℕ) (fault : FileWhat) : Type 0 where
  pub after : HasBody lines
  pub line : HasFailingLine (transition_lines after.n) after.body number fault
  pub due : length line.front < after.count

-- there are fewer lines of transitions than the head says
pub record HasTooFew (lines : List WordLine) (end number : ℕ) : Type 0 where
  pub after : HasBody lines
  pub entries : List Transition
  pub are : AreEntries (transition_lines after.n) after.body entries
  pub short : length after.body < after.count
  pub here : number ≡ end

-- there is a line after those that the head says
pub record HasTooMany (lines : List WordLine) (number : ℕ) : Type 0 where
  pub after : HasBody lines
  pub front : List WordLine
  pub line : WordLine
  pub more : List WordLine
  pub split : after.body ≡ front ++ line ∷ more
  pub entries : List Transition
  pub are : AreEntries (transition_lines after.n) front entries
  pub full : length front ≡ after.count
  pub here : number ≡ line.number

-- all lines are right, and this is the first at which the rates out of its state add up to `2^63` or more
pub record HasRatesOutOfRange (lines : List WordLine) (number : ℕ) : Type 0 where
  pub after : HasBody lines
  pub full : length after.body ≡ after.count
  pub past : HasLinePast (transition_lines after.n) AreWithin HasTooLarge after.body number

-- the lines of a text have this fault at the line of this number
abbrev pub LinesHaveFault : List WordLine → ℕ → ℕ → FileWhat → Type 0
LinesHaveFault lines end number what.Header = LacksCount (codes "STATES") lines end number ⊎ LacksTransitions lines end number
LinesHaveFault lines end number what.StatesRange = StatesOutOfRange lines number
LinesHaveFault lines end number what.TransitionsRange = TransitionsOutOfRange lines number
LinesHaveFault lines end number what.Count = HasTooFew lines end number ⊎ HasTooMany lines number
LinesHaveFault lines end number what.RateRange = HasRatesOutOfRange lines number
LinesHaveFault lines end number other = HasWrongLine lines number other

-- the text of a `.tra` file has this fault at the line of this number, and none before
abbrev pub TraFaultAt : List ℕ → ℕ → FileWhat → Type 0
TraFaultAt text number fault = LinesHaveFault (word_lines_of text) (end_line_of text) number fault
