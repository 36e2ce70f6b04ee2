-- What is wrong with a `.lab` file over n states, and at which line: the first check that fails, line by line, and word by word.
use Rattle.std.specs.Prelude.{◌≡◌, ℕ, ◌⊎◌, IsTrue, List, [], ◌∷◌, ◌++◌, length, All, Contains}
use Rattle.model_core.specs.StateNumber.{IsState}
use Rattle.model_core.specs.declared.limits.TheConstants.{MOST_LABELS}
use Rattle.text_lines.specs.LinesOf.{end_line_of}
use Rattle.text_lines.specs.Name.{is_name}
use Rattle.text_lines.specs.WordLines.{WordLine, word_lines_of}
use Rattle.text_lines.specs.declared.fault.FileWhat.{FileWhat}
use Rattle.text_lines.specs.declared.fault.FileWhat.TheVariants as what
use Rattle.lab_reader.specs.Declarations.{IsOpening, IsClosing, AreNames, words_in, BeginsWithNames, Declares}
use Rattle.lab_reader.specs.LabelLines.{BeginsWithNumber, IsSomeLabelLine}

-- the first line isn't the opening one
pub record LacksOpening (lines : List WordLine) (number : ℕ) : Type 0 where
  pub first : WordLine
  pub others : List WordLine
  pub split : lines ≡ first ∷ others
  pub other : ¬ IsOpening first
  pub here : number ≡ first.number

-- there is no line, which is told at the end line
pub record HasNoLine (lines : List WordLine) (end number : ℕ) : Type 0 where
  pub none : lines ≡ []
  pub here : number ≡ end

-- all lines are right declarations, and the closing one is missing, which is told at the end line
pub record LacksClosing (lines : List WordLine) (end number : ℕ) : Type 0 where
  pub declarations : List WordLine
  pub begins : BeginsWithNames lines declarations []
  pub here : number ≡ end

-- the first check that a word fails that is to be declared after these names
abbrev pub NameFailsBy : List (List ℕ) → List ℕ → FileWhat → Type 0
NameFailsBy names word what.Name = ¬ IsTrue (is_name word)
NameFailsBy names word what.RepeatedName = IsTrue (is_name word) × Contains names word
NameFailsBy names word what.LabelsRange = IsTrue (is_name word) × (¬ Contains names word) × (length names ≡ MOST_LABELS)
NameFailsBy names word other = ⊥

-- after these names, one of the words fails so, and those before it are right
pub record HasFailingWord (names words : List (List ℕ)) (fault : FileWhat) : Type 0 where
  pub earlier : List (List ℕ)
  pub word : List ℕ
  pub later : List (List ℕ)
  pub split : words ≡ earlier ++ word ∷ later
  pub right : AreNames (names ++ earlier)
  pub fails : NameFailsBy (names ++ earlier) word fault

-- a line of declarations has a word that fails so
pub record HasFailingName (lines : List WordLine) (number : ℕ) (fault : FileWhat) : Type 0 where
  pub declarations : List WordLine
  pub line : WordLine
  pub more : List WordLine
  pub begins : BeginsWithNames lines declarations (line ∷ more)
  pub not_closing : ¬ IsClosing line
  pub word : HasFailingWord (words_in declarations) line.words fault
  pub here : number ≡ line.number

-- the line's number is no state
pub record HasNoState (n : ℕ) (line : WordLine) : Type 0 where
  pub state : ℕ
  pub others : List (List ℕ)
  pub begins : BeginsWithNumber line state others
  pub outside : ¬ IsState n state

-- the line's number is a state, and one of its labels isn't declared
pub record HasUndeclared (n : ℕ) (names : List (List ℕ)) (line : WordLine) : Type 0 where
  pub state : ℕ
  pub labels : List (List ℕ)
  pub begins : BeginsWithNumber line state labels
  pub is_state : IsState n state
  pub undeclared : ¬ All (Contains names) labels

-- the first check that a line of the body fails
abbrev pub LineFailsBy : ℕ → List (List ℕ) → WordLine → FileWhat → Type 0
LineFailsBy n names line what.Word = (number : ℕ) (others : List (List ℕ)) → ¬ BeginsWithNumber line number others
LineFailsBy n names line what.StateRange = HasNoState n line
LineFailsBy n names line what.Undeclared = HasUndeclared n names line
LineFailsBy n names line other = ⊥

-- a line of the body, which has this number, fails so, after lines that are right
pub record BodyFails (n : ℕ) (names : List (List ℕ)) (body : List WordLine) (number : ℕ) (fault : FileWhat) : Type 0 where
  pub front : List WordLine
  pub line : WordLine
  pub more : List WordLine
  pub split : body ≡ front ++ line ∷ more
  pub right : All (IsSomeLabelLine n names) front
  pub fails : LineFailsBy n names line fault
  pub here : number ≡ line.number

-- the declarations are right, and the body fails so
pub record HasFailingLine (n : ℕ) (lines : List WordLine) (number : ℕ) (fault : FileWhat) : Type 0 where
  pub names : List (List ℕ)
  pub body : List WordLine
  pub declares : Declares lines names body
  pub line : BodyFails n names body number fault

-- the lines of a text have this fault at the line of this number
abbrev pub LinesHaveFault : ℕ → List WordLine → ℕ → ℕ → FileWhat → Type 0
LinesHaveFault n lines end number what.Header = HasNoLine lines end number ⊎ (LacksOpening lines number ⊎ LacksClosing lines end number)
LinesHaveFault n lines end number what.Name = HasFailingName lines number what.Name
LinesHaveFault n lines end number what.RepeatedName = HasFailingName lines number what.RepeatedName
LinesHaveFault n lines end number what.LabelsRange = HasFailingName lines number what.LabelsRange
LinesHaveFault n lines end number other = HasFailingLine n lines number other

-- the text of a `.lab` file over n states has this fault at the line of this number, and none before
abbrev pub LabFaultAt : List ℕ → ℕ → ℕ → FileWhat → Type 0
LabFaultAt text n number fault = LinesHaveFault n (word_lines_of text) (end_line_of text) number fault
