-- What is wrong with lines of entries: the first check that fails, line by line.
use Rattle.std.specs.Prelude.{◌≡◌, ℕ, List, [], ◌∷◌, ◌++◌, length, Contains}
use Rattle.decimal_text.specs.DecimalWord.{HasNumberFault}
use Rattle.decimal_text.specs.declared.number_fault.NumberFault.{NumberFault}
use Rattle.text_lines.specs.Entries.{Entry, Kind, HasKey, IsEntry, AreEntries, keys_of, scale_of}
use Rattle.text_lines.specs.WordLines.{WordLine}
use Rattle.text_lines.specs.declared.fault.FileWhat.{FileWhat}
use Rattle.text_lines.specs.declared.fault.FileWhat.TheVariants as what

-- the line's key is out of range
pub record HasKeyOutOfRange {Key : Type 0} (kind : Kind Key) (line : WordLine) : Type 0 where
  pub key : Key
  pub word : List ℕ
  pub writes : kind.Writes line key word
  pub outside : ¬ kind.IsInRange key

-- the word after the line's key has this fault as a number
pub record HasValueFault {Key : Type 0} (kind : Kind Key) (line : WordLine) (fault : NumberFault) : Type 0 where
  pub key : Key
  pub word : List ℕ
  pub has : HasKey kind line key word
  pub is : HasNumberFault word fault

-- the line's key is that of an earlier entry
pub record RepeatsKey {Key : Type 0} (kind : Kind Key) (entries : List (Entry Key)) (line : WordLine) : Type 0 where
  pub entry : Entry Key
  pub is : IsEntry kind line entry
  pub earlier : Contains (keys_of entries) entry.key

-- the first check that a line fails, after these entries
abbrev pub FailsBy : {Key : Type 0} → Kind Key → List (Entry Key) → WordLine → FileWhat → Type 0
FailsBy {Key} kind entries line what.Word = (key : Key) (word : List ℕ) → ¬ kind.Writes line key word
FailsBy kind entries line what.StateRange = HasKeyOutOfRange kind line
FailsBy kind entries line (what.Number fault) = HasValueFault kind line fault
FailsBy kind entries line what.Repeated = RepeatsKey kind entries line
FailsBy kind entries line other = ⊥

-- one of the lines fails so, after lines that are right
pub record HasFailingLine {Key : Type 0} (kind : Kind Key) (lines : List WordLine) (number : ℕ) (fault : FileWhat) : Type 0 where
  pub front : List WordLine
  pub line : WordLine
  pub more : List WordLine
  pub entries : List (Entry Key)
  pub split : lines ≡ front ++ line ∷ more
  pub are : AreEntries kind front entries
  pub fails : FailsBy kind entries line fault
  pub here : number ≡ line.number

-- all lines are right, and this is the first that goes past a limit at the scale of them all: the entries before its own are within it
pub record HasLinePast {Key : Type 0} (kind : Kind Key) (IsWithin IsPast : ℕ → List (Entry Key) → Type 0)
    (lines : List WordLine) (number : ℕ) : Type 0 where
  pub earlier : List WordLine
  pub line : WordLine
  pub later : List WordLine
  pub before : List (Entry Key)
  pub entry : Entry Key
  pub after : List (Entry Key)
  pub split : lines ≡ earlier ++ line ∷ later
  pub are : AreEntries kind lines (before ++ entry ∷ after)
  pub place : length earlier ≡ length before
  pub within : IsWithin (scale_of (before ++ entry ∷ after)) before
  pub past : IsPast (scale_of (before ++ entry ∷ after)) (before ++ entry ∷ [])
  pub here : number ≡ line.number
