-- What the reader's own functions say.
use Rattle.std.specs.Prelude.{◌≡◌, ◌≢◌, ℕ, ◌<◌, ◌^◌, ◌==◌, ◌↔◌, IsTrue, List, [], length, map, All, Contains, slice_index_or}
use Rattle.std.specs.Int.{bit_at}
use Rattle.model_core.specs.declared.limits.TheConstants.{MOST_LABELS}
use Rattle.text_lines.specs.Name.{is_name}
use Rattle.text_lines.specs.WordLines.{WordLine}
use Rattle.text_lines.specs.Words.{WordText}
use Rattle.lab_reader.specs.Declarations.{words_in, BeginsWithNames}
use Rattle.lab_reader.specs.LabelLines.{IsLabelLine, IsSomeLabelLine}
use Rattle.lab_reader.specs.LabText.{AreMarks}

-- the words without their columns
abbrev pub bytes_of : List WordText → List (List ℕ)
bytes_of words = map (λ w. w.bytes) words

-- the word can be declared after these names
pub record IsFreshName (names : List (List ℕ)) (word : List ℕ) : Type 0 where
  pub is_name : IsTrue (is_name word)
  pub is_new : ¬ Contains names word
  pub room : length names ≢ MOST_LABELS

-- the file begins with the opening line and declarations of these names, and then come the others
pub record HasNames (lines : List WordLine) (names : List (List ℕ)) (others : List WordLine) : Type 0 where
  pub declarations : List WordLine
  pub begins : BeginsWithNames lines declarations others
  pub are : names ≡ words_in declarations

-- bit j of the mask is 1 exactly where name j is among the labels, and no further bit is 1
pub record IsMaskOf (names labels : List (List ℕ)) (mask : ℕ) : Type 0 where
  pub within : mask < 2 ^ length names
  pub bits : (j : ℕ) → j < length names → IsTrue (bit_at mask j == 1) ↔ Contains labels (slice_index_or names j [])

-- the line gives the state, numbered from 1, labels that have this mask
pub record GivesMask (n : ℕ) (names : List (List ℕ)) (line : WordLine) (state mask : ℕ) : Type 0 where
  pub labels : List (List ℕ)
  pub is : IsLabelLine n names line state labels
  pub mask_is : IsMaskOf names labels mask

-- each line of the body is right, and they give the states these marks
pub record GivesMarks (n : ℕ) (names : List (List ℕ)) (body : List WordLine) (marks : List ℕ) : Type 0 where
  pub right : All (IsSomeLabelLine n names) body
  pub are : AreMarks n names body marks
