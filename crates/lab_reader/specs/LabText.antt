-- The labels for which a `.lab` file stands, over n states.
use Rattle.std.specs.Prelude.{◌≡◌, ℕ, ◌+◌, ◌<◌, ◌^◌, ◌↔◌, IsTrue, List, length, slice_index_or, [], All}
use Rattle.model_core.specs.Files.{LabLists}
use Rattle.model_core.specs.Model.{has_label}
use Rattle.text_lines.specs.WordLines.{WordLine, word_lines_of}
use Rattle.lab_reader.specs.Declarations.{Declares}
use Rattle.lab_reader.specs.LabelLines.{IsSomeLabelLine, GivesLabel}

-- there is a mark for each state, no mark is of a label that isn't declared, and a state, numbered from 0, has a label exactly where a
-- line of
-- the body gives it
pub record AreMarks (n : ℕ) (names : List (List ℕ)) (body : List WordLine) (marks : List ℕ) : Type 0 where
  pub each : length marks ≡ n
  pub within : All (λ mark. mark < 2 ^ length names) marks
  pub given : (s j : ℕ) → s < n → j < length names → IsTrue (has_label marks j s) ↔ GivesLabel body (s + 1) (slice_index_or names j [])

-- the lines stand for the labels: the names that they declare, and the marks that they give
pub record LinesSayLab (n : ℕ) (lines : List WordLine) (lab : LabLists) : Type 0 where
  pub body : List WordLine
  pub declares : Declares lines lab.names body
  pub right : All (IsSomeLabelLine n lab.names) body
  pub marks : AreMarks n lab.names body lab.marks

-- the text of a `.lab` file stands for the labels of n states
abbrev pub LabSays : List ℕ → ℕ → LabLists → Type 0
LabSays text n lab = LinesSayLab n (word_lines_of text) lab
