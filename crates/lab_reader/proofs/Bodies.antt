-- The body of a file, line by line.
use Rattle.std.proofs.Common.{◌≡◌, ℕ, List, [], ◌∷◌, ◌++◌, replicate, refl, sym, subst, ◌∙◌, append_assoc, append-nil}
use Rattle.std.specs.List.{All}
use Rattle.std.proofs.lemmas.List.Elements.{All-nil, All-push}
use Rattle.text_lines.specs.WordLines.{WordLine}
use Rattle.text_lines.specs.declared.fault.FileWhat.{FileWhat}
use Rattle.text_lines.specs.declared.fault.FileWhat.TheVariants as what
use Rattle.lab_reader.specs.Declarations.{Declares}
use Rattle.lab_reader.specs.LabelLines.{IsSomeLabelLine}
use Rattle.lab_reader.specs.LabText.{AreMarks, LinesSayLab}
use Rattle.lab_reader.specs.LabFault.{LineFailsBy, BodyFails, HasFailingLine, LinesHaveFault}
use Rattle.lab_reader.specs.Reading.{GivesMask, GivesMarks}
use Rattle.lab_reader.proofs.Marks.{marks_none, marks_with, marks_more}

-- the lines of the body before those that are left are right, and they give these marks
pub record HasMarked (n : ℕ) (names : List (List ℕ)) (body : List WordLine) (marks : List ℕ) (left : List WordLine) : Type 0 where
  pub front : List WordLine
  pub split : body ≡ front ++ left
  pub right : All (IsSomeLabelLine n names) front
  pub are : AreMarks n names front marks

pub marked_none : (n : ℕ) (names : List (List ℕ)) (body : List WordLine) → HasMarked n names body (replicate n 0) body
marked_none n names body = record { front = []; split = refl; right = All-nil (IsSomeLabelLine n names); are = marks_none n names }

pub marked_more : (n : ℕ) (names : List (List ℕ)) (body : List WordLine) (marks : List ℕ) (line : WordLine) (left : List WordLine)
    (state mask : ℕ)
    → HasMarked n names body marks (line ∷ left) → GivesMask n names line state mask
    → HasMarked n names body (marks_with marks state mask) left
marked_more n names body marks line left state mask h g = record {
  front = h.front ++ line ∷ [];
  split = h.split ∙ sym (append_assoc h.front (line ∷ []) left);
  right = All-push (IsSomeLabelLine n names) h.front line h.right (record { state = state; labels = g.labels; is = g.is });
  are = marks_more n names h.front line state mask marks h.are g;
}

-- all lines were right
pub marked_all : (n : ℕ) (names : List (List ℕ)) (body : List WordLine) (marks : List ℕ) → HasMarked n names body marks []
    → GivesMarks n names body marks
marked_all n names body marks h =
    let same : h.front ≡ body = sym (h.split ∙ append-nil h.front) in
    record {
      right = subst (All (IsSomeLabelLine n names)) same h.right;
      are = subst (λ z. AreMarks n names z marks) same h.are;
    }

-- the next line fails
pub failing_line : (n : ℕ) (names : List (List ℕ)) (body : List WordLine) (marks : List ℕ) (line : WordLine) (left : List WordLine)
    (w : FileWhat)
    → HasMarked n names body marks (line ∷ left) → LineFailsBy n names line w → BodyFails n names body line.number w
failing_line n names body marks line left w h fails =
    record { front = h.front; line = line; more = left; split = h.split; right = h.right; fails = fails; here = refl }

-- the declarations and the body together
pub body_said : (n : ℕ) (lines : List WordLine) (names : List (List ℕ)) (body : List WordLine) (marks : List ℕ) → Declares lines names body
    → GivesMarks n names body marks → LinesSayLab n lines (record { names = names; marks = marks })
body_said n lines names body marks d g = record { body = body; declares = d; right = g.right; marks = g.are }

line_fault_holds : (n : ℕ) (lines : List WordLine) (end number : ℕ) (w : FileWhat) → HasFailingLine n lines number w
    → LinesHaveFault n lines end number w
line_fault_holds n lines end number what.Header h = absurd h.line.fails
line_fault_holds n lines end number what.Name h = absurd h.line.fails
line_fault_holds n lines end number what.RepeatedName h = absurd h.line.fails
line_fault_holds n lines end number what.LabelsRange h = absurd h.line.fails
line_fault_holds n lines end number other h = h

pub body_faulty : (n : ℕ) (lines : List WordLine) (end : ℕ) (names : List (List ℕ)) (body : List WordLine) (number : ℕ) (w : FileWhat)
    → Declares lines names body → BodyFails n names body number w → LinesHaveFault n lines end number w
body_faulty n lines end names body number w d h =
    line_fault_holds n lines end number w (record { names = names; body = body; declares = d; line = h })
