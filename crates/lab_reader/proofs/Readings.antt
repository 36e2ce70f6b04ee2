-- What the lines of a text say, as a function: labels, or a fault. Nothing else is said by the definitions, and this is.
use Rattle.std.proofs.Common.{◌≡◌, ℕ, List, [], ◌∷◌, ◌++◌, replicate, ap, refl, sym, subst, ◌∙◌, append-nil}
use Rattle.std.specs.List.{All}
use Rattle.std.proofs.lemmas.List.Elements.{All-head, All-tail}
use Rattle.model_core.specs.Files.{LabLists}
use Rattle.text_lines.proofs.FileReadings.{Reading, Says, Faults, IsReading, HasReading}
use Rattle.text_lines.specs.LinesOf.{end_line_of}
use Rattle.text_lines.specs.WordLines.{WordLine, word_lines_of}
use Rattle.text_lines.specs.declared.fault.FileWhat.{FileWhat}
use Rattle.text_lines.specs.declared.fault.FileWhat.TheVariants as what
use Rattle.lab_reader.specs.Declarations.{Declares}
use Rattle.lab_reader.specs.LabelLines.{IsSomeLabelLine}
use Rattle.lab_reader.specs.LabText.{AreMarks, LinesSayLab, LabSays}
use Rattle.lab_reader.specs.LabFault.{LineFailsBy, HasFailingLine, LinesHaveFault, LabFaultAt}
use Rattle.lab_reader.specs.Reading.{GivesMask}
use Rattle.lab_reader.proofs.Marks.{marks_with, one_marks}
use Rattle.lab_reader.proofs.Bodies.{HasMarked, marked_none, marked_more, marked_all, failing_line, body_said, body_faulty}
use Rattle.lab_reader.proofs.HeadCases.{HeadCase, Head, NoHead, IsHeadCase, head_case, head_is, name_fails, header_lacks, head_holds}
use Rattle.lab_reader.proofs.LineCases.{LineCase, Good, Wrong, IsLineCase, line_case, line_case_is, line_case_holds, mask_of, mask_of_is}

abbrev Holds : ℕ → List WordLine → ℕ → Reading LabLists → Type 0
Holds n lines end r = IsReading (LinesSayLab n lines) (LinesHaveFault n lines end) r

-- ---- the lines of the body

abbrev labels_of : List (List ℕ) → List ℕ → LabLists
labels_of names marks = record { names = names; marks = marks }

-- after these marks
unfoldable run : ℕ → List (List ℕ) → List ℕ → List WordLine → Reading LabLists
run n names marks [] = Says (labels_of names marks)
run n names marks (line ∷ lines) =
    elim (line_case n names line) [
      | Good state mask ↦ run n names (marks_with marks state mask) lines
      | Wrong w ↦ Faults line.number w
    ]

run_good : (n : ℕ) (names : List (List ℕ)) (marks : List ℕ) (line : WordLine) (lines : List WordLine) (state mask : ℕ)
    → line_case n names line ≡ Good state mask → run n names marks (line ∷ lines) ≡ run n names (marks_with marks state mask) lines
unfolding run
run_good n names marks line lines state mask e = rw (e, run) refl

run_wrong : (n : ℕ) (names : List (List ℕ)) (marks : List ℕ) (line : WordLine) (lines : List WordLine) (w : FileWhat)
    → line_case n names line ≡ Wrong w → run n names marks (line ∷ lines) ≡ Faults line.number w
unfolding run
run_wrong n names marks line lines w e = rw (e, run) refl

run_ends : (n : ℕ) (names : List (List ℕ)) (marks : List ℕ) → run n names marks [] ≡ Says (labels_of names marks)
unfolding run
run_ends n names marks = refl

-- lines that are right lead on, with some marks
record LeadsOn (n : ℕ) (names : List (List ℕ)) (marks : List ℕ) (lines more : List WordLine) : Type 0 where
  now : List ℕ
  leads : run n names marks lines ≡ run n names now more

lines_front : (n : ℕ) (names : List (List ℕ)) (marks : List ℕ) (front more : List WordLine) → All (IsSomeLabelLine n names) front
    → LeadsOn n names marks (front ++ more) more
lines_front n names marks [] more right = record { now = marks; leads = refl }
lines_front n names marks (line ∷ lines) more right =
    let h = All-head (IsSomeLabelLine n names) line lines right in
    let mask = mask_of names h.labels in
    let g : GivesMask n names line h.state mask = record { labels = h.labels; is = h.is; mask_is = mask_of_is names h.labels } in
    let next = lines_front n names (marks_with marks h.state mask) lines more (All-tail (IsSomeLabelLine n names) line lines right) in
    record {
      now = next.now;
      leads = run_good n names marks line (lines ++ more) h.state mask (line_case_is n names line (Good h.state mask) g) ∙ next.leads;
    }

module _ (n : ℕ) (lines : List WordLine) (end : ℕ) (names : List (List ℕ)) (body : List WordLine) (declares : Declares lines names body)
  where
    -- one line more, by what it is
    at_line : (marks : List ℕ) (line : WordLine) (left : List WordLine) → HasMarked n names body marks (line ∷ left)
        → ((now : List ℕ) → HasMarked n names body now left → Holds n lines end (run n names now left))
        → (c : LineCase) → line_case n names line ≡ c → Holds n lines end (run n names marks (line ∷ left))
    at_line marks line left h next (Good state mask) is =
        let g : GivesMask n names line state mask = subst (IsLineCase n names line) is (line_case_holds n names line) in
        subst (Holds n lines end) (sym (run_good n names marks line left state mask is))
        (next (marks_with marks state mask) (marked_more n names body marks line left state mask h g))
    at_line marks line left h next (Wrong w) is =
        let fails : LineFailsBy n names line w = subst (IsLineCase n names line) is (line_case_holds n names line) in
        subst (Holds n lines end) (sym (run_wrong n names marks line left w is))
        (body_faulty n lines end names body line.number w declares (failing_line n names body marks line left w h fails))

    run_holds : (marks : List ℕ) (left : List WordLine) → HasMarked n names body marks left → Holds n lines end (run n names marks left)
    unfolding run
    run_holds marks [] h = body_said n lines names body marks declares (marked_all n names body marks h)
    run_holds marks (line ∷ left) h =
        at_line marks line left h (λ now. run_holds now left) (line_case n names line) refl

-- ---- the whole text

abbrev by_head : ℕ → HeadCase → Reading LabLists
by_head n (NoHead number w) = Faults number w
by_head n (Head names body) = run n names (replicate n 0) body

reading : ℕ → List WordLine → ℕ → Reading LabLists
reading n lines end = by_head n (head_case lines end)

head_reads : (n : ℕ) (lines : List WordLine) (end : ℕ) (c : HeadCase) → IsHeadCase n lines end c → Holds n lines end (by_head n c)
head_reads n lines end (NoHead number w) h = h
head_reads n lines end (Head names body) h = run_holds n lines end names body h (replicate n 0) body (marked_none n names body)

reading_holds : (n : ℕ) (lines : List WordLine) (end : ℕ) → Holds n lines end (reading n lines end)
unfolding reading
reading_holds n lines end = head_reads n lines end (head_case lines end) (head_holds n lines end)

after_head : (n : ℕ) (lines : List WordLine) (end : ℕ) (names : List (List ℕ)) (body : List WordLine) → Declares lines names body
    → reading n lines end ≡ run n names (replicate n 0) body
unfolding reading
after_head n lines end names body d = ap (by_head n) (head_is lines end names body d)

no_head : (n : ℕ) (lines : List WordLine) (end number : ℕ) (w : FileWhat) → head_case lines end ≡ NoHead number w
    → reading n lines end ≡ Faults number w
unfolding reading
no_head n lines end number w e = ap (by_head n) e

-- lines that stand for labels are read as some labels
record ReadsSome (n : ℕ) (lines : List WordLine) (end : ℕ) : Type 0 where
  lab : LabLists
  reads : reading n lines end ≡ Says lab

says_some : (n : ℕ) (lines : List WordLine) (end : ℕ) (lab : LabLists) → LinesSayLab n lines lab → ReadsSome n lines end
says_some n lines end lab h =
    let on = lines_front n lab.names (replicate n 0) h.body [] h.right in
    record {
      lab = labels_of lab.names on.now;
      reads = after_head n lines end lab.names h.body h.declares
          ∙ ap (run n lab.names (replicate n 0)) (sym (append-nil h.body))
          ∙ on.leads
          ∙ run_ends n lab.names on.now;
    }

failing_is : (n : ℕ) (lines : List WordLine) (end number : ℕ) (w : FileWhat) → HasFailingLine n lines number w
    → reading n lines end ≡ Faults number w
failing_is n lines end number w h =
    let body = h.line in
    let on = lines_front n h.names (replicate n 0) body.front (body.line ∷ body.more) body.right in
    after_head n lines end h.names h.body h.declares
    ∙ ap (run n h.names (replicate n 0)) body.split
    ∙ on.leads
    ∙ run_wrong n h.names on.now body.line body.more w (line_case_is n h.names body.line (Wrong w) body.fails)
    ∙ ap (λ z. Faults z w) (sym body.here)

fault_is : (n : ℕ) (lines : List WordLine) (end number : ℕ) (w : FileWhat) → LinesHaveFault n lines end number w
    → reading n lines end ≡ Faults number w
fault_is n lines end number what.Header h = no_head n lines end number what.Header (header_lacks n lines end number h)
fault_is n lines end number what.Name h = no_head n lines end number what.Name (name_fails lines end number what.Name h)
fault_is n lines end number what.RepeatedName h =
    no_head n lines end number what.RepeatedName (name_fails lines end number what.RepeatedName h)
fault_is n lines end number what.LabelsRange h =
    no_head n lines end number what.LabelsRange (name_fails lines end number what.LabelsRange h)
fault_is n lines end number other h = failing_is n lines end number other h

-- ---- so there is one reading

same_names : (v w : List (List ℕ)) (bs cs : List WordLine) → Head v bs ≡ Head w cs → v ≡ w
same_names v w bs cs e = cc

same_body : (v w : List (List ℕ)) (bs cs : List WordLine) → Head v bs ≡ Head w cs → bs ≡ cs
same_body v w bs cs e = cc

one_lab : (n : ℕ) (lines : List WordLine) (a b : LabLists) → LinesSayLab n lines a → LinesSayLab n lines b → a ≡ b
one_lab n lines a b h k =
    let heads = sym (head_is lines 0 a.names h.body h.declares) ∙ head_is lines 0 b.names k.body k.declares in
    let names : a.names ≡ b.names = same_names a.names b.names h.body k.body heads in
    let bodies : h.body ≡ k.body = same_body a.names b.names h.body k.body heads in
    let here : AreMarks n b.names k.body a.marks =
    subst (λ z. AreMarks n z k.body a.marks) names (subst (λ z. AreMarks n a.names z a.marks) bodies h.marks)
    in
    let marks : a.marks ≡ b.marks = one_marks n b.names k.body a.marks b.marks here k.marks in
    ap (λ z. labels_of z a.marks) names ∙ ap (labels_of b.names) marks

says_is : (n : ℕ) (lines : List WordLine) (end : ℕ) (lab : LabLists) → LinesSayLab n lines lab → reading n lines end ≡ Says lab
says_is n lines end lab h =
    let some = says_some n lines end lab h in
    let said : LinesSayLab n lines some.lab = subst (Holds n lines end) some.reads (reading_holds n lines end) in
    some.reads ∙ ap Says (one_lab n lines some.lab lab said h)

pub lab_reading : (text : List ℕ) (n : ℕ) → HasReading (LabSays text n) (LabFaultAt text n)
lab_reading text n = record {
  reading = reading n (word_lines_of text) (end_line_of text);
  holds = reading_holds n (word_lines_of text) (end_line_of text);
  says = says_is n (word_lines_of text) (end_line_of text);
  faults = fault_is n (word_lines_of text) (end_line_of text);
}
