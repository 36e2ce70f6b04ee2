use Rattle.std.proofs.Common.{◌≡◌, ℕ, List, ap, sym, subst, ◌∙◌}
use Rattle.std.proofs.lemmas.Result.{err_from_is_err_and}
use Rattle.model_core.specs.Files.{LabLists}
use Rattle.text_lines.proofs.Telling.{told_weaker}
use Rattle.text_lines.specs.LinesOf.{end_line_of}
use Rattle.text_lines.specs.WordLines.{word_lines_in, word_lines_of}
use Rattle.lab_reader.specs.Declarations.{Declares}
use Rattle.lab_reader.specs.LabFault.{LabFaultAt, BodyFails}
use Rattle.lab_reader.specs.LabText.{LabSays}
use Rattle.lab_reader.proofs.Bodies.{body_said, body_faulty}
use Rattle.lab_reader.proofs.Heads.{of_declarations}
use Rattle.lab_reader.proofs.reader.read_lines.Goals as goal

pub returns-in_err-take_opening-clause-fault : goal.returns-in_err-take_opening-clause-fault
returns-in_err-take_opening-clause-fault c =
    let p = err_from_is_err_and c.from_residual.result c.from_residual.ensures.1 in
    rw (p.1, p.2) (of_declarations c.args.bytes.now c.args.n c.in_err-take_opening.field-0.0 c.in_err-take_opening.ensures)

pub returns-in_err-names-clause-fault : goal.returns-in_err-names-clause-fault
returns-in_err-names-clause-fault c =
    let p = err_from_is_err_and c.from_residual-in_err-names.result c.from_residual-in_err-names.ensures.1 in
    rw (p.1, p.2) (of_declarations c.args.bytes.now c.args.n c.in_err-names.field-0.0 c.in_err-names.ensures)

pub returns-in_err-marks-clause-fault : goal.returns-in_err-marks-clause-fault
returns-in_err-marks-clause-fault c =
    let text = c.args.bytes.now in
    let n = c.args.n in
    let p = err_from_is_err_and c.from_residual-in_err-marks.result c.from_residual-in_err-marks.ensures.1 in
    let lines = word_lines_of text in
    let body = word_lines_in c.read_names.new.rest in
    let names = c.deref.result.now in
    let declares : Declares lines names body = subst (λ z. Declares lines z body) (sym c.deref.ensures.value) c.in_ok-names.ensures in
    rw (p.1, p.2)
    (told_weaker (BodyFails n names body) (LabFaultAt text n)
    (λ number w f. body_faulty n lines (end_line_of text) names body number w declares f) c.in_err-marks.field-0.0
    c.in_err-marks.ensures)

pub returns-clause-value : goal.returns-clause-value
returns-clause-value c =
    let text = c.args.bytes.now in
    let n = c.args.n in
    let marks = c.in_ok-marks.marks.items in
    let with_names : List (List ℕ) → LabLists = λ z. record { names = z; marks = marks } in
    let same : with_names c.deref.result.now ≡ c.new.result = ap with_names c.deref.ensures.value ∙ sym c.new.ensures in
    let lines = word_lines_of text in
    let body = word_lines_in c.read_names.new.rest in
    let names = c.deref.result.now in
    let declares : Declares lines names body = subst (λ z. Declares lines z body) (sym c.deref.ensures.value) c.in_ok-names.ensures in
    subst (LabSays text n) same (body_said n lines names body marks declares c.in_ok-marks.ensures)
