use Rattle.std.proofs.Common.{Some, ap, ◌∙◌}
use Rattle.std.proofs.lemmas.Result.{IfOk-weaker}
use Rattle.report.specs.Answer.{answer_lists}
use Rattle.report.specs.AnswerText.{IsWritable}
use Rattle.nested_verdict.specs.FormulaAnswer.{shown_answer}
use Rattle.nested_verdict.proofs.FormulaAnswers.{shown_writable}
use Rattle.nested_verdict.proofs.operator_answers.until_answer.Goals as goal

pub returns-clause-writable : goal.returns-clause-writable
returns-clause-writable g c =
    let last = c.plan.inside.layers in
    let until = c.in_ok-states.field-0 in
    IfOk-weaker c.shown_answer.result _ (λ answer. IsWritable (answer_lists answer))
    (λ answer is.
    shown_writable until.states.items c.in_ok-states.ensures.printable (Some last) until.watched.items (answer_lists answer)
    c.in_ok-states.ensures.watched_printable (is ∙ ap (shown_answer (Some last) until.watched.items) c.deref.ensures.value))
    c.shown_answer.ensures
