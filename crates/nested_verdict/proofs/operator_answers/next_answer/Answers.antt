use Rattle.std.proofs.Common.{◌∙◌, None, [], ap, arith}
use Rattle.std.proofs.lemmas.Result.{IfOk-weaker}
use Rattle.report.specs.Answer.{answer_lists}
use Rattle.report.specs.AnswerText.{IsWritable}
use Rattle.nested_verdict.specs.FormulaAnswer.{shown_answer}
use Rattle.nested_verdict.proofs.FormulaAnswers.{shown_writable}
use Rattle.nested_verdict.proofs.operator_answers.next_answer.Goals as goal

pub returns-clause-writable : goal.returns-clause-writable
returns-clause-writable c =
    let states = c.in_ok-states in
    IfOk-weaker c.shown_answer.result _ (λ answer. IsWritable (answer_lists answer))
    (λ answer is.
    shown_writable states.states.items states.ensures.printable None [] (answer_lists answer) (λ i d l. absurd (omega (arith, l)))
    (is
    ∙ ap (λ ws. shown_answer None ws c.deref-3.result.now) c.new.ensures.items
    ∙ ap (shown_answer None []) c.deref-3.ensures.value))
    c.shown_answer.ensures
