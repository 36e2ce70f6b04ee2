use Rattle.std.proofs.Common.{◌∙◌, length, ap, subst, sym}
use Rattle.command_words.specs.declared.command.Options.{Options}
use Rattle.csl_semantics.specs.Meaning.{comparison_of}
use Rattle.csl_syntax.specs.Tree.{tree_of}
use Rattle.csl_syntax.specs.declared.formula.Formula.{Formula}
use Rattle.ctmc_semantics.specs.Fraction.{decimal_fraction}
use Rattle.model_core.specs.Model.{labelled_chain}
use Rattle.report.specs.Answer.{answer_lists}
use Rattle.nested_verdict.specs.EarlyAnswer.{IsAnswerTo}
use Rattle.nested_verdict.specs.ExactAnswer.{IsExactAnswer}
use Rattle.nested_verdict.specs.FormulaAnswer.{first_refusal, formula_answer}
use Rattle.nested_verdict.specs.UntilBrackets.{ShowsUntilAnswers}
use Rattle.nested_verdict.specs.UnwatchedAnswer.{unwatched_answer}
use Rattle.nested_verdict.specs.WatchedBrackets.{IsWatched, watching}
use Rattle.nested_verdict.proofs.AnsweredOperators.{next_is_exact, until_is_exact}
use Rattle.nested_verdict.proofs.FormulaAnswers.{verdicts_counted}
use Rattle.nested_verdict.proofs.PlanCells.{few_cells, plan_sound}
use Rattle.nested_verdict.proofs.UntilWords.{plan_answer}
use Rattle.nested_verdict.proofs.checking.+formulas.Goals as goal

pub operator_answer-next_answer-requires : goal.operator_answer-next_answer-requires
operator_answer-next_answer-requires g t c =
    ap length (c.deref-in-Next.ensures.value ∙ c.in_ok-goal-in-Next.ensures.verdicts)
    ∙ verdicts_counted (labelled_chain c.args.model.now) c.args.options.now (tree_of c.deref.result.now)

pub operator_answer-until_plan-requires-clause-live :
    goal.operator_answer-until_plan-requires-clause-live
operator_answer-until_plan-requires-clause-live g t c =
    ap length (c.deref-in-Until-3.ensures.value ∙ c.in_ok-live-in-Until.ensures.verdicts)
    ∙ verdicts_counted (labelled_chain c.args.model.now) c.args.options.now (tree_of c.deref-in-Until.result.now)

pub operator_answer-until_plan-requires-clause-goal :
    goal.operator_answer-until_plan-requires-clause-goal
operator_answer-until_plan-requires-clause-goal g t c =
    ap length (c.deref-in-Until-4.ensures.value ∙ c.in_ok-goal-in-Until.ensures.verdicts)
    ∙ verdicts_counted (labelled_chain c.args.model.now) c.args.options.now (tree_of c.deref-in-Until-2.result.now)

pub operator_answer-until_answer-requires-clause-sound :
    goal.operator_answer-until_answer-requires-clause-sound
operator_answer-until_answer-requires-clause-sound g t c κs within =
    plan_sound (labelled_chain c.args.model.now) c.args.options.now _ _ c.in-Until.bound c.in_ok-plan-in-Until.ensures.plan

pub operator_answer-until_answer-requires-clause-cells :
    goal.operator_answer-until_answer-requires-clause-cells
operator_answer-until_answer-requires-clause-cells g t c κs within =
    few_cells (labelled_chain c.args.model.now) c.args.options.now _ _ c.in-Until.bound c.in_ok-plan-in-Until.ensures.plan
    c.in_ok-plan-in-Until.ensures.accepted

pub operator_answer-returns-in_ok-next_answer-in-Next-clause-exact :
    goal.operator_answer-returns-in_ok-next_answer-in-Next-clause-exact
operator_answer-returns-in_ok-next_answer-in-Next-clause-exact g t c =
    let over = labelled_chain c.args.model.now in
    let options = c.args.options.now in
    let arm = c.in-Next in
    let verdicts_of = λ (f : Formula). (formula_answer over options (tree_of f)).verdicts in
    let refusal_of = λ (f : Formula). first_refusal over options (tree_of f) in
    let answer = answer_lists c.in_ok-next_answer-in-Next.field-0 in
    subst (λ (f : Formula). IsExactAnswer over (watching options c.args.watch) (tree_of f) answer) (sym arm.is)
    (next_is_exact over options c.args.watch c.requires.options.bits.most c.requires.state arm.op arm.threshold (tree_of arm.operand.value)
    c.deref-in-Next.result.now
    (c.deref-in-Next.ensures.value ∙ c.in_ok-goal-in-Next.ensures.verdicts ∙ ap verdicts_of c.deref.ensures)
    (sym (ap refusal_of c.deref.ensures) ∙ c.in_ok-goal-in-Next.ensures.accepted) answer c.in_ok-next_answer-in-Next.ensures.answer)

pub operator_answer-returns-in_ok-until_answer-in-Until-clause-answer :
    goal.operator_answer-returns-in_ok-until_answer-in-Until-clause-answer
operator_answer-returns-in_ok-until_answer-in-Until-clause-answer g t c =
    let over = labelled_chain c.args.model.now in
    let options = c.args.options.now in
    let arm = c.in-Until in
    let verdicts_of = λ (f : Formula). (formula_answer over options (tree_of f)).verdicts in
    let answer = answer_lists c.in_ok-until_answer-in-Until.field-0 in
    let plan = c.in_ok-plan-in-Until.plan in
    subst (λ (f : Formula). IsAnswerTo options (formula_answer over options (tree_of f)) (unwatched_answer answer)) (sym arm.is)
    (plan_answer over options arm.op arm.threshold (tree_of arm.left.value) (tree_of arm.right.value) c.deref-in-Until-3.result.now
    c.deref-in-Until-4.result.now
    (c.deref-in-Until-3.ensures.value ∙ c.in_ok-live-in-Until.ensures.verdicts ∙ ap verdicts_of c.deref-in-Until.ensures)
    (c.deref-in-Until-4.ensures.value ∙ c.in_ok-goal-in-Until.ensures.verdicts ∙ ap verdicts_of c.deref-in-Until-2.ensures)
    arm.bound c.requires.options.bits.most c.in_ok-plan-in-Until.ensures.accepted plan c.in_ok-plan-in-Until.ensures.plan answer
    (subst (λ (o : Options). ShowsUntilAnswers plan o.until_decided (comparison_of arm.op)
    (decimal_fraction arm.threshold.c arm.threshold.x) answer) c.watching-options.ensures c.in_ok-until_answer-in-Until.ensures.answer))

pub operator_answer-returns-in_ok-until_answer-in-Until-clause-exact :
    goal.operator_answer-returns-in_ok-until_answer-in-Until-clause-exact
operator_answer-returns-in_ok-until_answer-in-Until-clause-exact g t c =
    let over = labelled_chain c.args.model.now in
    let options = c.args.options.now in
    let arm = c.in-Until in
    let verdicts_of = λ (f : Formula). (formula_answer over options (tree_of f)).verdicts in
    let refusal_of = λ (f : Formula). first_refusal over options (tree_of f) in
    let answer = answer_lists c.in_ok-until_answer-in-Until.field-0 in
    let plan = c.in_ok-plan-in-Until.plan in
    subst (λ (f : Formula). IsExactAnswer over (watching options c.args.watch) (tree_of f) answer) (sym arm.is)
    (until_is_exact over options c.args.watch c.requires.options.bits.most c.requires.state arm.op arm.threshold (tree_of arm.left.value)
    c.deref-in-Until-3.result.now
    (c.deref-in-Until-3.ensures.value ∙ c.in_ok-live-in-Until.ensures.verdicts ∙ ap verdicts_of c.deref-in-Until.ensures)
    (sym (ap refusal_of c.deref-in-Until.ensures) ∙ c.in_ok-live-in-Until.ensures.accepted) (tree_of arm.right.value)
    c.deref-in-Until-4.result.now
    (c.deref-in-Until-4.ensures.value ∙ c.in_ok-goal-in-Until.ensures.verdicts ∙ ap verdicts_of c.deref-in-Until-2.ensures)
    (sym (ap refusal_of c.deref-in-Until-2.ensures) ∙ c.in_ok-goal-in-Until.ensures.accepted) arm.bound
    c.in_ok-plan-in-Until.ensures.accepted plan c.in_ok-plan-in-Until.ensures.plan answer
    (subst (λ (o : Options). ShowsUntilAnswers plan o.until_decided (comparison_of arm.op)
    (decimal_fraction arm.threshold.c arm.threshold.x) answer) c.watching-options.ensures c.in_ok-until_answer-in-Until.ensures.answer)
    (subst (λ (o : Options). IsWatched o answer) c.watching-options.ensures c.in_ok-until_answer-in-Until.ensures.watched))

pub verdicts-intersect-requires : goal.verdicts-intersect-requires
verdicts-intersect-requires g t c =
    let over = labelled_chain c.args.model.now in
    let options = c.args.options.now in
    ap length (c.deref_mut-in-And.ensures.value ∙ c.in_ok-both-in-And.ensures.verdicts)
    ∙ verdicts_counted over options (tree_of c.deref-in-And.result.now)
    ∙ sym (ap length (c.deref-in-And-3.ensures.value ∙ c.in_ok-right-in-And.ensures.verdicts)
    ∙ verdicts_counted over options (tree_of c.deref-in-And-2.result.now))

pub verdicts-unite-requires : goal.verdicts-unite-requires
verdicts-unite-requires g t c =
    let over = labelled_chain c.args.model.now in
    let options = c.args.options.now in
    ap length (c.deref_mut-in-Or.ensures.value ∙ c.in_ok-either-in-Or.ensures.verdicts)
    ∙ verdicts_counted over options (tree_of c.deref-in-Or.result.now)
    ∙ sym (ap length (c.deref-in-Or-3.ensures.value ∙ c.in_ok-right-in-Or.ensures.verdicts)
    ∙ verdicts_counted over options (tree_of c.deref-in-Or-2.result.now))
