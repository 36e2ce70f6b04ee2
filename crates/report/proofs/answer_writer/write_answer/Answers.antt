use Rattle.std.proofs.Common.{List, length, Option, Some, sym, ap, subst, ◌∙◌}
use Rattle.std.specs.Option.{option_map}
use Rattle.csl_syntax.specs.CanonicalText.{formula_text}
use Rattle.csl_syntax.specs.Tree.{tree_of}
use Rattle.report.specs.Answer.{shown_lists}
use Rattle.report.specs.AnswerText.{formula_line, answer_lines, verdict_lines, ArePrintable}
use Rattle.report.specs.declared.answer.Shown.{Shown}
use Rattle.report.specs.declared.answer.Verdict.{Verdict}
use Rattle.report.proofs.Fronts.{front_of_first, front_of_second, front_same, appends_same}
use Rattle.report.proofs.answer_writer.write_answer.Goals as goal

pub write_shown-requires : goal.write_shown-requires
write_shown-requires g c =
    subst (λ (vs : List Verdict). ArePrintable (length vs) (shown_lists c.in-Some.shown)) (sym c.deref-in-Some.ensures.value)
    (c.requires.writable (shown_lists c.in-Some.shown) (ap (option_map shown_lists) c.in-Some.is))

pub returns-in_err-write_formula_line-clause-front : goal.returns-in_err-write_formula_line-clause-front
returns-in_err-write_formula_line-clause-front g c =
    let answer = c.args.answer.now in
    front_of_first (formula_line (formula_text c.args.labels.now (tree_of c.args.formula.now)))
    (answer_lines answer.verdicts.items (option_map shown_lists answer.shown)) _ _
    (front_same formula_line _ _ (c.deref.ensures.value ∙ c.in_ok-text.ensures) _ _ c.in_err-write_formula_line.ensures.front)

pub returns-in-Some-clause-front : goal.returns-in-Some-clause-front
returns-in-Some-clause-front g c =
    let verdicts = c.args.answer.now.verdicts.items in
    front_of_second (formula_line (formula_text c.args.labels.now (tree_of c.args.formula.now)))
    (answer_lines verdicts (option_map shown_lists c.args.answer.now.shown)) _ _ _
    (appends_same formula_line _ _ (c.deref.ensures.value ∙ c.in_ok-text.ensures) _ _ c.in_ok-write_formula_line.ensures.ok)
    (front_same (λ (o : Option Shown). answer_lines verdicts (option_map shown_lists o)) _ _ (sym c.in-Some.is) _ _
    (front_same (λ (vs : List Verdict). answer_lines vs (Some (shown_lists c.in-Some.shown))) _ _ c.deref-in-Some.ensures.value _ _
    c.write_shown.ensures.front))

pub returns-clause-front : goal.returns-clause-front
returns-clause-front g c =
    let verdicts = c.args.answer.now.verdicts.items in
    front_of_second (formula_line (formula_text c.args.labels.now (tree_of c.args.formula.now)))
    (answer_lines verdicts (option_map shown_lists c.args.answer.now.shown)) _ _ _
    (appends_same formula_line _ _ (c.deref.ensures.value ∙ c.in_ok-text.ensures) _ _ c.in_ok-write_formula_line.ensures.ok)
    (front_same (λ (o : Option Shown). answer_lines verdicts (option_map shown_lists o)) _ _ (sym c.in-None.is) _ _
    (front_same (verdict_lines 1) _ _ c.deref-in-None.ensures.value _ _ c.write_verdict_lines.ensures.front))
