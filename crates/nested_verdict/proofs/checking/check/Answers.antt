use Rattle.std.proofs.Common.{◌≡◌, ◌∙◌, None, refl, ap, rules}
use Rattle.csl_syntax.specs.Tree.{tree_of}
use Rattle.model_core.specs.Model.{labelled_chain}
use Rattle.nested_verdict.specs.FormulaAnswer.{formula_answer, verdicts_answer}
use Rattle.nested_verdict.proofs.ExactFormulas.{formula_exact}
use Rattle.nested_verdict.proofs.FormulaAnswers.{by_verdicts}
use Rattle.nested_verdict.proofs.Unwatched.{unshown_is_watched}
use Rattle.nested_verdict.proofs.checking.check.Goals as goal

pub returns-in_ok-verdicts-in-Tt-clause-exact : goal.returns-in_ok-verdicts-in-Tt-clause-exact
returns-in_ok-verdicts-in-Tt-clause-exact g c =
    let over = labelled_chain c.args.model.now in
    let options = c.args.options.now in
    let formula = tree_of c.args.formula.now in
    let unshown : (formula_answer over options formula).shown ≡ None = search rules in
    let verdicts = c.in_ok-verdicts-in-Tt.field-0.items in
    let is : verdicts_answer verdicts ≡ formula_answer over options formula =
    ap verdicts_answer c.in_ok-verdicts-in-Tt.ensures.verdicts ∙ by_verdicts (formula_answer over options formula) unshown in
    formula_exact over options formula (verdicts_answer verdicts) c.requires.options.bits.most c.requires.state
    c.in_ok-verdicts-in-Tt.ensures.accepted is (unshown_is_watched options (verdicts_answer verdicts) verdicts refl)
