use Rattle.std.proofs.Common.{◌≡◌, ◌∙◌, ap, replicate}
use Rattle.std.proofs.lemmas.Result.{IfOk-weaker}
use Rattle.nested_verdict.specs.FormulaAnswer.{truth_verdicts}
use Rattle.nested_verdict.proofs.VerdictLists.{alike}
use Rattle.nested_verdict.proofs.verdict_lists.all_alike.Goals as goal

pub returns : goal.returns
returns c =
    IfOk-weaker c.vec.result _ (λ verdicts. verdicts.items ≡ truth_verdicts c.args.model.now.n (λ s. c.args.holds))
    (λ verdicts made.
    made (λ y e. e)
    ∙ ap (λ n. replicate n c.of.result) c.n.ensures.value
    ∙ ap (replicate c.args.model.now.n) c.of.ensures
    ∙ alike c.args.model.now.n c.args.holds)
    c.vec.ensures.items_if_clones_equal
