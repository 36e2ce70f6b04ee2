use Rattle.std.proofs.Common.{◌≡◌, ◌∷◌, [], ◌++◌, ◌∙◌, ap, sym, arith}
use Rattle.std.proofs.lemmas.List.FromFn.{map-range_with_len_more}
use Rattle.model_core.specs.Model.{has_label}
use Rattle.report.specs.Answer.{truth_verdict}
use Rattle.nested_verdict.specs.FormulaAnswer.{truth_verdicts}
use Rattle.nested_verdict.proofs.verdict_lists.labelled.Goals as goal

pub loop-s-preserved : goal.loop-s-preserved
loop-s-preserved c =
    let has = has_label c.args.model.now.marks c.args.label in
    let s = c.loop-s.s in
    let pushed : c.push.new.self.items ≡ c.loop-s.verdicts.items ++ c.of.result ∷ [] = c.in_ok-push.ensures.items in
    pushed
    ∙ ap (λ l. l ++ c.of.result ∷ []) c.loop-s.invariant
    ∙ ap (λ a. truth_verdicts s has ++ a ∷ []) (c.of.ensures ∙ ap truth_verdict c.has.ensures)
    ∙ sym (map-range_with_len_more (λ t. truth_verdict (has t)) 0 s s (omega arith))
