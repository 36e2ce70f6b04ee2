use Rattle.std.proofs.Common.{◌≡◌}
use Rattle.model_core.specs.Model.{has_label}
use Rattle.nested_verdict.specs.FormulaAnswer.{truth_verdicts}
use Rattle.nested_verdict.proofs.verdict_lists.labelled.Given as goal

abbrev pub invariant-loop-s : goal.invariant-loop-s
invariant-loop-s l = l.verdicts.items ≡ truth_verdicts l.s (has_label l.model.marks l.label)
