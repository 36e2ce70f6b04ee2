use Rattle.csl_syntax.proofs.Outcomes.{formulas_are_over}
use Rattle.csl_syntax.proofs.laws.formulas_are_over_labels.Goals as goal

pub returns : goal.returns
returns c = formulas_are_over
