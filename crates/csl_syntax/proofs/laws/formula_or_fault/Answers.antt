use Rattle.csl_syntax.proofs.Outcomes.{formula_or_fault}
use Rattle.csl_syntax.proofs.laws.formula_or_fault.Goals as goal

pub returns : goal.returns
returns c = formula_or_fault
