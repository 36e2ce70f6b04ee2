use Rattle.csl_syntax.proofs.Scanning.{formula_has_no_fault}
use Rattle.csl_syntax.proofs.laws.formula_has_no_fault.Goals as goal

pub returns : goal.returns
returns c = formula_has_no_fault
