use Rattle.csl_syntax.proofs.Scanning.{fault_is_one}
use Rattle.csl_syntax.proofs.laws.formula_fault_is_one.Goals as goal

pub returns : goal.returns
returns c = fault_is_one
