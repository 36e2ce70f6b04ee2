use Rattle.csl_syntax.proofs.Scanning.{formula_is_one}
use Rattle.csl_syntax.proofs.laws.formula_is_one.Goals as goal

pub returns : goal.returns
returns c = formula_is_one
