use Rattle.csl_semantics.proofs.Truths.{truths_stand}
use Rattle.csl_semantics.proofs.laws.formula_without_until_is_decided.Goals as goal

pub returns : goal.returns
returns c = truths_stand
