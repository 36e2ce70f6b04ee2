use Rattle.csl_semantics.proofs.Unique.{one_meaning}
use Rattle.csl_semantics.proofs.laws.formula_has_one_meaning.Goals as goal

pub returns : goal.returns
returns c = one_meaning
