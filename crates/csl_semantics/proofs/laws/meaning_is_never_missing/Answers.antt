use Rattle.csl_semantics.proofs.NeverMissing.{not_missing}
use Rattle.csl_semantics.proofs.laws.meaning_is_never_missing.Goals as goal

pub returns : goal.returns
returns c = not_missing
