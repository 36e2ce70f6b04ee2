use Rattle.ctmc_semantics.proofs.VerdictLemmas.{bounded_decided, unbounded_decided}
use Rattle.ctmc_semantics.proofs.laws.verdicts.until_is_decided.Goals as goal

pub returns-clause-bounded : goal.returns-clause-bounded
returns-clause-bounded c = bounded_decided

pub returns-clause-unbounded : goal.returns-clause-unbounded
returns-clause-unbounded c = unbounded_decided
