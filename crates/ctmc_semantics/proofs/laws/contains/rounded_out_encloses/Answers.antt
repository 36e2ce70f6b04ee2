use Rattle.ctmc_semantics.proofs.ContainsLemmas.{units_round, rounded_out_encloses}
use Rattle.ctmc_semantics.proofs.laws.contains.rounded_out_encloses.Goals as goal

pub returns-clause-rounds : goal.returns-clause-rounds
returns-clause-rounds c = units_round

pub returns-clause-encloses : goal.returns-clause-encloses
returns-clause-encloses c = rounded_out_encloses
