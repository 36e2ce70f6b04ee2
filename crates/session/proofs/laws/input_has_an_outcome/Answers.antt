use Rattle.session.proofs.SomeOutcomes.{some_outcome}
use Rattle.session.proofs.laws.input_has_an_outcome.Goals as goal

pub returns : goal.returns
returns c = some_outcome
