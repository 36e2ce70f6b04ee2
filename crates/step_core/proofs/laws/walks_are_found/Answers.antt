use Rattle.step_core.proofs.Walks.{walks_are_found}
use Rattle.step_core.proofs.laws.walks_are_found.Goals as goal

pub returns : goal.returns
returns c = walks_are_found
