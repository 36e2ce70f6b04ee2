use Rattle.session.proofs.Outcomes.{same_outcome, one_unwatched}
use Rattle.session.proofs.laws.outcome_is_one.Goals as goal

pub returns-clause-alike : goal.returns-clause-alike
returns-clause-alike c = same_outcome

pub returns-clause-unwatched : goal.returns-clause-unwatched
returns-clause-unwatched c = one_unwatched
