use Rattle.ctmc_semantics.proofs.VerdictLemmas.{failing_not_meeting}
use Rattle.ctmc_semantics.proofs.laws.verdicts.failing_is_not_meeting.Goals as goal

pub returns : goal.returns
returns c = failing_not_meeting
