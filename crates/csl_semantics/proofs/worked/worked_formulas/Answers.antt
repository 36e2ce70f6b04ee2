use Rattle.std.proofs.Common.{refl}
use Rattle.std.specs.Fmt.{digits}
use Rattle.csl_semantics.proofs.worked.worked_formulas.Goals as goal

pub returns-clause-next : goal.returns-clause-next
unfolding digits
returns-clause-next c = refl

pub returns-clause-time_until : goal.returns-clause-time_until
unfolding digits
returns-clause-time_until c = refl

pub returns-clause-reach_until : goal.returns-clause-reach_until
unfolding digits
returns-clause-reach_until c = refl

pub returns-clause-reward_until : goal.returns-clause-reward_until
unfolding digits
returns-clause-reward_until c = refl
