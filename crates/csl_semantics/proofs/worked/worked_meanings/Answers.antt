use Rattle.csl_semantics.proofs.WorkedLists.{cheaply_stands, next_stands, soon_stands, surely_stands, nested_stands}
use Rattle.csl_semantics.proofs.worked.worked_meanings.Goals as goal

pub returns-clause-next : goal.returns-clause-next
returns-clause-next c = next_stands

pub returns-clause-time_until : goal.returns-clause-time_until
returns-clause-time_until c = soon_stands

pub returns-clause-reach_until : goal.returns-clause-reach_until
returns-clause-reach_until c = surely_stands

pub returns-clause-nested : goal.returns-clause-nested
returns-clause-nested c = nested_stands

pub returns-clause-reward_until : goal.returns-clause-reward_until
returns-clause-reward_until c = cheaply_stands
