use Rattle.session.proofs.Served.{front_kept}
use Rattle.session.proofs.top.say.Goals as goal

pub returns-in-Ok-clause-front : goal.returns-in-Ok-clause-front
returns-in-Ok-clause-front g c = front_kept c.args.prepared.now _ _ _ c.in_ok-status.ensures.front c.in-Ok.ensures.bytes

pub returns-in-Err-clause-front : goal.returns-in-Err-clause-front
returns-in-Err-clause-front g c = front_kept c.args.prepared.now _ _ _ c.in_ok-status.ensures.front c.in-Err.ensures.bytes
