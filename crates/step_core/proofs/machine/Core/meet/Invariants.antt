use Rattle.step_core.proofs.MeetLemmas.{Meeting}
use Rattle.step_core.proofs.machine.Core.meet.Given as goal

abbrev pub invariant-loop-place : goal.invariant-loop-place
invariant-loop-place l = Meeting l.fn.self l.kept l.other l.place l.self
