use Rattle.step_core.specs.Good.{Good}
use Rattle.step_core.proofs.machine.tests.after.Given as goal

abbrev pub invariant-loop-event : goal.invariant-loop-event
invariant-loop-event l = Good l.plan l.core
