use Rattle.std.proofs.Common.{ℕ, ◌+◌, ◌*◌, ◌<◌}
use Rattle.std.specs.Prelude.{IsTrue}
use Rattle.step_core.specs.CoreLists.{pass_at}
use Rattle.step_core.specs.Events.{is_done}
use Rattle.step_core.proofs.machine.Core.block_done.Given as goal

-- the states looked at so far are done
abbrev pub invariant-loop-r : goal.invariant-loop-r
invariant-loop-r l = (i : ℕ) → i < l.r → IsTrue (is_done l.plan (pass_at l.self l.pass).notes l.k (64 * l.b + i))
