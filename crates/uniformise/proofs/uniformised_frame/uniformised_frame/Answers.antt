use Rattle.std.proofs.Common.{arith}
use Rattle.uniformise.proofs.PlanOf.{frame_sound}
use Rattle.uniformise.proofs.uniformised_frame.uniformised_frame.Goals as goal

pub returns-clause-sound : goal.returns-clause-sound
returns-clause-sound c =
    let rows = c.in_ok-rows.ensures in
    frame_sound c.args.model.now.n c.in_ok-rows.rows.items c.args.sets (omega (arith, rows.some, rows.states))
    (omega (arith, rows.few, rows.states)) rows.states rows.sound c.requires.sets
