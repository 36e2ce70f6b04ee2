use Rattle.flat_rows.proofs.SmallFrame.{frame_sound}
use Rattle.flat_rows.proofs.step.tests.frame.Goals as goal

pub returns-clause-sound : goal.returns-clause-sound
returns-clause-sound c =
    frame_sound _ _ _ _ _ c.in_ok-rows.ensures.sound c.in_ok-rows.ensures.states c.in_ok-vec.ensures.items c.in_ok-vec-2.ensures.items
    c.in_ok-vec-3.ensures.items c.in_ok-vec-4.ensures.items
