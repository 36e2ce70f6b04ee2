use Rattle.flat_rows.proofs.SmallFrame.{nine_sound}
use Rattle.flat_rows.proofs.step.tests.rows.Goals as goal

pub returns-clause-sound : goal.returns-clause-sound
returns-clause-sound c =
    nine_sound _ _ _ _ _ _ _ _ _ _ c.in_ok-vec.ensures.items c.in_ok-first.ensures c.in_ok-second.ensures c.in_ok-third.ensures
    c.in_ok-fourth.ensures c.in_ok-goal.ensures c.in_ok-fifth.ensures c.in_ok-sixth.ensures c.in_ok-seventh.ensures c.in_ok-last.ensures
