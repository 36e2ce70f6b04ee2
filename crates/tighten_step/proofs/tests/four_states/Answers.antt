use Rattle.step_core.proofs.SmallModels.{four_sound}
use Rattle.tighten_step.proofs.tests.four_states.Goals as goal

pub returns-clause-sound : goal.returns-clause-sound
returns-clause-sound c =
    four_sound _ _ _ _ _ _ _ _ c.in_ok-rows.ensures.items c.in_ok-first.ensures c.in_ok-second.ensures c.in_ok-third.ensures
    c.in_ok-fourth.ensures
    c.in_ok-sets.ensures c.in_ok-vec.ensures.items c.in_ok-vec-2.ensures.items
