use Rattle.step_core.proofs.SmallModels.{four_sound}
use Rattle.step_core.proofs.one_thread.tests.four_states.Goals as goal

pub returns : goal.returns
returns c =
    four_sound _ _ _ _ _ _ _ _ c.in_ok-rows.ensures.items c.in_ok-first.ensures c.in_ok-second.ensures c.in_ok-third.ensures
    c.in_ok-fourth.ensures
    c.in_ok-sets.ensures c.in_ok-vec.ensures.items c.in_ok-vec-2.ensures.items
