use Rattle.step_core.proofs.SmallModels.{two_sound}
use Rattle.step_core.proofs.one_thread.tests.two_states.Goals as goal

pub returns : goal.returns
returns c =
    two_sound _ _ _ _ _ _ _ _ c.in_ok-rows.ensures.items c.in_ok-first.ensures c.in_ok-second.ensures c.in_ok-sets.ensures
    c.in_ok-vec-3.ensures.items c.in_ok-vec-4.ensures.items c.in_ok-vec.ensures.items c.in_ok-vec-2.ensures.items
