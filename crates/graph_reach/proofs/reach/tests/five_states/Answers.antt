use Rattle.graph_reach.proofs.SmallFrame.{five_sound}
use Rattle.graph_reach.proofs.reach.tests.five_states.Goals as goal

pub returns : goal.returns
returns c =
    five_sound _ _ _ _ _ _ _ c.in_ok-rows.ensures.items c.in_ok-first.ensures c.in_ok-second.ensures c.in_ok-third.ensures
    c.in_ok-fourth.ensures c.in_ok-fifth.ensures c.in_ok-sets.ensures
