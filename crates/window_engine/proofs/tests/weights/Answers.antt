use Rattle.window_engine.proofs.SmallPlans.{small_weights}
use Rattle.window_engine.proofs.tests.weights.Goals as goal

pub returns : goal.returns
returns c = small_weights _ _ c.in_ok-from_slice.ensures.items c.in_ok-from_slice-2.ensures.items
