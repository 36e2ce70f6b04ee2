use Rattle.std.proofs.Common.{arith, ap}
use Rattle.model_core.proofs.model.Model.reward.Goals as goal

pub reward-requires : goal.reward-requires
reward-requires c =
    omega (arith, c.requires.state, c.self.invariant.lists.each_reward _ c.in-Some.is, ap (λ m. m.n) c.self.view_is)
