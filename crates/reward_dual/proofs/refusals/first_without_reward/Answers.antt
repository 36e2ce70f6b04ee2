use Rattle.std.proofs.Common.{◌∙◌, sym, eq-eqb, arith}
use Rattle.reward_dual.specs.RewardRefusal.{earns_nothing}
use Rattle.reward_dual.proofs.FirstState.{first_some, reward_is}
use Rattle.reward_dual.proofs.refusals.first_without_reward.Goals as goal

pub returns-then-reward-eq0 : goal.returns-then-reward-eq0
returns-then-reward-eq0 c = λ rewards e.
    let s = c.loop-s.s in
    sym (first_some c.args.model.now.n s (earns_nothing rewards) (omega (arith, c.loop-s-test.true, c.n-s-end.ensures.value))
    (c.loop-s.invariant rewards e)
    (eq-eqb (rewards.reward s) 0 (sym (reward_is c.args.model.now.rewards rewards s c.reward.result e c.reward.ensures.value)
    ∙ c.if-reward-eq0.true)))
