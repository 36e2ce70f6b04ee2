use Rattle.std.proofs.Common.{◌≡◌, ◌∙◌, ◌*◌, ◌^◌, ◌≤◌, ap, sym, arith}
use Rattle.std.proofs.lemmas.Bool.{le-leb}
use Rattle.model_core.specs.Model.{labelled_chain, model_chain}
use Rattle.reward_dual.specs.Deciding.{deciding_rate}
use Rattle.reward_dual.specs.RewardRefusal.{passes_range}
use Rattle.reward_dual.proofs.FirstState.{first_some, reward_is}
use Rattle.reward_dual.proofs.refusals.first_past_range.Goals as goal

pub returns-then-from-ge-RANGE : goal.returns-then-from-ge-RANGE
returns-then-from-ge-RANGE c = λ rewards e.
    let model = c.args.model.now in
    let s = c.loop-s.s in
    let rate = deciding_rate (model_chain model) rewards.reward in
    let its = reward_is model.rewards rewards s c.reward.result e c.reward.ensures.value in
    let product : c.from.result * c.from-in-loop-s.result ≡ rewards.reward s * rate =
    ap (λ x. x * c.from-in-loop-s.result) (c.from.ensures ∙ its)
    ∙ ap (λ x. rewards.reward s * x) (c.from-in-loop-s.ensures ∙ c.requires.rate rewards e) in
    let past : 2 ^ 63 ≤ rewards.reward s * rate = omega (arith, product, c.if-from-ge-RANGE.true) in
    sym (first_some model.n s (passes_range (labelled_chain model) rewards) (omega (arith, c.loop-s-test.true, c.n-s-end.ensures.value))
    (c.loop-s.invariant rewards e) (le-leb (2 ^ 63) (rewards.reward s * rate) past))
