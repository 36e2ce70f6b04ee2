use Rattle.std.proofs.Common.{◌<◌, arith}
use Rattle.reward_dual.proofs.EarningLemmas.{some_rewards, still_within, product_is, moving_within, moving_some, moving_fits, moving_positive}
use Rattle.reward_dual.proofs.FirstState.{reward_is}
use Rattle.reward_dual.proofs.dual_rows.dual_row.Goals as goal

pub jump_row-requires-clause-within : goal.jump_row-requires-clause-within
jump_row-requires-clause-within c =
    let model = c.args.model.now in
    let w = some_rewards model.rewards c.requires.rewards in
    still_within model w.0 c.args.fastest c.args.s c.requires.state (c.requires.makes w.0 w.1) c.if-fastest-eq0.true

pub overflow_mul-reward : goal.overflow_mul-reward
overflow_mul-reward c =
    let model = c.args.model.now in
    let w = some_rewards model.rewards c.requires.rewards in
    let moves : 0 < c.args.fastest.exit = omega (arith, c.if-fastest-eq0.false) in
    let makes = c.requires.makes w.0 w.1 in
    let its = reward_is model.rewards w.0 c.args.s c.reward.result w.1 c.reward.ensures.value in
    let product = product_is model w.0 c.args.fastest c.args.s c.requires.state makes moves c.reward.result its in
    omega (arith, product, moving_fits model w.0 c.args.fastest c.args.s c.requires.state makes moves)

pub jump_row-requires-2-clause-some : goal.jump_row-requires-2-clause-some
jump_row-requires-2-clause-some c =
    let model = c.args.model.now in
    let w = some_rewards model.rewards c.requires.rewards in
    let moves : 0 < c.args.fastest.exit = omega (arith, c.if-fastest-eq0.false) in
    let makes = c.requires.makes w.0 w.1 in
    let its = reward_is model.rewards w.0 c.args.s c.reward.result w.1 c.reward.ensures.value in
    let product = product_is model w.0 c.args.fastest c.args.s c.requires.state makes moves c.reward.result its in
    moving_some model w.0 c.args.fastest c.args.s c.requires.state makes moves

pub jump_row-requires-2-clause-within : goal.jump_row-requires-2-clause-within
jump_row-requires-2-clause-within c =
    let model = c.args.model.now in
    let w = some_rewards model.rewards c.requires.rewards in
    let moves : 0 < c.args.fastest.exit = omega (arith, c.if-fastest-eq0.false) in
    let makes = c.requires.makes w.0 w.1 in
    let its = reward_is model.rewards w.0 c.args.s c.reward.result w.1 c.reward.ensures.value in
    let product = product_is model w.0 c.args.fastest c.args.s c.requires.state makes moves c.reward.result its in
    omega (arith, product, moving_within model w.0 c.args.fastest c.args.s c.requires.state makes moves)

pub jump_row-requires-2-clause-positive : goal.jump_row-requires-2-clause-positive
jump_row-requires-2-clause-positive c =
    let model = c.args.model.now in
    let w = some_rewards model.rewards c.requires.rewards in
    let moves : 0 < c.args.fastest.exit = omega (arith, c.if-fastest-eq0.false) in
    let makes = c.requires.makes w.0 w.1 in
    let its = reward_is model.rewards w.0 c.args.s c.reward.result w.1 c.reward.ensures.value in
    let product = product_is model w.0 c.args.fastest c.args.s c.requires.state makes moves c.reward.result its in
    omega (arith, product, moving_positive model w.0 c.args.fastest c.args.s c.requires.state makes moves)

pub jump_row-requires-2-clause-fits : goal.jump_row-requires-2-clause-fits
jump_row-requires-2-clause-fits c =
    let model = c.args.model.now in
    let w = some_rewards model.rewards c.requires.rewards in
    let moves : 0 < c.args.fastest.exit = omega (arith, c.if-fastest-eq0.false) in
    let makes = c.requires.makes w.0 w.1 in
    let its = reward_is model.rewards w.0 c.args.s c.reward.result w.1 c.reward.ensures.value in
    let product = product_is model w.0 c.args.fastest c.args.s c.requires.state makes moves c.reward.result its in
    omega (arith, product, moving_fits model w.0 c.args.fastest c.args.s c.requires.state makes moves)
