use Rattle.std.proofs.Common.{suc, ap, ◌∙◌, arith}
use Rattle.mix_columns.specs.Mixed.{plan_settle}
use Rattle.window_engine.proofs.SameMixes.{whole_is}
use Rattle.window_engine.proofs.Taken.{some_stand, count_is}
use Rattle.window_engine.proofs.brackets.window_brackets.Goals as goal

pub finish-requires-clause-stand : goal.finish-requires-clause-stand
finish-requires-clause-stand c =
    some_stand c.args.plan.now (suc c.args.plan.now.layers) c.in_ok-mixers.mixers c.in_ok-mixers.ensures

pub finish-requires-clause-whole : goal.finish-requires-clause-whole
finish-requires-clause-whole c = count_is c.args.plan.now (suc c.args.plan.now.layers) c.in_ok-mixers.mixers c.in_ok-mixers.ensures

pub returns-clause-exact : goal.returns-clause-exact
returns-clause-exact c = λ s l.
    let plan = c.args.plan.now in
    let took = c.in_ok-mixers.ensures in
    let mixed = c.in_ok-brackets.ensures.mixes s _ _ (omega (arith, l, took.states)) (took.took s l) in
    c.settle_all.ensures.settled s (omega (arith, l, took.states, c.in_ok-brackets.ensures.states, c.settle_all.ensures.states))
    ∙ ap (plan_settle plan s) (mixed ∙ whole_is plan s)
