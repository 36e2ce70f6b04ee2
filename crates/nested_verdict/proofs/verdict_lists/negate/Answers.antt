use Rattle.std.proofs.Common.{arith}
use Rattle.nested_verdict.proofs.VerdictLists.{negated}
use Rattle.nested_verdict.proofs.verdict_lists.negate.Goals as goal

pub returns : goal.returns
returns c =
    let loop = c.loop-verdict in
    negated c.args.verdicts.now loop.verdict-items loop.auto.verdict-items
    (λ s l.
    loop.invariant.done s (omega (arith, l, c.loop-verdict-test.false, loop.auto.verdict-items, loop.auto.verdict-index-end)))
