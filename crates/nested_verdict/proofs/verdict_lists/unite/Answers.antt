use Rattle.std.proofs.Common.{◌<◌, length, arith}
use Rattle.report.specs.declared.answer.Verdict.TheVariants.{Satisfied}
use Rattle.nested_verdict.specs.ThreeValues.{either_verdict, verdict_at}
use Rattle.nested_verdict.proofs.VerdictLists.{listed, joined_done, joined_rest}
use Rattle.nested_verdict.proofs.verdict_lists.unite.Goals as goal

pub loop-s-preserved : goal.loop-s-preserved
loop-s-preserved c =
    let loop = c.loop-s in
    let inside : loop.s < length loop.verdicts = omega (arith, loop.auto.verdicts, c.loop-s-test.true, c.requires) in
    record {
      done =
          joined_done either_verdict c.args.verdicts.now c.args.others.now loop.verdicts loop.s inside loop.invariant.rest c.either_of.result
          loop.invariant.done Satisfied c.loop-s-test.true c.either_of.ensures;
      rest =
          joined_rest either_verdict c.args.verdicts.now c.args.others.now loop.verdicts loop.s inside loop.invariant.rest c.either_of.result;
    }

pub returns : goal.returns
returns c =
    let vs = c.args.verdicts.now in
    let ws = c.args.others.now in
    listed (λ s. either_verdict (verdict_at vs s) (verdict_at ws s)) (length vs) c.loop-s.verdicts c.loop-s.auto.verdicts
    (λ s l. c.loop-s.invariant.done s (omega (arith, l, c.loop-s-test.false, c.requires)))
