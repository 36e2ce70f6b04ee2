use Rattle.std.proofs.Common.{◌*◌, ◌-◌, ◌<◌, ◌≤◌, ◌∙◌, length, arith}
use Rattle.bound_grid.proofs.KnownLemmas.{knows_then}
use Rattle.step_core.specs.declared.blocks.TheConstants.{BLOCK_STATES}
use Rattle.tighten_step.proofs.BlockStates.{tightened_next, row_noted, end_of}
use Rattle.tighten_step.proofs.block.tighten_states.Goals as goal

pub loop-s-preserved : goal.loop-s-preserved
loop-s-preserved c =
    let b = c.args.board.now in
    let k = c.args.k in
    let s = c.loop-s.s in
    let p = c.args.pass.now in
    let q = c.loop-s.pass in
    let r = c.tighten.new.pass in
    let before = c.loop-s.invariant in
    let did = c.tighten.ensures in
    let end = end_of c.args.b c.plan.ensures c.block_end-s-end.ensures in
    let lt : s < length b.plan.frame.rows = omega (arith, c.loop-s-test.true, end) in
    let below : k - 1 ≤ b.plan.layers = omega (arith, c.requires.layer) in
    record {
      knows = knows_then b p q r before.knows did.knows;
      tightened = tightened_next b p q r c.requires.sound c.requires.pass before.knows did.knows k (BLOCK_STATES * c.args.b) s
          c.requires.layer
          lt did.tight
          (λ noted. did.exact (row_noted b p q (k - 1) s c.requires.sound below lt (λ d d_lt. before.seals (k - 1) d below d_lt) noted))
          before.tightened;
      seals = λ j d le d_lt. did.seals j d le d_lt ∙ before.seals j d le d_lt;
    }

pub returns-clause-tight : goal.returns-clause-tight
returns-clause-tight c = λ s lt is.
    let end = end_of c.args.b c.plan.ensures c.block_end-s-end.ensures in
    c.loop-s.invariant.tightened.tight s (omega (arith, is)) (omega (arith, is, lt, end, c.loop-s-test.false))

pub returns-clause-exact : goal.returns-clause-exact
returns-clause-exact c = λ noted s lt is.
    let end = end_of c.args.b c.plan.ensures c.block_end-s-end.ensures in
    c.loop-s.invariant.tightened.exact noted s (omega (arith, is)) (omega (arith, is, lt, end, c.loop-s-test.false))
