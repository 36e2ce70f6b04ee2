use Rattle.std.proofs.Common.{◌-◌, arith}
use Rattle.poisson_tail.proofs.Outward.{low_weight-at_most_one, high_weight-at_most_one}
use Rattle.poisson_tail.proofs.WrittenLists.{one_low_above, one_high_above}
use Rattle.poisson_tail.proofs.lists.write_above_mode.Goals as goal

pub low_upward-requires-clause-word : goal.low_upward-requires-clause-word
low_upward-requires-clause-word c =
    rw (c.loop-k.invariant.low (c.loop-k.k - 1) (omega arith))
    (low_weight-at_most_one c.args.load.now (c.loop-k.k - 1) c.mode-mode.ensures.divisor)

pub high_upward-requires-clause-word : goal.high_upward-requires-clause-word
high_upward-requires-clause-word c =
    rw (c.loop-k.invariant.high (c.loop-k.k - 1) (omega arith))
    (high_weight-at_most_one c.args.load.now (c.loop-k.k - 1) c.mode-mode.ensures.divisor)

pub loop-k-preserved : goal.loop-k-preserved
loop-k-preserved c =
    let load = c.args.load.now in
    record {
      low =
          one_low_above load c.mode-mode.ensures.value c.fine_load-fine.ensures.value c.loop-k.low c.loop-k.k
          (omega arith) (omega arith) c.loop-k.invariant.low c.low_upward.ensures;
      high =
          one_high_above load c.mode-mode.ensures.value c.fine_load-fine.ensures.value c.loop-k.high c.loop-k.k
          (omega arith) (omega arith) c.loop-k.invariant.high c.high_upward.ensures;
    }
