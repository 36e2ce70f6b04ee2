use Rattle.std.proofs.Common.{◌+◌, ◌-◌, arith}
use Rattle.poisson_tail.proofs.Outward.{low_weight-at_most_one, high_weight-at_most_one}
use Rattle.poisson_tail.proofs.WrittenLists.{one_low_below, one_high_below}
use Rattle.poisson_tail.proofs.lists.write_below_mode.Goals as goal

pub low_downward-requires-clause-word : goal.low_downward-requires-clause-word
low_downward-requires-clause-word c =
    rw (c.loop-k.invariant.low (c.loop-k.k - 1 + 1) (omega arith) (omega arith))
    (low_weight-at_most_one c.args.load.now (c.loop-k.k - 1 + 1) c.mode-mode.ensures.divisor)

pub high_downward-requires-clause-word : goal.high_downward-requires-clause-word
high_downward-requires-clause-word c =
    rw (c.loop-k.invariant.high (c.loop-k.k - 1 + 1) (omega arith) (omega arith))
    (high_weight-at_most_one c.args.load.now (c.loop-k.k - 1 + 1) c.mode-mode.ensures.divisor)

pub loop-k-preserved : goal.loop-k-preserved
loop-k-preserved c =
    let load = c.args.load.now in
    record {
      low =
          one_low_below load c.mode-mode.ensures.value c.fine_load-fine.ensures.value c.loop-k.low c.loop-k.k
          c.loop-k-test.true (omega arith) (omega arith) c.loop-k.invariant.low c.low_downward.ensures;
      high =
          one_high_below load c.mode-mode.ensures.value c.fine_load-fine.ensures.value c.loop-k.high c.loop-k.k
          c.loop-k-test.true (omega arith) (omega arith) c.loop-k.invariant.high c.high_downward.ensures;
    }
