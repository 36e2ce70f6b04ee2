use Rattle.std.proofs.Common.{◌∙◌, arith}
use Rattle.tra_reader.proofs.RepeatLemmas.{mark-same, mark-other}
use Rattle.tra_reader.proofs.repeats.least_mark.Goals as goal
use Rattle.tra_reader.proofs.repeats.least_mark.Goals.{then-keys-k, else-keys-k}

pub loop-k-preserved : goal.loop-k-preserved
loop-k-preserved c =
    elim c.if-keys-k.branch [
      | then-keys-k w ↦
          mark-same c.args.keys.now c.loop-k.k c.loop-k.least c.if-keys-k.least (omega arith) (omega arith) w.if-keys-k.true
          (w.least-is ∙ w.min-least.ensures) c.loop-k.invariant
      | else-keys-k w ↦
          rw w.least-is (mark-other c.args.keys.now c.loop-k.k c.loop-k.least (omega arith) w.if-keys-k.false c.loop-k.invariant)
    ]
