use Rattle.std.proofs.Common.{◌++◌, length, ap, subst, sym, ◌∙◌, arith}
use Rattle.csl_syntax.specs.Printer.{pending_text, pending_size, PendingIsOver}
use Rattle.csl_syntax.proofs.PrintPending.{pending_text-append, pending_size-append, over_front, over_last}
use Rattle.csl_syntax.proofs.text.print.Goals as goal

pub write-requires : goal.write-requires
write-requires c =
    let n = length c.args.labels.now in
    over_last n c.pop.new.self.items c.in-Some.piece (subst (PendingIsOver n) c.in-Some.ensures.items c.loop-piece.invariant.1)

pub loop-piece-smaller : goal.loop-piece-smaller
loop-piece-smaller c =
    omega (
      arith,
      c.in_ok-write.ensures.smaller,
      ap pending_size c.in-Some.ensures.items ∙ pending_size-append c.pop.new.self.items c.in-Some.piece,
    )

pub loop-piece-preserved : goal.loop-piece-preserved
loop-piece-preserved c =
    let n = length c.args.labels.now in (
      c.in_ok-write.ensures.text
          ∙ ap (λ s. c.loop-piece.text.items ++ s)
          (sym (ap (pending_text c.args.labels.now) c.in-Some.ensures.items
          ∙ pending_text-append c.args.labels.now c.pop.new.self.items c.in-Some.piece))
          ∙ c.loop-piece.invariant.0,
      c.in_ok-write.ensures.over
          (over_front n c.pop.new.self.items c.in-Some.piece
          (subst (PendingIsOver n) c.in-Some.ensures.items c.loop-piece.invariant.1)),
    )
