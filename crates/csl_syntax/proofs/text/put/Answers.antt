use Rattle.std.proofs.Common.{ap, ◌∙◌, subst, sym}
use Rattle.csl_syntax.specs.Printer.{pending_text, pending_size, PendingIsOver}
use Rattle.csl_syntax.proofs.PrintPending.{pending_text-append, pending_size-append, over_more}
use Rattle.csl_syntax.proofs.text.put.Goals as goal

pub returns-clause-text : goal.returns-clause-text
returns-clause-text c = λ labels.
    ap (pending_text labels) c.in_ok-push.ensures.items ∙ pending_text-append labels c.args.pending.now.items c.args.piece

pub returns-clause-size : goal.returns-clause-size
returns-clause-size c = ap pending_size c.in_ok-push.ensures.items ∙ pending_size-append c.args.pending.now.items c.args.piece

pub returns-clause-over : goal.returns-clause-over
returns-clause-over c = λ n h g.
    subst (PendingIsOver n) (sym c.in_ok-push.ensures.items) (over_more n c.args.pending.now.items c.args.piece h g)
