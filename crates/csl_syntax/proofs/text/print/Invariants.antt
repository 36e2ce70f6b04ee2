use Rattle.std.proofs.Common.{◌≡◌, ◌++◌, length}
use Rattle.csl_syntax.specs.Tree.{tree_of}
use Rattle.csl_syntax.specs.CanonicalText.{formula_text}
use Rattle.csl_syntax.specs.Printer.{PendingIsOver, pending_text, pending_size}
use Rattle.csl_syntax.proofs.text.print.Given as goal

abbrev pub invariant-loop-piece : goal.invariant-loop-piece
invariant-loop-piece l =
    (l.text.items ++ pending_text l.labels l.pending.items ≡ formula_text l.labels (tree_of l.formula))
    × PendingIsOver (length l.labels) l.pending.items

abbrev pub decreases-loop-piece : goal.decreases-loop-piece
decreases-loop-piece l = pending_size l.pending.items
