use Rattle.std.proofs.Common.{◌≡◌}
use Rattle.csl_syntax.specs.Tree.{tree_of}
use Rattle.csl_syntax.specs.Machine.{negated}
use Rattle.csl_syntax.proofs.build.negated.Given as goal

abbrev pub invariant-loop-left : goal.invariant-loop-left
invariant-loop-left l = negated l.left (tree_of l.whole.value) ≡ negated l.count (tree_of l.fn.formula.value)

abbrev pub decreases-loop-left : goal.decreases-loop-left
decreases-loop-left l = l.left
