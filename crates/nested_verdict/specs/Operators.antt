-- Which formulas are probability operators.
use Rattle.std.specs.Prelude.{Bool, true, false}
use Rattle.csl_syntax.specs.Tree.{Tree, truth, falsehood, label, negation, conjunction, disjunction, next, until}

-- the formula itself is no probability operator, whatever stands in it
abbrev pub is_connective : Tree → Bool
is_connective truth = true
is_connective falsehood = true
is_connective (label j) = true
is_connective (negation f) = true
is_connective (conjunction f g) = true
is_connective (disjunction f g) = true
is_connective (next op q f) = false
is_connective (until op q f bound g) = false
