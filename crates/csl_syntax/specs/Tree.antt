-- A formula as a tree of plain values, whatever the memory in which its parts lie: the continuous stochastic logic (Aziz, Sanwal, Singhal,
-- Brayton 2000; Baier, Haverkort, Hermanns, Katoen 2003) without its steady states, with bounds on rewards (Baier, Haverkort, Hermanns,
-- Katoen 2000).
use Rattle.std.specs.Prelude.{ℕ, ◌<◌, ◌≤◌, ◌*◌, ◌^◌, ⊤}
use Rattle.decimal_text.specs.DecimalNumber.{DecimalNumber}
use Rattle.csl_syntax.specs.declared.formula.Op.{Op}
use Rattle.csl_syntax.specs.declared.formula.Bound.{Bound}
use Rattle.csl_syntax.specs.declared.formula.Formula.{Formula, Tt, Ff, Label, Not', And', Or', Next', Until'}

-- labels by their numbers from 0; an operator with its threshold
pub data Tree : Type 0 where
  truth : Tree
  falsehood : Tree
  label : ℕ → Tree
  negation : Tree → Tree
  conjunction : Tree → Tree → Tree
  disjunction : Tree → Tree → Tree
  next : Op → DecimalNumber → Tree → Tree
  until : Op → DecimalNumber → Tree → Bound → Tree → Tree

-- the tree of a formula
abbrev pub tree_of : Formula → Tree
tree_of Tt = truth
tree_of Ff = falsehood
tree_of (Label j) = label j
tree_of (Not' p f) = negation (tree_of f)
tree_of (And' p f q g) = conjunction (tree_of f) (tree_of g)
tree_of (Or' p f q g) = disjunction (tree_of f) (tree_of g)
tree_of (Next' op threshold p f) = next op threshold (tree_of f)
tree_of (Until' op threshold p f bound q g) = until op threshold (tree_of f) bound (tree_of g)

-- the number is at most n
abbrev pub IsUpTo : ℕ → DecimalNumber → Type 0
IsUpTo n d = d.c ≤ n * 10 ^ d.x

-- each label is one of the first n, and each threshold is at most 1
abbrev pub IsOver : ℕ → Tree → Type 0
IsOver n truth = ⊤
IsOver n falsehood = ⊤
IsOver n (label j) = j < n
IsOver n (negation f) = IsOver n f
IsOver n (conjunction f g) = IsOver n f × IsOver n g
IsOver n (disjunction f g) = IsOver n f × IsOver n g
IsOver n (next op threshold f) = IsUpTo 1 threshold × IsOver n f
IsOver n (until op threshold f bound g) = IsUpTo 1 threshold × IsOver n f × IsOver n g
