use Rattle.std.proofs.Common.{◌≡◌, ℕ, ◌++◌, length, sym, subst, ap, ◌∙◌}
use Rattle.csl_syntax.specs.declared.formula.Formula.{Formula}
use Rattle.csl_syntax.specs.Tree.{tree_of, IsOver}
use Rattle.csl_syntax.specs.CanonicalText.{formula_text}
use Rattle.csl_syntax.specs.Printer.{pending_text}
use Rattle.csl_syntax.proofs.PrintPending.{until_parts}
use Rattle.csl_syntax.proofs.text.begin.Goals as goal

along : (n : ℕ) (f g : Formula) → f ≡ g → IsOver n (tree_of g) → IsOver n (tree_of f)
along n f g e h = subst (λ (x : Formula). IsOver n (tree_of x)) (sym e) h

pub returns-in_ok-put_guarded-in-Not-clause-over : goal.returns-in_ok-put_guarded-in-Not-clause-over
returns-in_ok-put_guarded-in-Not-clause-over c = λ pending.
    let n = length c.args.labels.now in
    let over = rw c.in-Not.is at c.requires in
    c.in_ok-put_guarded-in-Not.ensures.over n (along n _ _ c.deref-in-Not.ensures over) pending

pub returns-in_ok-put_guarded-in-And-2-clause-over : goal.returns-in_ok-put_guarded-in-And-2-clause-over
returns-in_ok-put_guarded-in-And-2-clause-over c = λ pending.
    let n = length c.args.labels.now in
    let over = rw c.in-And.is at c.requires in
    c.in_ok-put_guarded-in-And-2.ensures.over n (along n _ _ c.deref-in-And-4.ensures over.0)
    (c.in_ok-put-in-And.ensures.over n tt
    (c.in_ok-put_guarded-in-And.ensures.over n (along n _ _ c.deref-in-And-2.ensures over.1) pending))

pub returns-in_ok-put-in-Or-2-clause-over : goal.returns-in_ok-put-in-Or-2-clause-over
returns-in_ok-put-in-Or-2-clause-over c = λ pending.
    let n = length c.args.labels.now in
    let over = rw c.in-Or.is at c.requires in
    c.in_ok-put-in-Or-2.ensures.over n (along n _ _ c.deref-in-Or-3.ensures over.0)
    (c.in_ok-put-in-Or.ensures.over n tt
    (c.in_ok-put_guarded-in-Or.ensures.over n (along n _ _ c.deref-in-Or-2.ensures over.1) pending))

pub returns-in_ok-put-in-Next-2-clause-over : goal.returns-in_ok-put-in-Next-2-clause-over
returns-in_ok-put-in-Next-2-clause-over c = λ pending.
    let n = length c.args.labels.now in
    let over = rw c.in-Next.is at c.requires in
    c.in_ok-put-in-Next-2.ensures.over n (along n _ _ c.deref-in-Next.ensures over.1) (c.in_ok-put-in-Next.ensures.over n tt pending)

pub returns-in_ok-put-in-Until-4-clause-over : goal.returns-in_ok-put-in-Until-4-clause-over
returns-in_ok-put-in-Until-4-clause-over c = λ pending.
    let n = length c.args.labels.now in
    let over = rw c.in-Until.is at c.requires in
    c.in_ok-put-in-Until-4.ensures.over n (along n _ _ c.deref-in-Until-2.ensures over.1)
    (c.in_ok-put-in-Until-3.ensures.over n tt
    (c.in_ok-put-in-Until-2.ensures.over n (along n _ _ c.deref-in-Until.ensures over.2)
    (c.in_ok-put-in-Until.ensures.over n tt pending)))

pub returns-in_ok-put-in-Until-4-clause-text : goal.returns-in_ok-put-in-Until-4-clause-text
returns-in_ok-put-in-Until-4-clause-text c =
    let labels = c.args.labels.now in
    let rest = pending_text labels c.args.pending.now.items in
    let close = pending_text labels c.put-in-Until.new.pending.items in
    let second = pending_text labels c.put-in-Until-2.new.pending.items in
    let word = pending_text labels c.put-in-Until-3.new.pending.items in
    let first = pending_text labels c.put-in-Until-4.new.pending.items in
    rw c.in-Until.is
    (until_parts labels c.in-Until.op c.in-Until.threshold (tree_of c.in-Until.left.value) (tree_of c.in-Until.right.value) c.in-Until.bound
    c.args.text.now.items c.write_operator-in-Until.new.text.items first word second close rest
    c.in_ok-write_operator-in-Until.ensures
    (c.in_ok-put-in-Until-4.ensures.text labels ∙ ap (λ (f : Formula). formula_text labels (tree_of f) ++ word) c.deref-in-Until-2.ensures)
    (c.in_ok-put-in-Until-3.ensures.text labels)
    (c.in_ok-put-in-Until-2.ensures.text labels ∙ ap (λ (f : Formula). formula_text labels (tree_of f) ++ close) c.deref-in-Until.ensures)
    (c.in_ok-put-in-Until.ensures.text labels))
