use Rattle.std.proofs.Common.{length, refl, subst}
use Rattle.csl_syntax.proofs.Outcomes.{formulas_are_over}
use Rattle.csl_syntax.specs.FormulaText.{FormulaSays}
use Rattle.csl_syntax.specs.Tree.{tree_of, IsOver}
use Rattle.session.proofs.line_reply.reply_to.Goals as goal

pub check-requires-clause-over : goal.check-requires-clause-over
check-requires-clause-over g c κs within =
    subst (λ n. IsOver (length n) (tree_of c.in-Ok.formula)) c.labels.ensures.names
    (formulas_are_over c.args.line.now c.labels.result.now (tree_of c.in-Ok.formula) c.in-Ok.ensures.value)

pub returns-clause-reply : goal.returns-clause-reply
returns-clause-reply g c = record {
  formula = tree_of c.in-Ok.formula;
  says =
      subst (λ names. FormulaSays c.args.line.now names (tree_of c.in-Ok.formula)) c.labels.ensures.names c.in-Ok.ensures.value;
  is = record {
    accepted = c.in-Ok-check.ensures.accepted;
    is_text = refl;
    is = c.in-Ok-check.ensures.answer;
    watched = c.in-Ok-check.ensures.watched;
    exact = c.in-Ok-check.ensures.exact;
  };
}

pub returns-clause-writable : goal.returns-clause-writable
returns-clause-writable g c = (
  subst (λ n. IsOver (length n) (tree_of c.in-Ok.formula)) c.labels.ensures.names
      (formulas_are_over c.args.line.now c.labels.result.now (tree_of c.in-Ok.formula) c.in-Ok.ensures.value),
  c.in-Ok-check.ensures.writable,
)
