use Rattle.std.proofs.Common.{inl, inr, subst}
use Rattle.csl_semantics.specs.Meaning.{comparison_of}
use Rattle.ctmc_semantics.specs.Fraction.{decimal_fraction}
use Rattle.nested_verdict.proofs.RunBrackets.{all_decide, read_enclose}
use Rattle.nested_verdict.specs.UntilBrackets.{EnclosesOneThread}
use Rattle.reader_pass.specs.StateBrackets.{AreBrackets, AreOneThread}
use Rattle.step_core.specs.PlanLists.{PlanLists}
use Rattle.nested_verdict.proofs.until_brackets.early_brackets.Goals as goal

pub returns-clause-enclose : goal.returns-clause-enclose
returns-clause-enclose g c =
    subst (λ (p : PlanLists). AreBrackets p (EnclosesOneThread p) c.in_ok-brackets.field-0.brackets.items) c.in_ok-board.ensures.plan
    (read_enclose _ _ _ c.in_ok-brackets.ensures.brackets)

pub returns-clause-ended : goal.returns-clause-ended
returns-clause-ended g c =
    elim c.in_ok-brackets.ensures.enough [
      | inl narrow ↦
          inl (all_decide (comparison_of c.args.until.now.op) (decimal_fraction c.args.until.now.limit.c c.args.until.now.limit.x)
          c.in_ok-brackets.field-0.brackets.items narrow)
      | inr one ↦
          inr (subst (λ (p : PlanLists). AreOneThread p c.in_ok-brackets.field-0.brackets.items) c.in_ok-board.ensures.plan one)
    ]
