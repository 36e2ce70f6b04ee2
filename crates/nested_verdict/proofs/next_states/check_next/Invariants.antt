use Rattle.std.proofs.Common.{◌≡◌, length}
use Rattle.std.specs.List.{All}
use Rattle.ctmc_semantics.specs.Fraction.{decimal_fraction}
use Rattle.ctmc_semantics.specs.Sets.{holds_at}
use Rattle.model_core.specs.Transitions.{chain_of}
use Rattle.nested_verdict.specs.NextAnswer.{first_answers}
use Rattle.csl_semantics.specs.Meaning.{comparison_of}
use Rattle.report.specs.AnswerText.{IsPrintable}
use Rattle.nested_verdict.proofs.next_states.check_next.Given as goal

abbrev pub invariant-loop-s : goal.invariant-loop-s
invariant-loop-s l = record {
  answers : l.answers.items ≡ first_answers (chain_of l.model.n l.model.rates) (holds_at l.must) (holds_at l.may) (comparison_of l.op)
      (decimal_fraction l.threshold.c l.threshold.x) l.s;
  printable : All (λ a. IsPrintable a.bracket) l.answers.items;
  counted : length l.answers.items ≡ l.s;
}
