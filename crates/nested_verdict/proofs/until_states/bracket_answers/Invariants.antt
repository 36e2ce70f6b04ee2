use Rattle.std.proofs.Common.{◌≡◌, All}
use Rattle.ctmc_semantics.specs.Fraction.{decimal_fraction}
use Rattle.csl_semantics.specs.Meaning.{comparison_of}
use Rattle.report.specs.AnswerText.{IsPrintable}
use Rattle.nested_verdict.specs.UntilAnswer.{first_answers, listed_words}
use Rattle.nested_verdict.proofs.until_states.bracket_answers.Given as goal

abbrev pub invariant-loop-s : goal.invariant-loop-s
invariant-loop-s l = record {
  answers : l.answers.items
      ≡ first_answers (listed_words l.brackets) (comparison_of l.op) (decimal_fraction l.threshold.c l.threshold.x) l.s;
  printable : All (λ a. IsPrintable a.bracket) l.answers.items;
}
