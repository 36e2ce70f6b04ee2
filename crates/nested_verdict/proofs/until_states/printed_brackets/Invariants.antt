use Rattle.std.proofs.Common.{◌≡◌, All, map, take}
use Rattle.ctmc_semantics.specs.WordBracket.{word_bracket}
use Rattle.mix_columns.specs.Mixed.{words_of}
use Rattle.nested_verdict.specs.BracketAnswer.{printed_units}
use Rattle.step_core.specs.declared.bracket.Bracket.{Bracket}
use Rattle.report.specs.AnswerText.{IsPrintable}
use Rattle.nested_verdict.proofs.until_states.printed_brackets.Given as goal

abbrev pub invariant-loop-bracket : goal.invariant-loop-bracket
invariant-loop-bracket l = record {
  printed : l.printed.items ≡ map (λ (b : Bracket). printed_units (word_bracket (words_of b))) (take l.bracket-index l.brackets);
  printable : All IsPrintable l.printed.items;
}
