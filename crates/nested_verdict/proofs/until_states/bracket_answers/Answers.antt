use Rattle.std.proofs.Common.{◌≡◌, ◌∷◌, [], ◌++◌, ◌∙◌, refl}
use Rattle.std.proofs.lemmas.List.Elements.{All-push}
use Rattle.ctmc_semantics.specs.Fraction.{decimal_fraction}
use Rattle.csl_semantics.specs.Meaning.{comparison_of}
use Rattle.mix_columns.specs.Mixed.{words_of}
use Rattle.mix_columns.specs.SideBySide.{bracket_at}
use Rattle.report.specs.AnswerText.{IsPrintable}
use Rattle.nested_verdict.specs.UntilAnswer.{listed_words}
use Rattle.nested_verdict.specs.declared.state_answer.StateAnswer.{StateAnswer}
use Rattle.nested_verdict.proofs.Verdicts.{answers_more}
use Rattle.nested_verdict.proofs.until_states.bracket_answers.Goals as goal

pub loop-s-preserved : goal.loop-s-preserved
loop-s-preserved c =
    let words = listed_words c.args.brackets.now in
    let q = decimal_fraction c.args.threshold.c c.args.threshold.x in
    let pushed : c.push.new.self.items ≡ c.loop-s.answers.items ++ c.words_answer.result ∷ [] = c.in_ok-push.ensures.items in
    record {
      answers =
          pushed
          ∙ answers_more words (comparison_of c.args.op) q c.loop-s.s c.loop-s.answers.items c.words_answer.result
          (words_of (bracket_at c.args.brackets.now c.loop-s.s))
          c.loop-s.invariant.answers refl c.words_answer.ensures.answer;
      printable =
          rw pushed
          (All-push (λ (a : StateAnswer). IsPrintable a.bracket) _ _ c.loop-s.invariant.printable c.words_answer.ensures.printable);
    }
