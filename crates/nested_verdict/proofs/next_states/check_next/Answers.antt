use Rattle.std.proofs.Common.{◌≡◌, ◌≤◌, ◌∷◌, [], ◌++◌, arith, ◌∙◌, ap, length, length-append}
use Rattle.std.proofs.lemmas.List.Elements.{All-push}
use Rattle.ctmc_semantics.proofs.NextLemmas.{rate_into-le}
use Rattle.ctmc_semantics.specs.Fraction.{decimal_fraction}
use Rattle.ctmc_semantics.specs.Sets.{holds_at}
use Rattle.model_core.specs.Transitions.{chain_of}
use Rattle.csl_semantics.specs.Meaning.{comparison_of}
use Rattle.report.specs.AnswerText.{IsPrintable}
use Rattle.nested_verdict.specs.declared.state_answer.StateAnswer.{StateAnswer}
use Rattle.nested_verdict.proofs.Rounding.{answers_more}
use Rattle.nested_verdict.proofs.next_states.check_next.Goals as goal

pub ends_answer-requires : goal.ends_answer-requires
ends_answer-requires c =
    let model = c.args.model.now in
    let chain = chain_of model.n model.rates in
    let below : c.rate_into.result ≤ c.max.result =
    omega (
      arith,
      rate_into-le chain (holds_at c.args.must.now) c.loop-s.s,
      c.rate_into.ensures.value,
      c.exit.ensures.value,
      c.max.ensures,
    ) in
    let above : c.rate_into-in-loop-s.result ≤ c.max.result =
    omega (
      arith,
      rate_into-le chain (holds_at c.args.may.now) c.loop-s.s,
      c.rate_into-in-loop-s.ensures.value,
      c.exit.ensures.value,
      c.max.ensures,
    ) in
    record {
      probabilities = record {
        lower = below;
        upper = above;
        positive = omega (arith, c.max.ensures);
        fits = omega (arith, c.max.ensures, c.exit.ensures.bound);
      };
    }

pub loop-s-preserved : goal.loop-s-preserved
loop-s-preserved c =
    let model = c.args.model.now in
    let pushed : c.push.new.self.items ≡ c.loop-s.answers.items ++ c.ends_answer.result ∷ [] = c.in_ok-push.ensures.items in
    record {
      answers =
          pushed
          ∙ answers_more (chain_of model.n model.rates) (holds_at c.args.must.now) (holds_at c.args.may.now) (comparison_of c.args.op)
          (decimal_fraction c.args.threshold.c c.args.threshold.x) c.loop-s.s _ _ _ _ _ c.loop-s.invariant.answers
          c.rate_into.ensures.value c.rate_into-in-loop-s.ensures.value (omega (arith, c.max.ensures, c.exit.ensures.value))
          c.ends_answer.ensures.answer;
      printable =
          rw pushed
          (All-push (λ (a : StateAnswer). IsPrintable a.bracket) _ _ c.loop-s.invariant.printable c.ends_answer.ensures.printable);
      counted = omega (arith, ap length pushed, length-append {A = StateAnswer}, c.loop-s.invariant.counted);
    }
