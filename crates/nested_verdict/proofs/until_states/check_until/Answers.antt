use Rattle.std.proofs.Common.{◌∙◌, refl, sym, ap, map, subst}
use Rattle.ctmc_semantics.specs.Fraction.{decimal_fraction}
use Rattle.csl_semantics.specs.Meaning.{comparison_of}
use Rattle.nested_verdict.specs.UntilAnswer.{bracket_answers, listed_words, printed_brackets}
use Rattle.nested_verdict.specs.WatchedBrackets.{AreTakenOf}
use Rattle.nested_verdict.specs.declared.state_answer.StateAnswer.{StateAnswer}
use Rattle.nested_verdict.proofs.WatchedWords.{printed_here, taken_of}
use Rattle.nested_verdict.proofs.until_states.check_until.Goals as goal

pub returns-clause-answers : goal.returns-clause-answers
returns-clause-answers g c =
    let by = comparison_of c.args.op in
    let q = decimal_fraction c.args.threshold.c c.args.threshold.x in
    record {
      brackets = c.in_ok-brackets.brackets.states.items;
      are = c.in_ok-brackets.ensures.states;
      answers = c.in_ok-states.ensures.answers ∙ ap (λ bs. bracket_answers bs by q) c.deref.ensures.value;
    }

pub returns-clause-watched : goal.returns-clause-watched
returns-clause-watched g c =
    let by = comparison_of c.args.op in
    let q = decimal_fraction c.args.threshold.c c.args.threshold.x in
    let options = c.args.options.now in
    let brackets = c.in_ok-brackets.brackets.states.items in
    let states = c.in_ok-states.states.items in
    let printed = map (λ (a : StateAnswer). a.bracket) states in
    subst (AreTakenOf options printed) (sym (c.in_ok-watched.ensures.printed ∙ ap printed_brackets c.deref-2.ensures.value))
    (taken_of options.watch (listed_words brackets options.state) c.in_ok-brackets.brackets.watched.items c.in_ok-brackets.ensures.watched
    options printed refl
    (printed_here brackets by q states options.state
    (c.in_ok-states.ensures.answers ∙ ap (λ bs. bracket_answers bs by q) c.deref.ensures.value)))
