-- Answers to probability operators, with so many brackets of the watched state, are exact.
use Rattle.std.proofs.Common.{◌≡◌, ℕ, ◌<◌, ◌≤◌, List, [], None, refl, sym, ap, ◌∙◌}
use Rattle.ctmc_semantics.specs.Fraction.{decimal_fraction}
use Rattle.command_words.specs.declared.command.Options.{Options}
use Rattle.csl_semantics.specs.Meaning.{comparison_of}
use Rattle.csl_syntax.specs.Tree.{Tree, next, until}
use Rattle.csl_syntax.specs.declared.formula.Bound.{Bound}
use Rattle.csl_syntax.specs.declared.formula.Op.{Op}
use Rattle.decimal_text.specs.DecimalNumber.{DecimalNumber}
use Rattle.model_core.specs.Model.{LabelledChain}
use Rattle.report.specs.Answer.{AnswerLists}
use Rattle.report.specs.declared.answer.Verdict.{Verdict}
use Rattle.step_core.specs.PlanLists.{PlanLists}
use Rattle.nested_verdict.specs.ExactAnswer.{IsExactAnswer}
use Rattle.nested_verdict.specs.FormulaAnswer.{first_refusal, formula_answer, next_states, shown_answer}
use Rattle.nested_verdict.specs.ThreeValues.{verdict_sets}
use Rattle.nested_verdict.specs.UntilBrackets.{ShowsUntilAnswers}
use Rattle.nested_verdict.specs.UntilPlan.{IsPlanOf, bound_refusal}
use Rattle.nested_verdict.specs.UnwatchedAnswer.{unwatched_answer}
use Rattle.nested_verdict.specs.WatchedBrackets.{IsWatched, watching}
use Rattle.nested_verdict.proofs.ExactFormulas.{formula_exact}
use Rattle.nested_verdict.proofs.FormulaAnswers.{answer_same, bound_same, next_answered, none_of_all, plan_same, refusal_same}
use Rattle.nested_verdict.proofs.UntilWords.{plan_exact}
use Rattle.nested_verdict.proofs.Unwatched.{shown_is_watched}

module _ (over : LabelledChain) (options : Options) (count : ℕ) (few_bits : options.bits ≤ 48) (state : options.state < over.chain.states)
    (op : Op) (q : DecimalNumber) (f : Tree) (vs : List Verdict) (are : vs ≡ (formula_answer over options f).verdicts)
    (accepted : first_refusal over options f ≡ None) where
  abbrev other : Options
  other = watching options count

  pub next_is_exact : (answer : AnswerLists) → answer ≡ shown_answer None [] (next_states over op q vs)
      → IsExactAnswer over other (next op q f) answer
  next_is_exact answer is =
      let states = next_states over op q vs in
      formula_exact over other (next op q f) answer few_bits state (refusal_same over options count f ∙ accepted)
      (ap unwatched_answer is ∙ next_answered over options op q f f vs vs are ∙ sym (answer_same over options count (next op q f)))
      (shown_is_watched other answer (shown_answer None [] states).verdicts _ is refl)

  pub until_is_exact : (g : Tree) (ws : List Verdict) → ws ≡ (formula_answer over options g).verdicts → first_refusal over options g ≡ None
      → (bound : Bound) → bound_refusal over options bound ≡ None → (plan : PlanLists)
      → IsPlanOf over options bound (verdict_sets vs ws) plan → (answer : AnswerLists)
      → ShowsUntilAnswers plan options.until_decided (comparison_of op) (decimal_fraction q.c q.x) answer → IsWatched other answer
      → IsExactAnswer over other (until op q f bound g) answer
  until_is_exact g ws too accepts bound unrefused plan is answer shows w =
      let verdicts = λ (a : AnswerLists). a.verdicts in
      let none = none_of_all _ _ _ accepted accepts unrefused in
      plan_exact over other op q f g vs ws (are ∙ sym (ap verdicts (answer_same over options count f)))
      (too ∙ sym (ap verdicts (answer_same over options count g))) bound few_bits (bound_same over options count bound ∙ unrefused) plan
      (plan_same over options count bound (verdict_sets vs ws) plan is) answer shows state
      (refusal_same over options count (until op q f bound g) ∙ none) w
