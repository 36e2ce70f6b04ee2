-- The words of an until decide thresholds on a value, by each bound, so what its plan's brackets show is an answer to it.
use Rattle.std.proofs.Common.{◌≡◌, ℕ, ◌+◌, ◌<◌, ◌≤◌, List, [], Option, Some, None, sym, ap, subst, ◌∙◌}
use Rattle.ctmc_semantics.specs.Chain.{Chain}
use Rattle.ctmc_semantics.specs.Fraction.{Fraction, decimal_fraction}
use Rattle.ctmc_semantics.specs.Poisson.{until_average}
use Rattle.ctmc_semantics.specs.Sets.{KnownSets, LieBetween}
use Rattle.ctmc_semantics.specs.Threshold.{Comparison}
use Rattle.ctmc_semantics.specs.Uniformised.{uniformised}
use Rattle.command_words.specs.declared.command.Options.{Options}
use Rattle.csl_semantics.specs.Dual.{dual, reward_load}
use Rattle.csl_semantics.specs.Meaning.{comparison_of, load_of, reach_values, reward_values, time_values}
use Rattle.csl_syntax.specs.Tree.{Tree, until}
use Rattle.csl_syntax.specs.declared.formula.Bound.{Bound}
use Rattle.csl_syntax.specs.declared.formula.Bound.TheVariants.{Unbounded, Time, Reward}
use Rattle.csl_syntax.specs.declared.formula.Op.{Op}
use Rattle.decimal_text.specs.DecimalNumber.{DecimalNumber}
use Rattle.model_core.specs.Model.{LabelledChain, Rewards}
use Rattle.report.specs.Answer.{AnswerLists}
use Rattle.report.specs.declared.answer.Verdict.{Verdict}
use Rattle.reward_dual.proofs.Accepted.{accepted}
use Rattle.step_core.specs.PlanLists.{PlanLists}
use Rattle.step_core.specs.declared.bracket.Bracket.{Bracket}
use Rattle.nested_verdict.specs.EarlyAnswer.{IsAnswerTo}
use Rattle.nested_verdict.specs.ExactAnswer.{IsExactAnswer}
use Rattle.nested_verdict.specs.FormulaAnswer.{first_refusal, formula_answer, shown_answer}
use Rattle.nested_verdict.specs.ThreeValues.{verdict_sets, verdicts_know}
use Rattle.nested_verdict.specs.UntilAnswer.{bracket_answers, first_answers, listed_words, reach_words, state_words, time_words}
use Rattle.nested_verdict.specs.UntilBrackets.{ShowsUntilAnswers}
use Rattle.nested_verdict.specs.UntilPlan.{IsPlanOf, bound_refusal, dual_by, last_jumps, load_by}
use Rattle.nested_verdict.specs.UnwatchedAnswer.{unwatched_answer}
use Rattle.nested_verdict.specs.WatchedBrackets.{IsWatched}
use Rattle.nested_verdict.proofs.EarlyAnswers.{shown_answers}
use Rattle.nested_verdict.proofs.ExactAnswers.{DecidesValue}
use Rattle.nested_verdict.proofs.ExactFormulas.{until_words_exact}
use Rattle.nested_verdict.proofs.ExactUntil.{power_of_ten}
use Rattle.nested_verdict.proofs.FormulaAnswers.{until_answered}
use Rattle.nested_verdict.proofs.OperandSets.{sure_between}
use Rattle.nested_verdict.proofs.PlanCells.{plan_last}
use Rattle.nested_verdict.proofs.PlanWords.{bound_reach, brackets_stand, counted}
use Rattle.nested_verdict.proofs.RewardBound.{reward_load_positive}
use Rattle.nested_verdict.proofs.Verdicts.{reach_contains, reach_decides, time_contains, time_decides}

module _ (over : LabelledChain) (options : Options) (vs ws : List Verdict) (few_bits : options.bits ≤ 48) where
  abbrev n : ℕ
  n = over.chain.states

  abbrev sets : KnownSets
  sets = verdicts_know vs ws

  surely : LieBetween sets sets.live_must sets.goal_must
  surely = sure_between vs ws

  -- within what a load tells, of what surely holds
  load_decides : (chain : Chain) (load : Fraction) → 0 < load.den → (s : ℕ) → s < chain.states
      → DecidesValue (time_words chain load options.bits sets s) (until_average (uniformised chain) load sets.live_must sets.goal_must s)
  load_decides chain load positive s inside =
      time_decides chain sets surely s inside load options.bits positive few_bits (time_words chain load options.bits sets s) sets.live_must
      sets.goal_must (time_contains chain sets surely s inside load options.bits positive few_bits sets.live_must sets.goal_must surely)

  pub computed_decide : (bound : Bound) → bound_refusal over options bound ≡ None → (s : ℕ) → s < n
      → (x : ℕ → Fraction) × DecidesValue (state_words over options bound sets s) x
  computed_decide Unbounded unrefused s inside = (
    reach_values over sets.live_must sets.goal_must s,
    reach_decides over.chain sets surely s inside options.jumps (reach_words over.chain options.jumps sets s) sets.live_must sets.goal_must
        (reach_contains over.chain sets surely s inside options.jumps sets.live_must sets.goal_must surely),
  )
  computed_decide (Time t) unrefused s inside = (
    time_values over t sets.live_must sets.goal_must s,
    load_decides over.chain (load_of over t) (power_of_ten (over.rate_decimals + t.x)) s inside,
  )
  computed_decide (Reward r) unrefused s inside =
      let earns = (accepted over options.bits r unrefused).earns in (
        reward_values over earns.rewards r sets.live_must sets.goal_must s,
        subst (λ (o : Option Rewards). DecidesValue (time_words (dual_by over o) (load_by over r o) options.bits sets s)
            (reward_values over earns.rewards r sets.live_must sets.goal_must s)) (sym earns.are)
            (load_decides (dual over.chain earns.rewards.reward) (reward_load over earns.rewards r) (reward_load_positive over earns r) s
            inside),
      )

-- ---- an answer to an until by its plan
module _ (over : LabelledChain) (options : Options) (op : Op) (q : DecimalNumber) (f g : Tree) (vs ws : List Verdict)
    (are : vs ≡ (formula_answer over options f).verdicts) (too : ws ≡ (formula_answer over options g).verdicts) (bound : Bound)
    (few_bits : options.bits ≤ 48) (unrefused : bound_refusal over options bound ≡ None) (plan : PlanLists)
    (is : IsPlanOf over options bound (verdict_sets vs ws) plan) (answer : AnswerLists)
    (shows : ShowsUntilAnswers plan options.until_decided (comparison_of op) (decimal_fraction q.c q.x) answer) where
  abbrev by : Comparison
  by = comparison_of op

  abbrev limit : Fraction
  limit = decimal_fraction q.c q.x

  abbrev words : List Bracket
  words = shows.are.brackets

  -- it shows what the brackets' words give
  by_words : unwatched_answer answer
      ≡ shown_answer (Some (last_jumps over options bound)) [] (first_answers (listed_words words) by limit over.chain.states)
  by_words =
      shows.shown
      ∙ ap (shown_answer (Some plan.layers) []) shows.are.answers
      ∙ ap (λ (last : ℕ). shown_answer (Some last) [] (bracket_answers words by limit))
      (plan_last over options (verdict_sets vs ws) plan bound is)
      ∙ ap (λ (count : ℕ). shown_answer (Some (last_jumps over options bound)) [] (first_answers (listed_words words) by limit count))
      (counted over options vs ws plan bound is by limit words shows.are.are)

  pub plan_answer : IsAnswerTo options (formula_answer over options (until op q f bound g)) (unwatched_answer answer)
  plan_answer =
      let last = last_jumps over options bound in
      let known = verdicts_know vs ws in
      let computed = state_words over options bound known in
      let due =
      shown_answers options by limit (power_of_ten q.x) last over.chain.states known.goal_must (bound_reach over bound known) computed
      (listed_words words) (brackets_stand over options vs ws plan bound is by limit words shows.are.are)
      (computed_decide over options vs ws few_bits bound unrefused) in
      subst (λ whole. IsAnswerTo options whole (unwatched_answer answer)) (until_answered over options op q f g vs ws are too bound)
      (subst (IsAnswerTo options (shown_answer (Some last) [] (first_answers computed by limit over.chain.states))) (sym by_words) due)

  pub plan_exact : options.state < over.chain.states → first_refusal over options (until op q f bound g) ≡ None
      → IsWatched options answer → IsExactAnswer over options (until op q f bound g) answer
  plan_exact state accepts w =
      until_words_exact over options few_bits state op q f bound g accepts vs ws are too (listed_words words)
      (brackets_stand over options vs ws plan bound is by limit words shows.are.are) answer by_words w
