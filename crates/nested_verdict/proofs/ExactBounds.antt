-- What is shown of an until is exact, by each bound: whether its words are the computed ones or stand in their place.
use Rattle.std.proofs.Common.{◌≡◌, ℕ, ◌+◌, ◌<◌, ◌≤◌, inr, Bool, IsTrue, List, [], map, Option, Some, None, refl, sym, ap, subst}
use Rattle.ctmc_semantics.specs.Bracket.{ContainsFrom, ContainsLimit}
use Rattle.ctmc_semantics.specs.Fraction.{Fraction, decimal_fraction}
use Rattle.ctmc_semantics.specs.Horizon.{horizon}
use Rattle.ctmc_semantics.specs.Rows.{rows_of}
use Rattle.ctmc_semantics.specs.Sets.{KnownSets, holds_at}
use Rattle.ctmc_semantics.specs.Threshold.{Comparison}
use Rattle.ctmc_semantics.specs.Uniformised.{uniformised}
use Rattle.ctmc_semantics.specs.WordBracket.{WordBracket, last_words, until_words}
use Rattle.command_words.specs.declared.command.Options.{Options}
use Rattle.csl_semantics.specs.Dual.{dual, reward_load}
use Rattle.csl_semantics.specs.Meaning.{HoldsOverBoth, IsSat, SequenceMeets, comparison_of, load_of, reach_values, reward_values, time_values}
use Rattle.csl_semantics.proofs.Unique.{same_rewards}
use Rattle.csl_syntax.specs.Tree.{Tree, until}
use Rattle.csl_syntax.specs.declared.formula.Bound.{Bound}
use Rattle.csl_syntax.specs.declared.formula.Bound.TheVariants.{Unbounded, Time, Reward}
use Rattle.csl_syntax.specs.declared.formula.Op.{Op}
use Rattle.decimal_text.specs.DecimalNumber.{DecimalNumber}
use Rattle.model_core.specs.Model.{LabelledChain, Rewards}
use Rattle.report.specs.Answer.{AnswerLists}
use Rattle.report.specs.declared.answer.Printed.{Printed}
use Rattle.report.specs.declared.answer.Verdict.{Verdict}
use Rattle.reward_dual.proofs.Accepted.{accepted}
use Rattle.mix_columns.proofs.MixLawLemmas.{settle_again}
use Rattle.nested_verdict.specs.EarlyEnd.{MayEndEarly}
use Rattle.nested_verdict.specs.ExactAnswer.{AreSo, AreNearLast, AreNearReach, ForEach, IsNearUnless, IsOutOfReach, ShowsBound, ShowsUntil}
use Rattle.nested_verdict.specs.ExactState.{IsExactUntil}
use Rattle.nested_verdict.specs.FormulaAnswer.{shown_answer}
use Rattle.nested_verdict.specs.ThreeValues.{may_list, verdicts_know}
use Rattle.nested_verdict.specs.UntilAnswer.{first_answers, state_words, time_words, words_answer}
use Rattle.nested_verdict.specs.UntilPlan.{bound_refusal, dual_by, last_jumps, load_by}
use Rattle.nested_verdict.specs.UnwatchedAnswer.{unwatched_answer}
use Rattle.nested_verdict.specs.WatchedBrackets.{AreTakenOf, IsWatched}
use Rattle.nested_verdict.specs.declared.state_answer.StateAnswer.{StateAnswer}
use Rattle.nested_verdict.proofs.ExactUntil.{load_exact, power_of_ten, reach_exact}
use Rattle.nested_verdict.proofs.Places.{bracket_part, verdicts_by}
use Rattle.nested_verdict.proofs.PlanCells.{few}
use Rattle.nested_verdict.proofs.PlanWords.{bound_reach}
use Rattle.nested_verdict.proofs.RewardBound.{reward_load_positive, stays_out}
use Rattle.nested_verdict.proofs.ShownUntil.{until_are_so, until_shows}
use Rattle.nested_verdict.proofs.WatchedLemmas.{filled, filled_are}
use Rattle.nested_verdict.proofs.WiderWords.{StandIn, encloses_itself, stands_at}
use Rattle.nested_verdict.proofs.Widening.{from_widens, limit_widens}
use Rattle.step_core.specs.WalkFound.{can_reach}

module _ (over : LabelledChain) (options : Options) (op : Op) (q : DecimalNumber) (f g : Tree) (vs ws : List Verdict) where
  abbrev n : ℕ
  n = over.chain.states

  abbrev by : Comparison
  by = comparison_of op

  abbrev limit : Fraction
  limit = decimal_fraction q.c q.x

  abbrev sets : KnownSets
  sets = verdicts_know vs ws

  abbrev answers_by : (ℕ → WordBracket) → List StateAnswer
  answers_by words = first_answers words by limit n

  -- these words stand in the place of those of the until
  abbrev pub StandInUntil : Bound → (ℕ → WordBracket) → Type 0
  StandInUntil bound words =
      StandIn (MayEndEarly options (verdicts_by words by limit n)) n sets.goal_must (bound_reach over bound sets)
      (state_words over options bound sets) words

  -- and these are the words themselves
  pub computed_stand : (bound : Bound) → StandInUntil bound (state_words over options bound sets)
  computed_stand Unbounded =
      let reached = bound_reach over Unbounded sets in
      record {
        encloses = λ s l. encloses_itself (state_words over options Unbounded sets s);
        settled = λ s l.
            settle_again (sets.goal_must s) (reached s)
            (last_words (rows_of (uniformised over.chain)) options.jumps sets reached s);
        same = inr (λ s l. refl);
      }
  computed_stand (Time t) = record {
    encloses = λ s l. encloses_itself (state_words over options (Time t) sets s);
    settled = λ s l.
        settle_again (sets.goal_must s) (bound_reach over (Time t) sets s)
        (until_words (rows_of (uniformised over.chain)) (load_of over t) options.bits sets s);
    same = inr (λ s l. refl);
  }
  computed_stand (Reward r) =
      let chain = dual_by over over.rewards in
      record {
        encloses = λ s l. encloses_itself (state_words over options (Reward r) sets s);
        settled = λ s l.
            settle_again (sets.goal_must s) (bound_reach over (Reward r) sets s)
            (until_words (rows_of (uniformised chain)) (load_by over r over.rewards) options.bits sets s);
        same = inr (λ s l. refl);
      }

  -- an answer shows what the words give, and the brackets of the watched state
  pub record IsShown (bound : Bound) (words : ℕ → WordBracket) (answer : AnswerLists) : Type 0 where
    pub watched : List Printed
    pub taken : AreTakenOf options (map bracket_part (answers_by words)) watched
    pub is : answer ≡ shown_answer (Some (last_jumps over options bound)) watched (answers_by words)

  pub is_shown : (bound : Bound) (words : ℕ → WordBracket) (answer : AnswerLists)
      → unwatched_answer answer ≡ shown_answer (Some (last_jumps over options bound)) [] (answers_by words) → IsWatched options answer
      → IsShown bound words answer
  is_shown bound words answer e w =
      let last = Some (last_jumps over options bound) in
      let verdicts = verdicts_by words by limit n in
      let states = map bracket_part (answers_by words) in
      let found = filled answer verdicts last states e in
      record {
        watched = found.watched;
        taken = filled_are options answer verdicts last states w found;
        is = found.is;
      }

  -- what such an answer shows is exact
  module _ (left : AreSo over f vs) (right : AreSo over g ws) (few_bits : options.bits ≤ 48) (state : options.state < n)
      (words : ℕ → WordBracket) (answer : AnswerLists) where
    abbrev ended : Type 0
    ended = MayEndEarly options (verdicts_by words by limit n)

    abbrev IsExactBy : Bound → AnswerLists → Type 0
    IsExactBy bound a = AreSo over (until op q f bound g) a.verdicts × ShowsBound over options bound f g vs ws by limit a

    by_reach : StandInUntil Unbounded words → IsShown Unbounded words answer → IsExactBy Unbounded answer
    by_reach stand shown =
        let near = AreNearReach over options vs ws in
        let exact : (s : ℕ) → s < n
        → IsExactUntil by (ForEach over f g (reach_values over) s)
        (λ b. ForEach over f g (reach_values over) s (λ x. ContainsLimit b options.jumps x)) (IsNearUnless ended (near s))
        (IsTrue (sets.goal_must s)) (IsOutOfReach over.chain sets.live_may sets.goal_may s) limit (words_answer by (words s) limit) =
        λ s l.
        reach_exact over options op q f g vs ws left right ended (words s) s l
        (stands_at ended n sets.goal_must (bound_reach over Unbounded sets) (state_words over options Unbounded sets) words stand s l) in
        subst (IsExactBy Unbounded) (sym shown.is) (
          until_are_so over options op q Unbounded f g vs ws (reach_values over) (λ b x. ContainsLimit b options.jumps x) near state
              (λ x. limit_widens options.jumps x) words exact (λ xs stands. stands) shown.watched,
          until_shows over options op q Unbounded f g vs ws (reach_values over) (λ b x. ContainsLimit b options.jumps x) near state
              (λ x. limit_widens options.jumps x) words exact (λ xs stands. stands) shown.watched shown.taken,
        )

    by_time : (t : DecimalNumber) → bound_refusal over options (Time t) ≡ None → StandInUntil (Time t) words
        → IsShown (Time t) words answer → IsExactBy (Time t) answer
    by_time t unrefused stand shown =
        let load = load_of over t in
        let last = horizon load options.bits in
        let short = (few last n unrefused).0 in
        let values = time_values over t in
        let near = AreNearLast last options.bits values vs ws in
        let exact : (s : ℕ) → s < n
        → IsExactUntil by (ForEach over f g values s) (λ b. ForEach over f g values s (λ x. ContainsFrom b last x))
        (IsNearUnless ended (near s)) (IsTrue (sets.goal_must s)) (IsOutOfReach over.chain sets.live_may sets.goal_may s) limit
        (words_answer by (words s) limit) =
        λ s l.
        load_exact over options op q f g vs ws left right over.chain refl load (power_of_ten (over.rate_decimals + t.x)) few_bits short
        (λ s h. h) ended (words s) s l
        (stands_at ended n sets.goal_must (bound_reach over (Time t) sets) (state_words over options (Time t) sets) words stand s l) in
        subst (IsExactBy (Time t)) (sym shown.is) (
          until_are_so over options op q (Time t) f g vs ws values (λ b x. ContainsFrom b last x) near state (λ x. from_widens last x) words
              exact (λ xs stands. stands) shown.watched,
          until_shows over options op q (Time t) f g vs ws values (λ b x. ContainsFrom b last x) near state (λ x. from_widens last x) words
              exact (λ xs stands. stands) shown.watched shown.taken,
        )

    by_reward : (r : DecimalNumber) → bound_refusal over options (Reward r) ≡ None → StandInUntil (Reward r) words
        → IsShown (Reward r) words answer → IsExactBy (Reward r) answer
    by_reward r unrefused stand shown =
        let accept = accepted over options.bits r unrefused in
        let earns = accept.earns in
        let chain = dual over.chain earns.rewards.reward in
        let load = reward_load over earns.rewards r in
        let last = horizon load options.bits in
        let short = (few last n accept.plan).0 in
        let values = reward_values over earns.rewards r in
        let near = AreNearLast last options.bits values vs ws in
        let reached : ℕ → Bool = λ s. can_reach chain.states chain.rate sets.live_may sets.goal_may s in
        let computed : ℕ → WordBracket = λ s. time_words chain load options.bits sets s in
        let earned : StandIn ended n sets.goal_must reached computed words =
        subst (λ (o : Option Rewards). StandIn ended n sets.goal_must
        (λ s. can_reach (dual_by over o).states (dual_by over o).rate sets.live_may sets.goal_may s)
        (λ s. time_words (dual_by over o) (load_by over r o) options.bits sets s) words) earns.are stand in
        let exact : (s : ℕ) → s < n
        → IsExactUntil by (ForEach over f g values s) (λ b. ForEach over f g values s (λ x. ContainsFrom b last x))
        (IsNearUnless ended (near s)) (IsTrue (sets.goal_must s)) (IsOutOfReach over.chain sets.live_may sets.goal_may s) limit
        (words_answer by (words s) limit) =
        λ s l.
        load_exact over options op q f g vs ws left right chain refl load (reward_load_positive over earns r) few_bits short
        (λ s h. stays_out over.chain earns.rewards.reward (holds_at (may_list vs)) (holds_at (may_list ws)) s h) ended (words s) s l
        (stands_at ended n sets.goal_must reached computed words earned s l) in
        let means : (xs : List Bool) → IsSat over (until op q f (Reward r) g) xs
        → HoldsOverBoth n (IsSat over f) (IsSat over g) (λ y z s. SequenceMeets op q (values y z s)) xs =
        λ xs stands. same_rewards over op q r f g xs stands.0 earns stands.1 in
        let due = shown_answer (Some (last_jumps over options (Reward r))) shown.watched (answers_by words) in
        subst (IsExactBy (Reward r)) (sym shown.is) (
          until_are_so over options op q (Reward r) f g vs ws values (λ b x. ContainsFrom b last x) near state (λ x. from_widens last x)
              words exact means shown.watched,
          (
            earns,
            subst (λ k. ShowsUntil over options f g sets by k values (λ b x. ContainsFrom b last x) near limit due)
                (ap (λ o. horizon (load_by over r o) options.bits) earns.are)
                (until_shows over options op q (Reward r) f g vs ws values (λ b x. ContainsFrom b last x) near state
                (λ x. from_widens last x) words exact means shown.watched shown.taken),
          ),
        )

    pub shown_exact : (bound : Bound) → bound_refusal over options bound ≡ None → StandInUntil bound words → IsShown bound words answer
        → AreSo over (until op q f bound g) answer.verdicts × ShowsBound over options bound f g vs ws by limit answer
    shown_exact Unbounded unrefused stand shown = by_reach stand shown
    shown_exact (Time t) unrefused stand shown = by_time t unrefused stand shown
    shown_exact (Reward r) unrefused stand shown = by_reward r unrefused stand shown
