-- What is shown of an until is exact, by its values and by what it is for a bracket to contain them.
use Rattle.std.proofs.Common.{ℕ, ◌<◌, Bool, IsTrue, List, map, Some, IsSomeAnd, refl, sym, subst}
use Rattle.ctmc_semantics.specs.Bracket.{Bracket}
use Rattle.ctmc_semantics.specs.Fraction.{Fraction, decimal_fraction}
use Rattle.ctmc_semantics.specs.Sets.{KnownSets, holds_at}
use Rattle.ctmc_semantics.specs.Threshold.{Comparison}
use Rattle.ctmc_semantics.specs.WordBracket.{WordBracket}
use Rattle.ctmc_semantics.proofs.VerdictLemmas.{failing_not_meeting}
use Rattle.command_words.specs.declared.command.Options.{Options}
use Rattle.csl_semantics.specs.Meaning.{IsSat, HoldsOverBoth, SequenceMeets, comparison_of}
use Rattle.csl_syntax.specs.Tree.{Tree, until}
use Rattle.csl_syntax.specs.declared.formula.Bound.{Bound}
use Rattle.csl_syntax.specs.declared.formula.Op.{Op}
use Rattle.decimal_text.specs.DecimalNumber.{DecimalNumber}
use Rattle.model_core.specs.Model.{LabelledChain}
use Rattle.report.specs.Answer.{AnswerLists}
use Rattle.report.specs.declared.answer.Printed.{Printed}
use Rattle.report.specs.declared.answer.Verdict.{Verdict}
use Rattle.nested_verdict.specs.EarlyEnd.{MayEndEarly}
use Rattle.nested_verdict.specs.ExactAnswer.{IsSo, AreSo, AreWatched, ForEach, ShowsUntil, IsNearUnless, IsOutOfReach}
use Rattle.nested_verdict.specs.ExactState.{IsExactUntil}
use Rattle.nested_verdict.specs.FormulaAnswer.{shown_answer}
use Rattle.nested_verdict.specs.ThreeValues.{must_list, may_list, verdicts_know}
use Rattle.nested_verdict.specs.UntilAnswer.{first_answers, words_answer}
use Rattle.nested_verdict.specs.UntilPlan.{last_jumps}
use Rattle.nested_verdict.specs.WatchedBrackets.{AreTaken, AreTakenOf}
use Rattle.nested_verdict.specs.declared.state_answer.StateAnswer.{StateAnswer}
use Rattle.nested_verdict.proofs.OperatorsSo.{so_by}
use Rattle.nested_verdict.proofs.Places.{answers, bracket_part, exact_at, part_here, parts_counted, so_at, verdict_part, verdicts_by}
use Rattle.nested_verdict.proofs.WatchedLemmas.{all_contain}
use Rattle.nested_verdict.proofs.Widening.{Widens}

module _ (over : LabelledChain) (options : Options) (op : Op) (q : DecimalNumber) (bound : Bound) (f g : Tree) (vs ws : List Verdict)
    (values : (ℕ → Bool) → (ℕ → Bool) → ℕ → ℕ → Fraction) (Contains : Bracket → (ℕ → Fraction) → Type 0)
    (AreNear : ℕ → WordBracket → Type 0) (state : options.state < over.chain.states)
    (widens : (x : ℕ → Fraction) → Widens (λ b. Contains b x)) (words : ℕ → WordBracket)
    (exact : (s : ℕ) → s < over.chain.states
    → IsExactUntil (comparison_of op) (ForEach over f g values s) (λ b. ForEach over f g values s (Contains b))
    (IsNearUnless (MayEndEarly options (verdicts_by words (comparison_of op) (decimal_fraction q.c q.x) over.chain.states)) (AreNear s))
    (IsTrue (holds_at (must_list ws) s)) (IsOutOfReach over.chain (holds_at (may_list vs)) (holds_at (may_list ws)) s)
    (decimal_fraction q.c q.x) (words_answer (comparison_of op) (words s) (decimal_fraction q.c q.x)))
    (means : (xs : List Bool) → IsSat over (until op q f bound g) xs
    → HoldsOverBoth over.chain.states (IsSat over f) (IsSat over g) (λ y z s. SequenceMeets op q (values y z s)) xs) where
  abbrev n : ℕ
  n = over.chain.states

  abbrev by : Comparison
  by = comparison_of op

  abbrev limit : Fraction
  limit = decimal_fraction q.c q.x

  abbrev sets : KnownSets
  sets = verdicts_know vs ws

  abbrev until_at : ℕ → StateAnswer
  until_at s = words_answer by (words s) limit

  abbrev EachContains : ℕ → Bracket → Type 0
  EachContains s b = ForEach over f g values s (Contains b)

  each_widens : (s : ℕ) → Widens (EachContains s)
  each_widens s outer inner ends encloses contains = λ ys zs stands other.
      widens (values (holds_at ys) (holds_at zs) s) outer inner ends encloses (contains ys zs stands other)

  until_so : (xs : List Bool) → IsSat over (until op q f bound g) xs → (s : ℕ) → s < n → IsSo (holds_at xs s) (until_at s).verdict
  until_so xs stands s l =
      let m = means xs stands in
      let here = m.holds.exact s l in
      let told = exact s l in
      so_by (holds_at xs s) (until_at s).verdict (λ e. here.1 (told.meets e m.left m.right m.stands_left m.stands_right))
      (λ e h. failing_not_meeting by (values (holds_at m.left) (holds_at m.right) s) limit
      (told.fails e m.left m.right m.stands_left m.stands_right) (here.0 h))

  abbrev due : List Printed → AnswerLists
  due watched = shown_answer (Some (last_jumps over options bound)) watched (first_answers words by limit n)

  pub until_are_so : (watched : List Printed) → AreSo over (until op q f bound g) (due watched).verdicts
  until_are_so watched = record {
    each_state = parts_counted until_at n verdict_part;
    so = λ xs stands. so_at until_at n (holds_at xs) (until_so xs stands);
  }

  abbrev printed_here : List Printed
  printed_here = map bracket_part (answers until_at n)

  module _ (watched : List Printed) (are : AreTakenOf options printed_here watched) where
    taken_so : AreTaken (until_at options.state).bracket watched
    taken_so = are.taken (until_at options.state).bracket (part_here until_at n bracket_part options.state state)

    watched_so : AreWatched options.watch (EachContains options.state) (until_at options.state).bracket watched
    watched_so = record {
      counted = are.counted;
      contain =
          all_contain (until_at options.state).bracket watched taken_so (EachContains options.state) (each_widens options.state)
          (exact options.state state).contains;
      taken = taken_so;
    }

    pub until_shows : ShowsUntil over options f g sets by (last_jumps over options bound) values Contains AreNear limit (due watched)
    until_shows = record {
      watched = watched;
      states = printed_here;
      shown = refl;
      exact =
          exact_at until_at n
          (λ s. IsExactUntil by (ForEach over f g values s) (EachContains s)
          (IsNearUnless (MayEndEarly options (verdicts_by words by limit n)) (AreNear s)) (IsTrue (sets.goal_must s))
          (IsOutOfReach over.chain sets.live_may sets.goal_may s) limit) exact;
      watches =
          subst (λ o. IsSomeAnd o (λ printed. AreWatched options.watch (EachContains options.state) printed watched))
          (sym (part_here until_at n bracket_part options.state state)) watched_so;
    }
