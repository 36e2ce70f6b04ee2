-- The answer to a formula is exact.
use Rattle.std.proofs.Common.{◌≡◌, ◌≢◌, ℕ, ◌<◌, ◌≤◌, ◌↔◌, Bool, true, false, IsTrue, List, [], map, Option, Some, None, IsSomeAnd, refl, sym, ap, subst, subst₂, ◌∙◌, arith}
use Rattle.std.proofs.lemmas.Bool.{false≢true}
use Rattle.std.proofs.lemmas.List.FromFn.{get_or-map-range_with_len, length-map-range_with_len}
use Rattle.ctmc_semantics.specs.Sets.{holds_at}
use Rattle.ctmc_semantics.specs.WordBracket.{WordBracket}
use Rattle.command_words.specs.declared.command.Options.{Options}
use Rattle.ctmc_semantics.specs.Fraction.{decimal_fraction}
use Rattle.nested_verdict.specs.UntilAnswer.{first_answers, state_words}
use Rattle.csl_semantics.specs.Meaning.{IsSat, comparison_of}
use Rattle.csl_syntax.specs.Tree.{Tree, truth, falsehood, label, negation, conjunction, disjunction, next, until}
use Rattle.csl_syntax.specs.declared.formula.Bound.{Bound}
use Rattle.csl_syntax.specs.declared.formula.Op.{Op}
use Rattle.decimal_text.specs.DecimalNumber.{DecimalNumber}
use Rattle.model_core.specs.Model.{LabelledChain}
use Rattle.report.specs.Answer.{AnswerLists, truth_verdict}
use Rattle.report.specs.declared.answer.Printed.{Printed}
use Rattle.report.specs.declared.answer.Verdict.{Verdict}
use Rattle.report.specs.declared.answer.Verdict.TheVariants.{Undecided}
use Rattle.nested_verdict.specs.ExactAnswer.{IsSo, AreSo, IsDecided, ForOperand, IsExactAnswer, unwatched}
use Rattle.nested_verdict.specs.FormulaAnswer.{first_of, first_refusal, formula_answer, verdicts_answer, shown_answer, next_states, until_states, truth_verdicts}
use Rattle.nested_verdict.specs.ThreeValues.{opposites, both, either, verdicts_know}
use Rattle.nested_verdict.specs.UntilPlan.{bound_refusal, last_jumps}
use Rattle.nested_verdict.specs.UnwatchedAnswer.{unwatched_answer}
use Rattle.nested_verdict.specs.WatchedBrackets.{IsWatched}
use Rattle.nested_verdict.proofs.ExactBounds.{StandInUntil, computed_stand, is_shown, shown_exact}
use Rattle.nested_verdict.proofs.ExactNext.{next_are_so, next_shows}
use Rattle.nested_verdict.proofs.FormulaAnswers.{answer_same, formula_unwatched, none_of, refusal_same}
use Rattle.nested_verdict.proofs.OperatorsSo.{both_are_so, either_are_so, opposites_so}
use Rattle.nested_verdict.proofs.Places.{place_here}
use Rattle.nested_verdict.proofs.Unwatched.{inside, inside_watched}
use Rattle.nested_verdict.proofs.WatchedLemmas.{answer_with, whole_verdicts, filled, filled_are}

-- ---- a formula without operators
truth_so : (x holds : Bool) → IsTrue x ↔ IsTrue holds → IsSo x (truth_verdict holds)
truth_so x true means = means.1 refl
truth_so true false means = absurd (false≢true (means.0 refl))
truth_so false false means = refl

truth_decided : (holds : Bool) → truth_verdict holds ≢ Undecided
truth_decided true e = cc
truth_decided false e = cc

module _ (over : LabelledChain) (f : Tree) (holds : ℕ → Bool)
    (means : (xs : List Bool) → IsSat over f xs → (s : ℕ) → s < over.chain.states → IsTrue (holds_at xs s) ↔ IsTrue (holds s)) where
  abbrev n : ℕ
  n = over.chain.states

  abbrev verdict : ℕ → Verdict
  verdict s = truth_verdict (holds s)

  truths_so : AreSo over f (truth_verdicts n holds)
  truths_so = record {
    each_state = length-map-range_with_len verdict 0 n;
    so = λ xs stands s l.
        subst (λ o. IsSomeAnd o (IsSo (holds_at xs s))) (sym (place_here verdict n s l))
        (truth_so (holds_at xs s) (holds s) (means xs stands s l));
  }

  truths_decided : IsDecided (verdicts_answer (truth_verdicts n holds))
  truths_decided = record {
    decided = λ i d l.
        subst (λ v. v ≢ Undecided)
        (sym (get_or-map-range_with_len verdict 0 n i i d (omega (arith, l, length-map-range_with_len verdict 0 n)) (omega arith)))
        (truth_decided (holds i));
    unshown = refl;
  }

  truths_exact : (answer : AnswerLists) → unwatched_answer answer ≡ verdicts_answer (truth_verdicts n holds)
      → AreSo over f answer.verdicts × IsDecided answer
  truths_exact answer e =
      subst (λ (a : AnswerLists). AreSo over f a.verdicts × IsDecided a) (sym (whole_verdicts answer (truth_verdicts n holds) e))
      (truths_so, truths_decided)

-- ---- an exact answer has verdicts that are so
answer_so : (over : LabelledChain) (options : Options) (f : Tree) (answer : AnswerLists) → IsExactAnswer over options f answer
    → AreSo over f answer.verdicts
answer_so over options truth answer h = h.0
answer_so over options falsehood answer h = h.0
answer_so over options (label j) answer h = h.0
answer_so over options (negation f) answer h = h.0
answer_so over options (conjunction f g) answer h = h.0
answer_so over options (disjunction f g) answer h = h.0
answer_so over options (next op q f) answer h = h.0
answer_so over options (until op q f bound g) answer h = h.0

module _ (over : LabelledChain) (options : Options) where
  abbrev IsExactInside : Tree → Type 0
  IsExactInside f = IsExactAnswer over (unwatched options) f (inside over options f)

  abbrev of : Tree → List Verdict
  of f = (inside over options f).verdicts

  inside_so : (f : Tree) → IsExactInside f → AreSo over f (of f)
  inside_so f h = answer_so over (unwatched options) f (inside over options f) h

  -- the verdicts of operands as they are computed
  of_one : {X : Type 0} (make : List Verdict → X) (f : Tree) → make (formula_answer over options f).verdicts ≡ make (of f)
  of_one make f = ap (λ (a : AnswerLists). make a.verdicts) (sym (answer_same over options 0 f))

  of_two : {X : Type 0} (make : List Verdict → List Verdict → X) (f g : Tree)
      → make (formula_answer over options f).verdicts (formula_answer over options g).verdicts
      ≡ make (of f) (of g)
  of_two make f g =
      of_one (λ vs. make vs (formula_answer over options g).verdicts) f ∙ of_one (make (of f)) g

  for_operand : (f : Tree) → IsExactInside f → (P : List Verdict → Type 0) → P (of f)
      → ForOperand (IsExactAnswer over (unwatched options) f) P
  for_operand f exact P h = record { operand = inside over options f; exact = exact; holds = h }

  -- ---- `!`, `&&` and `||`
  negation_exact : (f : Tree) → IsExactInside f → (answer : AnswerLists)
      → unwatched_answer answer ≡ formula_answer over options (negation f) → IsExactAnswer over options (negation f) answer
  negation_exact f exact answer e =
      let is : answer ≡ verdicts_answer (opposites (of f)) =
      whole_verdicts answer (opposites (of f)) (e ∙ of_one (λ vs. verdicts_answer (opposites vs)) f) in (
        subst (λ (a : AnswerLists). AreSo over (negation f) a.verdicts) (sym is) (opposites_so over f (of f) (inside_so f exact)),
        for_operand f exact (λ vs. answer ≡ verdicts_answer (opposites vs)) is,
      )

  module _ (f g : Tree) (left : IsExactInside f) (right : IsExactInside g) (answer : AnswerLists) where
    conjunction_exact : unwatched_answer answer ≡ formula_answer over options (conjunction f g)
        → IsExactAnswer over options (conjunction f g) answer
    conjunction_exact e =
        let is : answer ≡ verdicts_answer (both (of f) (of g)) =
        whole_verdicts answer (both (of f) (of g)) (e ∙ of_two (λ vs ws. verdicts_answer (both vs ws)) f g) in (
          subst (λ (a : AnswerLists). AreSo over (conjunction f g) a.verdicts) (sym is)
              (both_are_so over f (of f) (inside_so f left) g (of g) (inside_so g right)),
          for_operand f left _ (for_operand g right (λ ws. answer ≡ verdicts_answer (both (of f) ws)) is),
        )

    disjunction_exact : unwatched_answer answer ≡ formula_answer over options (disjunction f g)
        → IsExactAnswer over options (disjunction f g) answer
    disjunction_exact e =
        let is : answer ≡ verdicts_answer (either (of f) (of g)) =
        whole_verdicts answer (either (of f) (of g)) (e ∙ of_two (λ vs ws. verdicts_answer (either vs ws)) f g) in (
          subst (λ (a : AnswerLists). AreSo over (disjunction f g) a.verdicts) (sym is)
              (either_are_so over f (of f) (inside_so f left) g (of g) (inside_so g right)),
          for_operand f left _ (for_operand g right (λ ws. answer ≡ verdicts_answer (either (of f) ws)) is),
        )

  -- ---- a next
  next_exact : (op : Op) (q : DecimalNumber) (f : Tree) → IsExactInside f → (answer : AnswerLists)
      → unwatched_answer answer ≡ formula_answer over options (next op q f) → IsWatched options answer
      → IsExactAnswer over options (next op q f) answer
  next_exact op q f exact answer e w =
      let due = shown_answer None [] (next_states over op q (of f)) in
      let states = map (λ a. a.bracket) (next_states over op q (of f)) in
      let found = filled answer due.verdicts None states (e ∙ of_one (λ vs. shown_answer None [] (next_states over op q vs)) f) in
      let is : answer ≡ due =
      found.is
      ∙ ap (λ (ws : List Printed). answer_with due.verdicts (Some (record { horizon = None; watched = ws; states = states })))
      (filled_are options answer due.verdicts None states w found) in
      subst (IsExactAnswer over options (next op q f)) (sym is)
      (next_are_so over op q f (of f) (inside_so f exact), for_operand f exact _ (next_shows over op q f (of f) (inside_so f exact)))

  -- ---- an until
  module _ (op : Op) (q : DecimalNumber) (f g : Tree) (left : IsExactInside f) (right : IsExactInside g) (few_bits : options.bits ≤ 48)
      (state : options.state < over.chain.states) (bound : Bound) (unrefused : bound_refusal over options bound ≡ None)
      (answer : AnswerLists) where
    abbrev last : Option ℕ
    last = Some (last_jumps over options bound)

    -- by words in the place of those that are computed
    until_by_words : (words : ℕ → WordBracket) → StandInUntil over options op q f g (of f) (of g) bound words
        → unwatched_answer answer
        ≡ shown_answer last [] (first_answers words (comparison_of op) (decimal_fraction q.c q.x) over.chain.states)
        → IsWatched options answer → IsExactAnswer over options (until op q f bound g) answer
    until_by_words words stand e w =
        let shown =
        shown_exact over options op q f g (of f) (of g) (inside_so f left) (inside_so g right) few_bits state words answer bound unrefused
        stand (is_shown over options op q f g (of f) (of g) bound words answer e w) in
        (shown.0, for_operand f left _ (for_operand g right _ shown.1))

    until_exact : unwatched_answer answer ≡ formula_answer over options (until op q f bound g) → IsWatched options answer
        → IsExactAnswer over options (until op q f bound g) answer
    until_exact e w =
        until_by_words (state_words over options bound (verdicts_know (of f) (of g)))
        (computed_stand over options op q f g (of f) (of g) bound)
        (e ∙ of_two (λ vs ws. shown_answer last [] (until_states over options op q bound vs ws)) f g) w

-- ---- every formula that is answered
pub formula_exact : (over : LabelledChain) (options : Options) (f : Tree) (answer : AnswerLists) → options.bits ≤ 48 → options.state < over.chain.states → first_refusal over options f ≡ None
    → unwatched_answer answer ≡ formula_answer over options f → IsWatched options answer → IsExactAnswer over options f answer
formula_exact over options truth answer few_bits state unrefused e w =
    truths_exact over truth (λ s. true) (λ xs stands s l. ((λ h. refl), (λ h. (stands.exact s l).1 tt))) answer e
formula_exact over options falsehood answer few_bits state unrefused e w =
    truths_exact over falsehood (λ s. false)
    (λ xs stands s l. ((λ h. absurd ((stands.exact s l).0 h)), (λ h. absurd (false≢true h)))) answer e
formula_exact over options (label j) answer few_bits state unrefused e w =
    truths_exact over (label j) (over.has j) (λ xs stands s l. stands.exact s l) answer e
formula_exact over options (negation f) answer few_bits state unrefused e w =
    negation_exact over options f (formula_exact over (unwatched options) f (inside over options f) few_bits state (refusal_same over options 0 f ∙ unrefused)
    (formula_unwatched over (unwatched options) f) (inside_watched over options f)) answer e
formula_exact over options (conjunction f g) answer few_bits state unrefused e w =
    let none = none_of (first_refusal over options f) (first_refusal over options g) unrefused in
    conjunction_exact over options f g (formula_exact over (unwatched options) f (inside over options f) few_bits state (refusal_same over options 0 f ∙ none.0)
    (formula_unwatched over (unwatched options) f) (inside_watched over options f))
    (formula_exact over (unwatched options) g (inside over options g) few_bits state (refusal_same over options 0 g ∙ none.1)
    (formula_unwatched over (unwatched options) g) (inside_watched over options g)) answer e
formula_exact over options (disjunction f g) answer few_bits state unrefused e w =
    let none = none_of (first_refusal over options f) (first_refusal over options g) unrefused in
    disjunction_exact over options f g (formula_exact over (unwatched options) f (inside over options f) few_bits state (refusal_same over options 0 f ∙ none.0)
    (formula_unwatched over (unwatched options) f) (inside_watched over options f))
    (formula_exact over (unwatched options) g (inside over options g) few_bits state (refusal_same over options 0 g ∙ none.1)
    (formula_unwatched over (unwatched options) g) (inside_watched over options g)) answer e
formula_exact over options (next op q f) answer few_bits state unrefused e w =
    next_exact over options op q f (formula_exact over (unwatched options) f (inside over options f) few_bits state (refusal_same over options 0 f ∙ unrefused)
    (formula_unwatched over (unwatched options) f) (inside_watched over options f)) answer e w
formula_exact over options (until op q f bound g) answer few_bits state unrefused e w =
    let operands = first_of (first_refusal over options f) (first_refusal over options g) in
    let none = none_of operands (bound_refusal over options bound) unrefused in
    let both = none_of (first_refusal over options f) (first_refusal over options g) none.0 in
    let left =
    formula_exact over (unwatched options) f (inside over options f) few_bits state (refusal_same over options 0 f ∙ both.0)
    (formula_unwatched over (unwatched options) f) (inside_watched over options f) in
    let right =
    formula_exact over (unwatched options) g (inside over options g) few_bits state (refusal_same over options 0 g ∙ both.1)
    (formula_unwatched over (unwatched options) g) (inside_watched over options g) in
    until_exact over options op q f g left right few_bits state bound none.1 answer e w

-- ---- an operand is exact as it is computed
module _ (over : LabelledChain) (options : Options) (few_bits : options.bits ≤ 48) (state : options.state < over.chain.states) where
  inside_exact : (f : Tree) → first_refusal over options f ≡ None → IsExactInside over options f
  inside_exact f unrefused =
      formula_exact over (unwatched options) f (inside over options f) few_bits state (refusal_same over options 0 f ∙ unrefused)
      (formula_unwatched over (unwatched options) f) (inside_watched over options f)

  -- and so an answer to an until whose words stand in the place of those that are computed is exact
  pub until_words_exact : (op : Op) (q : DecimalNumber) (f : Tree) (bound : Bound) (g : Tree)
      → first_refusal over options (until op q f bound g) ≡ None → (vs ws : List Verdict)
      → vs ≡ (formula_answer over options f).verdicts → ws ≡ (formula_answer over options g).verdicts → (words : ℕ → WordBracket)
      → StandInUntil over options op q f g vs ws bound words → (answer : AnswerLists)
      → unwatched_answer answer
      ≡ shown_answer (Some (last_jumps over options bound)) []
      (first_answers words (comparison_of op) (decimal_fraction q.c q.x) over.chain.states)
      → IsWatched options answer → IsExactAnswer over options (until op q f bound g) answer
  until_words_exact op q f bound g unrefused vs ws are too words stand answer e w =
      let operands = first_of (first_refusal over options f) (first_refusal over options g) in
      let none = none_of operands (bound_refusal over options bound) unrefused in
      let both = none_of (first_refusal over options f) (first_refusal over options g) none.0 in
      let inner : vs ≡ of over options f = are ∙ of_one over options (λ us. us) f in
      let outer : ws ≡ of over options g = too ∙ of_one over options (λ us. us) g in
      until_by_words over options op q f g (inside_exact f both.0) (inside_exact g both.1) few_bits state bound none.1 answer words
      (subst₂ (λ us ys. StandInUntil over options op q f g us ys bound words) inner outer stand) e w
