-- What is computed of formulas: it has a verdict for each state, it watches nothing, it is the same inside another formula, and it can be
-- printed.
use Rattle.std.proofs.Common.{◌≡◌, ℕ, ◌<◌, true, false, List, [], All, length, map, Option, Some, None, refl, sym, ap, subst, ◌∙◌, arith}
use Rattle.std.proofs.lemmas.List.{get_or-map, length-map}
use Rattle.std.proofs.lemmas.List.FromFn.{length-map-range_with_len}
use Rattle.command_words.specs.declared.command.Options.{Options}
use Rattle.csl_syntax.specs.Tree.{Tree, truth, falsehood, label, negation, conjunction, disjunction, next, until}
use Rattle.csl_syntax.specs.declared.formula.Bound.{Bound}
use Rattle.csl_syntax.specs.declared.formula.Bound.TheVariants.{Unbounded, Time, Reward}
use Rattle.csl_syntax.specs.declared.formula.Op.{Op}
use Rattle.decimal_text.specs.DecimalNumber.{DecimalNumber}
use Rattle.model_core.specs.Model.{LabelledChain}
use Rattle.report.specs.Answer.{AnswerLists, ShownLists, truth_verdict}
use Rattle.report.specs.AnswerText.{IsPrintable, ArePrintable, IsWritable}
use Rattle.report.specs.declared.answer.Printed.{Printed}
use Rattle.report.specs.declared.answer.Verdict.{Verdict}
use Rattle.report.specs.declared.answer.Verdict.TheVariants.{Undecided}
use Rattle.nested_verdict.specs.FormulaAnswer.{first_of, first_refusal, formula_answer, verdicts_answer, shown_answer, next_states, until_states}
use Rattle.nested_verdict.specs.ThreeValues.{opposite_verdict, both_verdicts, either_verdict, verdict_at, opposites, both, either}
use Rattle.nested_verdict.specs.UntilPlan.{IsPlanOf, bound_refusal, last_jumps}
use Rattle.nested_verdict.specs.UnwatchedAnswer.{unwatched_answer}
use Rattle.nested_verdict.specs.WatchedBrackets.{watching}
use Rattle.nested_verdict.specs.declared.state_answer.StateAnswer.{StateAnswer}
use Rattle.nested_verdict.proofs.Places.{parts_counted, verdict_part}
use Rattle.step_core.specs.FrameLists.{SetLists}
use Rattle.step_core.specs.PlanLists.{PlanLists}
use Rattle.step_core.specs.declared.plan_error.PlanError.{PlanError}

-- ---- of two refusals there is none where neither is
pub none_of : (a b : Option PlanError) → first_of a b ≡ None → (a ≡ None) × (b ≡ None)
none_of None b e = (refl, e)
none_of (Some r) b e = cc

pub none_of_all : (a b c : Option PlanError) → a ≡ None → b ≡ None → c ≡ None → first_of (first_of a b) c ≡ None
none_of_all a b c e g h = ap (λ r. first_of (first_of r b) c) e ∙ ap (λ r. first_of r c) g ∙ h

module _ (over : LabelledChain) (options : Options) where
  -- ---- nothing is watched
  pub formula_unwatched : (f : Tree) → unwatched_answer (formula_answer over options f) ≡ formula_answer over options f
  formula_unwatched truth = refl
  formula_unwatched falsehood = refl
  formula_unwatched (label j) = refl
  formula_unwatched (negation f) = refl
  formula_unwatched (conjunction f g) = refl
  formula_unwatched (disjunction f g) = refl
  formula_unwatched (next op q f) = refl
  formula_unwatched (until op q f bound g) = refl

  -- ---- a verdict for each state
  pub verdicts_counted : (f : Tree) → length (formula_answer over options f).verdicts ≡ over.chain.states
  verdicts_counted truth = length-map-range_with_len (λ s. truth_verdict true) 0 over.chain.states
  verdicts_counted falsehood = length-map-range_with_len (λ s. truth_verdict false) 0 over.chain.states
  verdicts_counted (label j) = length-map-range_with_len (λ s. truth_verdict (over.has j s)) 0 over.chain.states
  verdicts_counted (negation f) = length-map (formula_answer over options f).verdicts opposite_verdict ∙ verdicts_counted f
  verdicts_counted (conjunction f g) =
      let vs = (formula_answer over options f).verdicts in
      let ws = (formula_answer over options g).verdicts in
      length-map-range_with_len (λ s. both_verdicts (verdict_at vs s) (verdict_at ws s)) 0 (length vs) ∙ verdicts_counted f
  verdicts_counted (disjunction f g) =
      let vs = (formula_answer over options f).verdicts in
      let ws = (formula_answer over options g).verdicts in
      length-map-range_with_len (λ s. either_verdict (verdict_at vs s) (verdict_at ws s)) 0 (length vs) ∙ verdicts_counted f
  verdicts_counted (next op q f) = parts_counted _ over.chain.states verdict_part
  verdicts_counted (until op q f bound g) = parts_counted _ over.chain.states verdict_part

  -- ---- it is the same however much is watched, and so inside another formula
  abbrev until_by : Options → Op → DecimalNumber → Bound → List Verdict → List Verdict → AnswerLists
  until_by o op q bound vs ws = shown_answer (Some (last_jumps over o bound)) [] (until_states over o op q bound vs ws)

  -- of two operands
  two_same : {X Y : Type 0} (op : X → X → Y) (a b c d : X) → a ≡ b → c ≡ d → op a c ≡ op b d
  two_same op a b c d e g = ap (λ x. op x c) e ∙ ap (op b) g

  module _ (count : ℕ) where
    abbrev other : Options
    other = watching options count

    until_same : (op : Op) (q : DecimalNumber) (bound : Bound) (vs ws : List Verdict)
        → until_by other op q bound vs ws ≡ until_by options op q bound vs ws
    until_same op q Unbounded vs ws = refl
    until_same op q (Time t) vs ws = refl
    until_same op q (Reward r) vs ws = refl

    pub bound_same : (bound : Bound) → bound_refusal over other bound ≡ bound_refusal over options bound
    bound_same Unbounded = refl
    bound_same (Time t) = refl
    bound_same (Reward r) = refl

    pub plan_same : (bound : Bound) (sets : SetLists) (plan : PlanLists) → IsPlanOf over options bound sets plan
        → IsPlanOf over other bound sets plan
    plan_same Unbounded sets plan is = is
    plan_same (Time t) sets plan is = is
    plan_same (Reward r) sets plan is = is

    pub answer_same : (f : Tree) → formula_answer over other f ≡ formula_answer over options f
    answer_same truth = refl
    answer_same falsehood = refl
    answer_same (label j) = refl
    answer_same (negation f) = ap (λ (a : AnswerLists). verdicts_answer (opposites a.verdicts)) (answer_same f)
    answer_same (conjunction f g) =
        two_same (λ (a b : AnswerLists). verdicts_answer (both a.verdicts b.verdicts)) _ _ _ _ (answer_same f) (answer_same g)
    answer_same (disjunction f g) =
        two_same (λ (a b : AnswerLists). verdicts_answer (either a.verdicts b.verdicts)) _ _ _ _ (answer_same f) (answer_same g)
    answer_same (next op q f) =
        ap (λ (a : AnswerLists). shown_answer None [] (next_states over op q a.verdicts)) (answer_same f)
    answer_same (until op q f bound g) =
        two_same (λ (a b : AnswerLists). until_by other op q bound a.verdicts b.verdicts) _ _ _ _ (answer_same f) (answer_same g)
        ∙ until_same op q bound (formula_answer over options f).verdicts (formula_answer over options g).verdicts

    pub refusal_same : (f : Tree) → first_refusal over other f ≡ first_refusal over options f
    refusal_same truth = refl
    refusal_same falsehood = refl
    refusal_same (label j) = refl
    refusal_same (negation f) = refusal_same f
    refusal_same (conjunction f g) = two_same first_of _ _ _ _ (refusal_same f) (refusal_same g)
    refusal_same (disjunction f g) = two_same first_of _ _ _ _ (refusal_same f) (refusal_same g)
    refusal_same (next op q f) = refusal_same f
    refusal_same (until op q f bound g) =
        two_same first_of _ _ _ _ (two_same first_of _ _ _ _ (refusal_same f) (refusal_same g)) (bound_same bound)

-- ---- an answer that shows nothing is its verdicts
pub by_verdicts : (answer : AnswerLists) → answer.shown ≡ None → verdicts_answer answer.verdicts ≡ answer
by_verdicts answer e = ap (λ (s : Option ShownLists). record { verdicts = answer.verdicts; shown = s }) (sym e)

-- ---- what is answered of an operator by the verdicts of its operands is what is computed of it
module _ (over : LabelledChain) (options : Options) (op : Op) (q : DecimalNumber) (f g : Tree) (vs ws : List Verdict)
    (are : vs ≡ (formula_answer over options f).verdicts) where
  pub next_answered : shown_answer None [] (next_states over op q vs) ≡ formula_answer over options (next op q f)
  next_answered = ap (λ vs. shown_answer None [] (next_states over op q vs)) are

  pub until_answered : ws ≡ (formula_answer over options g).verdicts → (bound : Bound)
      → shown_answer (Some (last_jumps over options bound)) [] (until_states over options op q bound vs ws)
      ≡ formula_answer over options (until op q f bound g)
  until_answered too bound =
      ap (λ vs. until_by over options options op q bound vs ws) are
      ∙ ap (until_by over options options op q bound (formula_answer over options f).verdicts) too

-- ---- answers can be printed
some_is_none : (shown : ShownLists) → None ≡ Some shown → ⊥
some_is_none shown e = cc

some_are_same : (a b : ShownLists) → Some a ≡ Some b → a ≡ b
some_are_same a b e = cc

pub verdicts_writable : (vs : List Verdict) (answer : AnswerLists) → answer ≡ verdicts_answer vs → IsWritable answer
verdicts_writable vs answer is = subst IsWritable (sym is) (λ shown e. absurd (some_is_none shown e))

module _ (states : List StateAnswer) (printable : All (λ (a : StateAnswer). IsPrintable a.bracket) states) where
  brackets_printable : All IsPrintable (map (λ (a : StateAnswer). a.bracket) states)
  brackets_printable = λ i d l.
      let a : StateAnswer = record { verdict = Undecided; bracket = d } in
      let inside : i < length states = omega (arith, l, length-map states (λ (a : StateAnswer). a.bracket)) in
      subst IsPrintable (sym (get_or-map (λ (a : StateAnswer). a.bracket) states i a d inside)) (printable i a inside)

  pub shown_writable : (last : Option ℕ) (watched : List Printed) (answer : AnswerLists) → All IsPrintable watched
      → answer ≡ shown_answer last watched states → IsWritable answer
  shown_writable last watched answer are is =
      subst IsWritable (sym is)
      (λ shown e. subst (ArePrintable (length (map (λ (a : StateAnswer). a.verdict) states))) (some_are_same _ shown e) (record {
        watched = are;
        states = brackets_printable;
        each_state = length-map states (λ (a : StateAnswer). a.bracket) ∙ sym (length-map states (λ (a : StateAnswer). a.verdict));
      }))
