-- What is computed of a formula over a labelled chain.
use Rattle.std.specs.Prelude.{ℕ, Bool, true, false, List, [], map, Option, Some, None}
use Rattle.std.specs.List.{range_with_len}
use Rattle.ctmc_semantics.specs.Fraction.{decimal_fraction}
use Rattle.ctmc_semantics.specs.Sets.{holds_at}
use Rattle.command_words.specs.declared.command.Options.{Options}
use Rattle.csl_semantics.specs.Meaning.{comparison_of}
use Rattle.csl_syntax.specs.Tree.{Tree, truth, falsehood, label, negation, conjunction, disjunction, next, until}
use Rattle.csl_syntax.specs.declared.formula.Bound.{Bound}
use Rattle.csl_syntax.specs.declared.formula.Op.{Op}
use Rattle.decimal_text.specs.DecimalNumber.{DecimalNumber}
use Rattle.model_core.specs.Model.{LabelledChain}
use Rattle.report.specs.Answer.{AnswerLists, truth_verdict}
use Rattle.report.specs.declared.answer.Printed.{Printed}
use Rattle.report.specs.declared.answer.Verdict.{Verdict}
use Rattle.step_core.specs.declared.plan_error.PlanError.{PlanError}
use Rattle.nested_verdict.specs.NextAnswer.{next_answers}
use Rattle.nested_verdict.specs.ThreeValues.{must_list, may_list, verdicts_know, opposites, both, either}
use Rattle.nested_verdict.specs.UntilAnswer.{until_answers}
use Rattle.nested_verdict.specs.UntilPlan.{bound_refusal, last_jumps}
use Rattle.nested_verdict.specs.declared.state_answer.StateAnswer.{StateAnswer}

-- the answer to a formula that is no probability operator
abbrev pub verdicts_answer : List Verdict → AnswerLists
verdicts_answer verdicts = record { verdicts = verdicts; shown = None }

-- the answer to a probability operator, by the answers at the states
abbrev pub shown_answer : Option ℕ → List Printed → List StateAnswer → AnswerLists
shown_answer horizon watched states = record {
  verdicts = map (λ a. a.verdict) states;
  shown = Some (record { horizon = horizon; watched = watched; states = map (λ a. a.bracket) states });
}

-- the verdicts of truth values, of each of n states
abbrev pub truth_verdicts : ℕ → (ℕ → Bool) → List Verdict
truth_verdicts n holds = map (λ s. truth_verdict (holds s)) (range_with_len 0 n)

abbrev pub next_states : LabelledChain → Op → DecimalNumber → List Verdict → List StateAnswer
next_states over op q goal =
    next_answers over.chain (holds_at (must_list goal)) (holds_at (may_list goal)) (comparison_of op) (decimal_fraction q.c q.x)

abbrev pub until_states : LabelledChain → Options → Op → DecimalNumber → Bound → List Verdict → List Verdict → List StateAnswer
until_states over options op q bound live goal =
    until_answers over options bound (verdicts_know live goal) (comparison_of op) (decimal_fraction q.c q.x)

-- of two refusals the first one counts
abbrev pub first_of : Option PlanError → Option PlanError → Option PlanError
first_of (Some refusal) later = Some refusal
first_of None later = later

-- why the formula is refused: the refusal of the first of its untils that has no plan. Operands come before their operator, and the left one
-- before the right one
abbrev pub first_refusal : LabelledChain → Options → Tree → Option PlanError
first_refusal over options truth = None
first_refusal over options falsehood = None
first_refusal over options (label j) = None
first_refusal over options (negation f) = first_refusal over options f
first_refusal over options (conjunction f g) = first_of (first_refusal over options f) (first_refusal over options g)
first_refusal over options (disjunction f g) = first_of (first_refusal over options f) (first_refusal over options g)
first_refusal over options (next op q f) = first_refusal over options f
first_refusal over options (until op q f bound g) =
    first_of (first_of (first_refusal over options f) (first_refusal over options g)) (bound_refusal over options bound)

-- the answer to a formula that isn't refused, but for the brackets of the watched state: that of an operator by its operands' verdicts
abbrev pub formula_answer : LabelledChain → Options → Tree → AnswerLists
formula_answer over options truth = verdicts_answer (truth_verdicts over.chain.states (λ s. true))
formula_answer over options falsehood = verdicts_answer (truth_verdicts over.chain.states (λ s. false))
formula_answer over options (label j) = verdicts_answer (truth_verdicts over.chain.states (over.has j))
formula_answer over options (negation f) = verdicts_answer (opposites (formula_answer over options f).verdicts)
formula_answer over options (conjunction f g) =
    verdicts_answer (both (formula_answer over options f).verdicts (formula_answer over options g).verdicts)
formula_answer over options (disjunction f g) =
    verdicts_answer (either (formula_answer over options f).verdicts (formula_answer over options g).verdicts)
formula_answer over options (next op q f) = shown_answer None [] (next_states over op q (formula_answer over options f).verdicts)
formula_answer over options (until op q f bound g) =
    shown_answer (Some (last_jumps over options bound)) []
    (until_states over options op q bound (formula_answer over options f).verdicts (formula_answer over options g).verdicts)
