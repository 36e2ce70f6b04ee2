-- The answer to a next over an operand whose verdicts are so is exact.
use Rattle.std.proofs.Common.{ℕ, ◌^◌, ◌<◌, Bool, List, [], map, None, IsSomeAnd, refl, sym, subst, arith}
use Rattle.ctmc_semantics.specs.Bracket.{Bracket, HasEnds, ContainsProbability, printed_bracket}
use Rattle.ctmc_semantics.specs.Fraction.{Fraction, decimal_fraction}
use Rattle.ctmc_semantics.specs.Next.{next_probability}
use Rattle.ctmc_semantics.specs.Sets.{holds_at}
use Rattle.ctmc_semantics.specs.Threshold.{Comparison, MeetsThreshold}
use Rattle.ctmc_semantics.specs.VerdictLaws.{Decides}
use Rattle.ctmc_semantics.proofs.Powers.{power_le}
use Rattle.ctmc_semantics.proofs.VerdictLemmas.{probability_decided}
use Rattle.csl_semantics.specs.Meaning.{IsSat, comparison_of}
use Rattle.csl_syntax.specs.Tree.{Tree, next}
use Rattle.csl_syntax.specs.declared.formula.Op.{Op}
use Rattle.decimal_text.specs.DecimalNumber.{DecimalNumber}
use Rattle.model_core.specs.Model.{LabelledChain}
use Rattle.report.specs.declared.answer.Verdict.{Verdict}
use Rattle.nested_verdict.specs.ExactAnswer.{IsSo, AreSo, ShowsNext}
use Rattle.nested_verdict.specs.ExactState.{IsExactNext}
use Rattle.nested_verdict.specs.BracketAnswer.{bracket_answer}
use Rattle.nested_verdict.specs.FormulaAnswer.{shown_answer, next_states}
use Rattle.nested_verdict.specs.NextAnswer.{next_bracket}
use Rattle.nested_verdict.specs.ThreeValues.{must_list, may_list}
use Rattle.nested_verdict.specs.declared.state_answer.StateAnswer.{StateAnswer}
use Rattle.nested_verdict.proofs.ExactAnswers.{next_answer_exact, printed_contains}
use Rattle.nested_verdict.proofs.NextGrows.{next_ends, next_grows, next_contained}
use Rattle.nested_verdict.proofs.OperandSets.{holds_may, must_holds, must_may}
use Rattle.nested_verdict.proofs.OperatorsSo.{so_by}
use Rattle.nested_verdict.proofs.Places.{answers, bracket_part, exact_at, part_here, parts_counted, so_at, verdict_part}

power_of_ten : (k : ℕ) → 0 < 10 ^ k
power_of_ten k = omega (arith, power_le 10 0 k (omega arith) (omega arith))

module _ (over : LabelledChain) (op : Op) (q : DecimalNumber) (f : Tree) (vs : List Verdict) (operand : AreSo over f vs) where
  abbrev n : ℕ
  n = over.chain.states

  abbrev by : Comparison
  by = comparison_of op

  abbrev limit : Fraction
  limit = decimal_fraction q.c q.x

  abbrev bracket : ℕ → Bracket
  bracket s = next_bracket over.chain (holds_at (must_list vs)) (holds_at (may_list vs)) s

  abbrev next_at : ℕ → StateAnswer
  next_at s = bracket_answer by (bracket s) limit

  ends : (s : ℕ) → HasEnds (bracket s)
  ends s = next_ends over.chain s (holds_at (must_list vs)) (holds_at (may_list vs))

  next_exact_at : (s : ℕ) → IsExactNext by (bracket s) limit (next_at s)
  next_exact_at s =
      next_answer_exact by (bracket s) limit (ends s) (power_of_ten q.x)
      (next_grows over.chain s (holds_at (must_list vs)) (holds_at (may_list vs)) (must_may vs))

  module _ (ys : List Bool) (stands : IsSat over f ys) (s : ℕ) where
    abbrev probability : Fraction
    probability = next_probability over.chain (holds_at ys) s

    contained : ContainsProbability (bracket s) probability
    contained =
        next_contained over.chain s (holds_at (must_list vs)) (holds_at ys) (holds_at (may_list vs))
        (must_holds over f vs operand ys stands) (holds_may over f vs operand ys stands)

    decides : Decides (bracket s) (λ by q. MeetsThreshold by probability q) (λ by q. ¬ MeetsThreshold by probability q)
    decides = probability_decided (bracket s) probability (ends s) (omega arith) contained

  next_so : (xs : List Bool) → IsSat over (next op q f) xs → (s : ℕ) → s < n → IsSo (holds_at xs s) (next_at s).verdict
  next_so xs stands s l =
      let told = decides stands.operand stands.stands s in
      let means = stands.holds.exact s l in
      let exact = next_exact_at s in
      so_by (holds_at xs s) (next_at s).verdict
      (λ e. means.1 (told.satisfied by limit (power_of_ten q.x) (exact.satisfied.0 e)))
      (λ e h. told.refuted by limit (power_of_ten q.x) (exact.refuted.0 e) (means.0 h))

  pub next_are_so : AreSo over (next op q f) (shown_answer None [] (next_states over op q vs)).verdicts
  next_are_so = record {
    each_state = parts_counted next_at n verdict_part;
    so = λ xs stands. so_at next_at n (holds_at xs) (next_so xs stands);
  }

  pub next_shows : ShowsNext over f vs by limit (shown_answer None [] (next_states over op q vs))
  next_shows = record {
    states = map bracket_part (answers next_at n);
    shown = refl;
    exact = exact_at next_at n (λ s. IsExactNext by (bracket s) limit) (λ s l. next_exact_at s);
    contains = λ ys stands s l.
        subst (λ o. IsSomeAnd o (λ b. ContainsProbability (printed_bracket b.low b.high) (probability ys stands s)))
        (sym (part_here next_at n bracket_part s l))
        (printed_contains (bracket s) (probability ys stands s) (ends s) (contained ys stands s));
  }
