-- How the answers of a next operator are computed.
use Rattle.std.specs.Prelude.{ℕ, Bool, List, map}
use Rattle.std.specs.List.{range_with_len}
use Rattle.ctmc_semantics.specs.Bracket.{Bracket}
use Rattle.ctmc_semantics.specs.Chain.{Chain}
use Rattle.ctmc_semantics.specs.Fraction.{Fraction}
use Rattle.ctmc_semantics.specs.Next.{next_probability}
use Rattle.ctmc_semantics.specs.Threshold.{Comparison}
use Rattle.nested_verdict.specs.BracketAnswer.{bracket_answer}
use Rattle.nested_verdict.specs.declared.state_answer.StateAnswer.{StateAnswer}

-- the probability that the next state is surely of the goal, and that it may be
abbrev pub next_bracket : Chain → (ℕ → Bool) → (ℕ → Bool) → ℕ → Bracket
next_bracket chain must may s = record { low = next_probability chain must s; high = next_probability chain may s }

-- the answers at the first n states, in their order
abbrev pub first_answers : Chain → (ℕ → Bool) → (ℕ → Bool) → Comparison → Fraction → ℕ → List StateAnswer
first_answers chain must may by q n = map (λ s. bracket_answer by (next_bracket chain must may s) q) (range_with_len 0 n)

-- the answers at all states
abbrev pub next_answers : Chain → (ℕ → Bool) → (ℕ → Bool) → Comparison → Fraction → List StateAnswer
next_answers chain must may by q = first_answers chain must may by q chain.states
