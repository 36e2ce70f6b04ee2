-- What a bracket that contains a probability tells of it and its threshold.
use Rattle.std.specs.Prelude.{ℕ, ◌<◌, ◌↔◌}
use Rattle.ctmc_semantics.specs.Fraction.{Fraction}
use Rattle.ctmc_semantics.specs.Threshold.{Comparison, MeetsThreshold}
use Rattle.ctmc_semantics.specs.Value.{NeverFalls, AreFractions, ValueMeets, ValueFails}
use Rattle.ctmc_semantics.specs.Bracket.{Bracket, HasEnds, ContainsProbability, ContainsFrom, ContainsLimit}
use Rattle.ctmc_semantics.specs.Verdict.{BracketSatisfies, BracketRefutes}

-- the value of a constant sequence is its member
abbrev pub ConstantMeets : Type 0
ConstantMeets = (by : Comparison) (p q : Fraction) → 0 < p.den → ValueMeets by (λ n. p) q ↔ MeetsThreshold by p q

-- a value that fails a threshold doesn't meet it
abbrev pub FailingIsNotMeeting : Type 0
FailingIsNotMeeting = (by : Comparison) (x : ℕ → Fraction) (q : Fraction) → ValueFails by x q → ¬ ValueMeets by x q

-- the bracket decides rightly: what it satisfies is met, and what it refutes fails
pub record Decides (b : Bracket) (meets fails : Comparison → Fraction → Type 0) : Type 0 where
  pub satisfied : (by : Comparison) (q : Fraction) → 0 < q.den → BracketSatisfies by b q → meets by q
  pub refuted : (by : Comparison) (q : Fraction) → 0 < q.den → BracketRefutes by b q → fails by q

-- a bracket that contains a probability decides each threshold on it
abbrev pub ProbabilityIsDecided : Type 0
ProbabilityIsDecided =
    (b : Bracket) (p : Fraction) → HasEnds b → 0 < p.den → ContainsProbability b p
    → Decides b (λ by q. MeetsThreshold by p q) (λ by q. ¬ MeetsThreshold by p q)

-- a bracket that contains a bounded until decides each threshold on its value
abbrev pub BoundedUntilIsDecided : Type 0
BoundedUntilIsDecided =
    (b : Bracket) (horizon : ℕ) (x : ℕ → Fraction) → HasEnds b → AreFractions x → NeverFalls x → ContainsFrom b horizon x
    → Decides b (λ by q. ValueMeets by x q) (λ by q. ValueFails by x q)

-- a bracket that contains an unbounded until decides each threshold on its value
abbrev pub UnboundedUntilIsDecided : Type 0
UnboundedUntilIsDecided =
    (b : Bracket) (last : ℕ) (x : ℕ → Fraction) → HasEnds b → AreFractions x → ContainsLimit b last x
    → Decides b (λ by q. ValueMeets by x q) (λ by q. ValueFails by x q)

-- where a bracket neither satisfies nor refutes a threshold, the threshold lies in it
abbrev pub UndecidedIsInside : Type 0
UndecidedIsInside =
    (by : Comparison) (b : Bracket) (q : Fraction) → ¬ BracketSatisfies by b q → ¬ BracketRefutes by b q → ContainsProbability b q
