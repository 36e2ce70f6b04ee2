-- What a formula means over a labelled chain: which list of truth values, one for each state, stands for it.
-- (Baier, Haverkort, Hermanns, Katoen 2003; the value of an until is that of the chain's uniformisation, which never falls with the jumps
-- that are looked at, and no limit is formed)
use Rattle.std.specs.Prelude.{◌≡◌, ℕ, ◌<◌, ◌⊎◌, ◌↔◌, Bool, IsTrue, List, length, ⊤}
use Rattle.ctmc_semantics.specs.Fraction.{Fraction, decimal_fraction}
use Rattle.ctmc_semantics.specs.JumpValue.{jump_fraction}
use Rattle.ctmc_semantics.specs.Next.{next_probability}
use Rattle.ctmc_semantics.specs.Poisson.{until_average}
use Rattle.ctmc_semantics.specs.Sets.{holds_at}
use Rattle.ctmc_semantics.specs.Threshold
use Rattle.ctmc_semantics.specs.Threshold.{Comparison, MeetsThreshold}
use Rattle.ctmc_semantics.specs.Uniformised.{time_load, uniformised}
use Rattle.ctmc_semantics.specs.Value.{ValueMeets}
use Rattle.csl_semantics.specs.Dual.{EarnsEverywhere, dual, reward_load}
use Rattle.csl_syntax.specs.Tree.{Tree, truth, falsehood, label, negation, conjunction, disjunction, next, until}
use Rattle.csl_syntax.specs.declared.formula.Bound.TheVariants.{Unbounded, Time, Reward}
use Rattle.csl_syntax.specs.declared.formula.Op.{Op}
use Rattle.csl_syntax.specs.declared.formula.Op.TheVariants.{Less, AtMost, More, AtLeast}
use Rattle.decimal_text.specs.DecimalNumber.{DecimalNumber}
use Rattle.model_core.specs.Model.{LabelledChain, Rewards}

-- what a comparison of the language means
abbrev pub comparison_of : Op → Comparison
comparison_of Less = Threshold.Less
comparison_of AtMost = Threshold.AtMost
comparison_of More = Threshold.More
comparison_of AtLeast = Threshold.AtLeast

-- the list has a truth value for each of the n states, and it is true exactly at those of which P holds
pub record HoldsExactly (n : ℕ) (P : ℕ → Type 0) (xs : List Bool) : Type 0 where
  pub each : length xs ≡ n
  pub exact : (s : ℕ) → s < n → IsTrue (holds_at xs s) ↔ P s

-- a list stands for the operand, and the other one is true exactly where P holds of this operand
pub record HoldsOver (n : ℕ) (Operand : List Bool → Type 0) (P : (ℕ → Bool) → ℕ → Type 0) (xs : List Bool) : Type 0 where
  pub operand : List Bool
  pub stands : Operand operand
  pub holds : HoldsExactly n (P (holds_at operand)) xs

-- lists stand for both operands, and the other one is true exactly where P holds of these operands
pub record HoldsOverBoth (n : ℕ) (Left Right : List Bool → Type 0) (P : (ℕ → Bool) → (ℕ → Bool) → ℕ → Type 0)
    (xs : List Bool) : Type 0 where
  pub left : List Bool
  pub right : List Bool
  pub stands_left : Left left
  pub stands_right : Right right
  pub holds : HoldsExactly n (P (holds_at left) (holds_at right)) xs

-- the next state has the operand with a probability that compares so to the threshold
abbrev pub NextMeets : LabelledChain → Op → DecimalNumber → (ℕ → Bool) → ℕ → Type 0
NextMeets over op q goal s = MeetsThreshold (comparison_of op) (next_probability over.chain goal s) (decimal_fraction q.c q.x)

-- the value of the sequence compares so to the threshold
abbrev pub SequenceMeets : Op → DecimalNumber → (ℕ → Fraction) → Type 0
SequenceMeets op q x = ValueMeets (comparison_of op) x (decimal_fraction q.c q.x)

-- the probability of reaching the goal from s through live states within so many jumps
abbrev pub reach_values : LabelledChain → (ℕ → Bool) → (ℕ → Bool) → ℕ → ℕ → Fraction
reach_values over live goal s = jump_fraction (uniformised over.chain) live goal s

-- the load of the time t: the jumps expected within it
abbrev pub load_of : LabelledChain → DecimalNumber → Fraction
load_of over t = time_load over.chain over.rate_decimals t.c t.x

-- the probability of reaching the goal from s through live states within the time t, cut after so many jumps
abbrev pub time_values : LabelledChain → DecimalNumber → (ℕ → Bool) → (ℕ → Bool) → ℕ → ℕ → Fraction
time_values over t live goal s = until_average (uniformised over.chain) (load_of over t) live goal s

-- the probability of reaching the goal from s through live states before more reward than r is gathered, cut after so many jumps: by the
-- duality that of reaching it within the time r in the dual chain
abbrev pub reward_values : LabelledChain → Rewards → DecimalNumber → (ℕ → Bool) → (ℕ → Bool) → ℕ → ℕ → Fraction
reward_values over rewards r live goal s =
    until_average (uniformised (dual over.chain rewards.reward)) (reward_load over rewards r) live goal s

-- the list of truth values stands for the formula over the chain. No list stands for a formula with a bound on the reward where a state has
-- none that is positive: the duality says nothing of it
abbrev pub IsSat : LabelledChain → Tree → List Bool → Type 0
IsSat over truth xs = HoldsExactly over.chain.states (λ s. ⊤) xs
IsSat over falsehood xs = HoldsExactly over.chain.states (λ s. ⊥) xs
IsSat over (label j) xs = HoldsExactly over.chain.states (λ s. IsTrue (over.has j s)) xs
IsSat over (negation f) xs = HoldsOver over.chain.states (IsSat over f) (λ y s. ¬ IsTrue (y s)) xs
IsSat over (conjunction f g) xs =
    HoldsOverBoth over.chain.states (IsSat over f) (IsSat over g) (λ y z s. IsTrue (y s) × IsTrue (z s)) xs
IsSat over (disjunction f g) xs =
    HoldsOverBoth over.chain.states (IsSat over f) (IsSat over g) (λ y z s. IsTrue (y s) ⊎ IsTrue (z s)) xs
IsSat over (next op q f) xs = HoldsOver over.chain.states (IsSat over f) (NextMeets over op q) xs
IsSat over (until op q f Unbounded g) xs =
    HoldsOverBoth over.chain.states (IsSat over f) (IsSat over g) (λ y z s. SequenceMeets op q (reach_values over y z s)) xs
IsSat over (until op q f (Time t) g) xs =
    HoldsOverBoth over.chain.states (IsSat over f) (IsSat over g) (λ y z s. SequenceMeets op q (time_values over t y z s)) xs
IsSat over (until op q f (Reward r) g) xs =
    (earns : EarnsEverywhere over)
    × HoldsOverBoth over.chain.states (IsSat over f) (IsSat over g) (λ y z s. SequenceMeets op q (reward_values over earns.rewards r y z s)) xs
