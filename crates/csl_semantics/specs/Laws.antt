-- What the laws of meaning say.
use Rattle.std.specs.Prelude.{◌≡◌, ◌↔◌, ◌⊎◌, ◌<◌, ℕ, List, Bool, IsTrue}
use Rattle.ctmc_semantics.specs.Sets.{holds_at}
use Rattle.csl_semantics.specs.Dual.{EarnsEverywhere}
use Rattle.csl_semantics.specs.Meaning.{IsSat, NextMeets, SequenceMeets, reach_values, reward_values, time_values}
use Rattle.csl_semantics.specs.Truth.{is_propositional, has_no_until, has_no_reward, truths}
use Rattle.csl_syntax.specs.Tree.{Tree, next, until}
use Rattle.csl_syntax.specs.declared.formula.Bound.TheVariants.{Unbounded, Time, Reward}
use Rattle.csl_syntax.specs.declared.formula.Op.{Op}
use Rattle.decimal_text.specs.DecimalNumber.{DecimalNumber}
use Rattle.model_core.specs.Model.{LabelledChain}

-- one list at most stands for a formula
abbrev pub OneMeaning : Type 0
OneMeaning = (over : LabelledChain) (f : Tree) (xs ys : List Bool) → IsSat over f xs → IsSat over f ys → xs ≡ ys

-- some list stands for the formula
abbrev pub HasMeaning : LabelledChain → Tree → Type 0
HasMeaning over f = (xs : List Bool) × IsSat over f xs

-- no bound is on the reward, or each state earns
abbrev pub CanBeBounded : LabelledChain → Tree → Type 0
CanBeBounded over f = IsTrue (has_no_reward f) ⊎ EarnsEverywhere over

-- it can't be that no list stands for a formula, where no bound is on the reward or each state earns. (That one does isn't shown: no number
-- of jumps tells whether the value of an until equals a threshold.)
abbrev pub MeaningIsNeverMissing : Type 0
MeaningIsNeverMissing = (over : LabelledChain) (f : Tree) → CanBeBounded over f → ¬ (¬ HasMeaning over f)

-- where a formula has no until, its truth values as they are computed stand for it
abbrev pub FormulaWithoutUntilIsDecided : Type 0
FormulaWithoutUntilIsDecided = (over : LabelledChain) (f : Tree) → IsTrue (has_no_until f) → IsSat over f (truths over f)

-- a formula without a probability operator has no until
abbrev pub PropositionalHasNoUntil : Type 0
PropositionalHasNoUntil = (f : Tree) → IsTrue (is_propositional f) → IsTrue (has_no_until f)

-- a formula without an until has no bound on the reward
abbrev pub NoUntilHasNoReward : Type 0
NoUntilHasNoReward = (f : Tree) → IsTrue (has_no_until f) → IsTrue (has_no_reward f)

-- an operator's truth values are those that its operands' give; here those of a next
abbrev pub NextIsSat : Type 0
NextIsSat =
    (over : LabelledChain) (op : Op) (q : DecimalNumber) (f : Tree) (xs ys : List Bool) (s : ℕ)
    → IsSat over (next op q f) xs → IsSat over f ys → s < over.chain.states
    → IsTrue (holds_at xs s) ↔ NextMeets over op q (holds_at ys) s

-- and those of an until with a bound on the time
abbrev pub TimeUntilIsSat : Type 0
TimeUntilIsSat =
    (over : LabelledChain) (op : Op) (q t : DecimalNumber) (f g : Tree) (xs ys zs : List Bool) (s : ℕ)
    → IsSat over (until op q f (Time t) g) xs → IsSat over f ys → IsSat over g zs → s < over.chain.states
    → IsTrue (holds_at xs s) ↔ SequenceMeets op q (time_values over t (holds_at ys) (holds_at zs) s)

-- and those of an until without a bound
abbrev pub ReachUntilIsSat : Type 0
ReachUntilIsSat =
    (over : LabelledChain) (op : Op) (q : DecimalNumber) (f g : Tree) (xs ys zs : List Bool) (s : ℕ)
    → IsSat over (until op q f Unbounded g) xs → IsSat over f ys → IsSat over g zs → s < over.chain.states
    → IsTrue (holds_at xs s) ↔ SequenceMeets op q (reach_values over (holds_at ys) (holds_at zs) s)

-- and those of an until with a bound on the reward
abbrev pub RewardUntilIsSat : Type 0
RewardUntilIsSat =
    (over : LabelledChain) (op : Op) (q r : DecimalNumber) (f g : Tree) (xs ys zs : List Bool) (s : ℕ) (earns : EarnsEverywhere over)
    → IsSat over (until op q f (Reward r) g) xs → IsSat over f ys → IsSat over g zs → s < over.chain.states
    → IsTrue (holds_at xs s) ↔ SequenceMeets op q (reward_values over earns.rewards r (holds_at ys) (holds_at zs) s)
