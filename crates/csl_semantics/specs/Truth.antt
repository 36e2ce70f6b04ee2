-- The truth values of a formula without an until, as they are computed.
use Rattle.std.specs.Prelude.{ℕ, Bool, true, false, not, ◌&&◌, ◌||◌, List, map}
use Rattle.std.specs.List.{range_with_len}
use Rattle.ctmc_semantics.specs.Compared.{meets_threshold}
use Rattle.ctmc_semantics.specs.Fraction.{decimal_fraction}
use Rattle.ctmc_semantics.specs.Next.{next_probability}
use Rattle.csl_semantics.specs.Meaning.{comparison_of}
use Rattle.csl_syntax.specs.Tree.{Tree, truth, falsehood, label, negation, conjunction, disjunction, next, until}
use Rattle.csl_syntax.specs.declared.formula.Bound.{Bound}
use Rattle.csl_syntax.specs.declared.formula.Bound.TheVariants.{Unbounded, Time, Reward}
use Rattle.model_core.specs.Model.{LabelledChain}

-- no probability operator stands in the formula
abbrev pub is_propositional : Tree → Bool
is_propositional truth = true
is_propositional falsehood = true
is_propositional (label j) = true
is_propositional (negation f) = is_propositional f
is_propositional (conjunction f g) = is_propositional f && is_propositional g
is_propositional (disjunction f g) = is_propositional f && is_propositional g
is_propositional (next op q f) = false
is_propositional (until op q f bound g) = false

-- no until stands in the formula
abbrev pub has_no_until : Tree → Bool
has_no_until truth = true
has_no_until falsehood = true
has_no_until (label j) = true
has_no_until (negation f) = has_no_until f
has_no_until (conjunction f g) = has_no_until f && has_no_until g
has_no_until (disjunction f g) = has_no_until f && has_no_until g
has_no_until (next op q f) = has_no_until f
has_no_until (until op q f bound g) = false

-- the bound is one on the reward
abbrev pub is_reward : Bound → Bool
is_reward Unbounded = false
is_reward (Time t) = false
is_reward (Reward r) = true

-- no until of the formula has a bound on the reward
abbrev pub has_no_reward : Tree → Bool
has_no_reward truth = true
has_no_reward falsehood = true
has_no_reward (label j) = true
has_no_reward (negation f) = has_no_reward f
has_no_reward (conjunction f g) = has_no_reward f && has_no_reward g
has_no_reward (disjunction f g) = has_no_reward f && has_no_reward g
has_no_reward (next op q f) = has_no_reward f
has_no_reward (until op q f bound g) = not (is_reward bound) && has_no_reward f && has_no_reward g

-- the truth value of the formula at a state; that of an until isn't computed
abbrev pub truth_at : LabelledChain → Tree → ℕ → Bool
truth_at over truth s = true
truth_at over falsehood s = false
truth_at over (label j) s = over.has j s
truth_at over (negation f) s = not (truth_at over f s)
truth_at over (conjunction f g) s = truth_at over f s && truth_at over g s
truth_at over (disjunction f g) s = truth_at over f s || truth_at over g s
truth_at over (next op q f) s =
    meets_threshold (comparison_of op) (next_probability over.chain (truth_at over f) s) (decimal_fraction q.c q.x)
truth_at over (until op q f bound g) s = false

-- the truth values of the formula at all states, in their order
abbrev pub truths : LabelledChain → Tree → List Bool
truths over f = map (truth_at over f) (range_with_len 0 over.chain.states)
