-- It can't be that no list stands for a formula.
use Rattle.std.proofs.Common.{ℕ, ◌&&◌, ◌⊎◌, inl, inr, Bool, false, IsTrue, List}
use Rattle.std.proofs.lemmas.Bool.{false≢true, and_parts}
use Rattle.ctmc_semantics.specs.Sets.{holds_at}
use Rattle.csl_semantics.specs.Meaning.{IsSat, HoldsOver, HoldsOverBoth, SequenceMeets, reward_values}
use Rattle.csl_semantics.specs.Dual.{EarnsEverywhere}
use Rattle.csl_semantics.specs.Laws.{CanBeBounded}
use Rattle.csl_semantics.specs.Truth.{has_no_reward}
use Rattle.csl_semantics.proofs.ExactLists.{exact_not_missing}
use Rattle.csl_syntax.specs.Tree.{Tree, truth, falsehood, label, negation, conjunction, disjunction, next, until}
use Rattle.csl_syntax.specs.declared.formula.Bound.TheVariants.{Unbounded, Time, Reward}
use Rattle.model_core.specs.Model.{LabelledChain}

-- it can't be that no list is the operand
abbrev pub IsNotMissing : (List Bool → Type 0) → Type 0
IsNotMissing Operand = ¬ (¬ ((xs : List Bool) × Operand xs))

over_not_missing : (n : ℕ) (Operand : List Bool → Type 0) (P : (ℕ → Bool) → ℕ → Type 0) → IsNotMissing Operand
    → IsNotMissing (HoldsOver n Operand P)
over_not_missing n Operand P some none =
    some (λ y.
    exact_not_missing n (P (holds_at y.0)) (λ x.
    none (x.0, record { operand = y.0; stands = y.1; holds = x.1 })))

both_not_missing : (n : ℕ) (Left Right : List Bool → Type 0) (P : (ℕ → Bool) → (ℕ → Bool) → ℕ → Type 0) → IsNotMissing Left
    → IsNotMissing Right → IsNotMissing (HoldsOverBoth n Left Right P)
both_not_missing n Left Right P some other none =
    some (λ y. other (λ z.
    exact_not_missing n (P (holds_at y.0) (holds_at z.0)) (λ x.
    none (x.0, record { left = y.0; right = z.0; stands_left = y.1; stands_right = z.1; holds = x.1 }))))

-- ---- what lets both operands have a bound on the reward lets each
first_of_both : (over : LabelledChain) (a b : Bool) → IsTrue (a && b) ⊎ EarnsEverywhere over → IsTrue a ⊎ EarnsEverywhere over
first_of_both over a b (inl h) = inl (and_parts a b h).0
first_of_both over a b (inr h) = inr h

second_of_both : (over : LabelledChain) (a b : Bool) → IsTrue (a && b) ⊎ EarnsEverywhere over → IsTrue b ⊎ EarnsEverywhere over
second_of_both over a b (inl h) = inl (and_parts a b h).1
second_of_both over a b (inr h) = inr h

earns_under : (over : LabelledChain) (a b : Bool) → IsTrue ((false && a) && b) ⊎ EarnsEverywhere over → EarnsEverywhere over
earns_under over a b (inl h) = absurd (false≢true h)
earns_under over a b (inr h) = h

pub not_missing : (over : LabelledChain) (f : Tree) → CanBeBounded over f → IsNotMissing (IsSat over f)
not_missing over truth h = exact_not_missing over.chain.states _
not_missing over falsehood h = exact_not_missing over.chain.states _
not_missing over (label j) h = exact_not_missing over.chain.states _
not_missing over (negation f) h = over_not_missing over.chain.states _ _ (not_missing over f h)
not_missing over (conjunction f g) h =
    both_not_missing over.chain.states _ _ _ (not_missing over f (first_of_both over (has_no_reward f) (has_no_reward g) h))
    (not_missing over g (second_of_both over (has_no_reward f) (has_no_reward g) h))
not_missing over (disjunction f g) h =
    both_not_missing over.chain.states _ _ _ (not_missing over f (first_of_both over (has_no_reward f) (has_no_reward g) h))
    (not_missing over g (second_of_both over (has_no_reward f) (has_no_reward g) h))
not_missing over (next op q f) h = over_not_missing over.chain.states _ _ (not_missing over f h)
not_missing over (until op q f Unbounded g) h =
    both_not_missing over.chain.states _ _ _ (not_missing over f (first_of_both over (has_no_reward f) (has_no_reward g) h))
    (not_missing over g (second_of_both over (has_no_reward f) (has_no_reward g) h))
not_missing over (until op q f (Time t) g) h =
    both_not_missing over.chain.states _ _ _ (not_missing over f (first_of_both over (has_no_reward f) (has_no_reward g) h))
    (not_missing over g (second_of_both over (has_no_reward f) (has_no_reward g) h))
not_missing over (until op q f (Reward r) g) h = λ none.
    let earns = earns_under over (has_no_reward f) (has_no_reward g) h in
    both_not_missing over.chain.states (IsSat over f) (IsSat over g) (λ y z s. SequenceMeets op q (reward_values over earns.rewards r y z s))
    (not_missing over f (inr earns)) (not_missing over g (inr earns)) (λ x. none (x.0, (earns, x.1)))
