-- One list at most stands for a formula.
use Rattle.std.proofs.Common.{◌≡◌, ℕ, ◌<◌, ◌↔◌, Bool, IsTrue, List, Some, sym, ◌∙◌, subst, subst₂}
use Rattle.ctmc_semantics.specs.Sets.{holds_at}
use Rattle.csl_semantics.specs.Meaning.{IsSat, HoldsExactly, HoldsOver, HoldsOverBoth, SequenceMeets, reward_values}
use Rattle.csl_semantics.specs.Dual.{EarnsEverywhere}
use Rattle.csl_semantics.proofs.ExactLists.{exact_is_one}
use Rattle.csl_syntax.specs.Tree.{Tree, truth, falsehood, label, negation, conjunction, disjunction, next, until}
use Rattle.csl_syntax.specs.declared.formula.Bound.TheVariants.{Unbounded, Time, Reward}
use Rattle.csl_syntax.specs.declared.formula.Op.{Op}
use Rattle.decimal_text.specs.DecimalNumber.{DecimalNumber}
use Rattle.model_core.specs.Model.{LabelledChain, Rewards}

-- one list at most is the operand
abbrev pub IsOne : (List Bool → Type 0) → Type 0
IsOne Operand = (xs ys : List Bool) → Operand xs → Operand ys → xs ≡ ys

-- a list that an operand's give is exact over each list that is the operand
pub over_exact : (n : ℕ) (Operand : List Bool → Type 0) (P : (ℕ → Bool) → ℕ → Type 0) → IsOne Operand → (xs ys : List Bool)
    → HoldsOver n Operand P xs → Operand ys → HoldsExactly n (P (holds_at ys)) xs
over_exact n Operand P one xs ys x y =
    subst (λ z. HoldsExactly n (P (holds_at z)) xs) (one x.operand ys x.stands y) x.holds

pub both_exact : (n : ℕ) (Left Right : List Bool → Type 0) (P : (ℕ → Bool) → (ℕ → Bool) → ℕ → Type 0) → IsOne Left → IsOne Right
    → (xs ys zs : List Bool) → HoldsOverBoth n Left Right P xs → Left ys → Right zs
    → HoldsExactly n (P (holds_at ys) (holds_at zs)) xs
both_exact n Left Right P one other xs ys zs x y z =
    subst₂ (λ l r. HoldsExactly n (P (holds_at l) (holds_at r)) xs) (one x.left ys x.stands_left y) (other x.right zs x.stands_right z)
    x.holds

over_is_one : (n : ℕ) (Operand : List Bool → Type 0) (P : (ℕ → Bool) → ℕ → Type 0) → IsOne Operand → IsOne (HoldsOver n Operand P)
over_is_one n Operand P one xs ys x y =
    exact_is_one n (P (holds_at x.operand)) xs ys x.holds (over_exact n Operand P one ys x.operand y x.stands)

both_is_one : (n : ℕ) (Left Right : List Bool → Type 0) (P : (ℕ → Bool) → (ℕ → Bool) → ℕ → Type 0) → IsOne Left → IsOne Right
    → IsOne (HoldsOverBoth n Left Right P)
both_is_one n Left Right P one other xs ys x y =
    exact_is_one n (P (holds_at x.left) (holds_at x.right)) xs ys x.holds
    (both_exact n Left Right P one other ys x.left x.right y x.stands_left x.stands_right)

some_same : (a b : Rewards) → Some a ≡ Some b → a ≡ b
some_same a b e = cc

-- an until with a bound on the reward, over the rewards that the states have
abbrev WithinReward : LabelledChain → Op → DecimalNumber → DecimalNumber → Tree → Tree → List Bool → Rewards → Type 0
WithinReward over op q r f g xs w =
    HoldsOverBoth over.chain.states (IsSat over f) (IsSat over g) (λ y z s. SequenceMeets op q (reward_values over w r y z s)) xs

pub same_rewards : (over : LabelledChain) (op : Op) (q r : DecimalNumber) (f g : Tree) (xs : List Bool) (a b : EarnsEverywhere over)
    → WithinReward over op q r f g xs a.rewards → WithinReward over op q r f g xs b.rewards
same_rewards over op q r f g xs a b h =
    subst (WithinReward over op q r f g xs) (some_same a.rewards b.rewards (sym a.are ∙ b.are)) h

pub one_meaning : (over : LabelledChain) (f : Tree) → IsOne (IsSat over f)
one_meaning over truth = exact_is_one over.chain.states _
one_meaning over falsehood = exact_is_one over.chain.states _
one_meaning over (label j) = exact_is_one over.chain.states _
one_meaning over (negation f) = over_is_one over.chain.states _ _ (one_meaning over f)
one_meaning over (conjunction f g) = both_is_one over.chain.states _ _ _ (one_meaning over f) (one_meaning over g)
one_meaning over (disjunction f g) = both_is_one over.chain.states _ _ _ (one_meaning over f) (one_meaning over g)
one_meaning over (next op q f) = over_is_one over.chain.states _ _ (one_meaning over f)
one_meaning over (until op q f Unbounded g) = both_is_one over.chain.states _ _ _ (one_meaning over f) (one_meaning over g)
one_meaning over (until op q f (Time t) g) = both_is_one over.chain.states _ _ _ (one_meaning over f) (one_meaning over g)
one_meaning over (until op q f (Reward r) g) =
    λ xs ys x y.
    both_is_one over.chain.states _ _ _ (one_meaning over f) (one_meaning over g) xs ys x.1
    (same_rewards over op q r f g ys y.0 x.0 y.1)

pub reward_exact : (over : LabelledChain) (op : Op) (q r : DecimalNumber) (f g : Tree) (xs ys zs : List Bool) (earns : EarnsEverywhere over)
    → IsSat over (until op q f (Reward r) g) xs → IsSat over f ys → IsSat over g zs → (s : ℕ) → s < over.chain.states
    → IsTrue (holds_at xs s) ↔ SequenceMeets op q (reward_values over earns.rewards r (holds_at ys) (holds_at zs) s)
reward_exact over op q r f g xs ys zs earns x y z =
    (both_exact over.chain.states _ _ _ (one_meaning over f) (one_meaning over g) xs ys zs
    (same_rewards over op q r f g xs x.0 earns x.1) y z).exact
