-- What the mix of two columns promises.
use Rattle.std.specs.Prelude.{◌≡◌, ℕ, suc, ◌≤◌, List, take, length}
use Rattle.std.specs.List.{All}
use Rattle.ctmc_semantics.specs.RoundedTables.{one_word}
use Rattle.ctmc_semantics.specs.WordBracket.{WordBracket}
use Rattle.mix_columns.specs.Mixed.{plan_mix, whole_mix, rest_mix}
use Rattle.step_core.specs.PlanLists.{PlanLists}
use Rattle.step_core.specs.SoundPlan.{IsSoundPlan}

-- the first bracket has all that the second has
pub record EnclosesWords (outer inner : WordBracket) : Type 0 where
  pub lower : outer.lower ≤ inner.lower
  pub upper : inner.upper ≤ outer.upper

-- the mix never falls when words rise
abbrev pub MixRises : Type 0
MixRises =
    (plan : PlanLists) (x y low high : ℕ → ℕ) → IsSoundPlan plan
    → ((k : ℕ) → k ≤ plan.layers → x k ≤ low k) → ((k : ℕ) → k ≤ plan.layers → high k ≤ y k)
    → EnclosesWords (plan_mix plan x y) (plan_mix plan low high)

-- of two columns, the bracket of their first j words encloses that of their first j + 1
abbrev pub RestShrinks : Type 0
RestShrinks =
    (plan : PlanLists) (xs ys : List ℕ) (j : ℕ) → IsSoundPlan plan → All (λ w. w ≤ one_word) ys
    → length xs ≡ suc plan.layers → length ys ≡ suc plan.layers
    → EnclosesWords (rest_mix plan (take j xs) (take j ys)) (rest_mix plan (take (suc j) xs) (take (suc j) ys))

-- and the mix of the whole columns
abbrev pub RestEnclosesWhole : Type 0
RestEnclosesWhole =
    (plan : PlanLists) (xs ys : List ℕ) (j : ℕ) → IsSoundPlan plan → All (λ w. w ≤ one_word) ys
    → length xs ≡ suc plan.layers → length ys ≡ suc plan.layers
    → EnclosesWords (rest_mix plan (take j xs) (take j ys)) (whole_mix plan xs ys)
