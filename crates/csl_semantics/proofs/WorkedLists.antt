-- The truth values of the worked formulas.
use Rattle.std.proofs.Common.{◌≡◌, ℕ, zero, suc, cond, eqb, ◌*◌, ◌-◌, ◌^◌, ◌<◌, ◌↔◌, Bool, true, false, IsTrue, List, [], ◌∷◌, refl, sym, ap, subst, arith}
use Rattle.std.proofs.lemmas.Bool.{false≢true}
use Rattle.ctmc_semantics.specs.Fraction.{Fraction, fraction, ◌≺◌}
use Rattle.ctmc_semantics.specs.JumpValue.{jump_value}
use Rattle.ctmc_semantics.specs.Poisson.{poisson_weight}
use Rattle.ctmc_semantics.specs.Sets.{holds_at}
use Rattle.ctmc_semantics.specs.Sum.{sum_below}
use Rattle.ctmc_semantics.specs.Uniformised.{uniformised}
use Rattle.ctmc_semantics.specs.Value.{IsAbove, IsAtLeast}
use Rattle.csl_semantics.specs.Dual.{EarnsEverywhere, dual}
use Rattle.csl_semantics.specs.Meaning.{IsSat, HoldsExactly, reach_values, reward_values, time_values}
use Rattle.csl_semantics.specs.WorkedMeanings.{worked_chain, earning_chain, one, two, next_a}
use Rattle.csl_semantics.specs.WorkedMeanings.{NextMeaning, TimeUntilMeaning, ReachUntilMeaning, RewardUntilMeaning, NestedMeaning}
use Rattle.csl_semantics.proofs.Truths.{truths_stand}
use Rattle.csl_syntax.specs.Tree.{truth, label}

pub next_stands : NextMeaning
next_stands = truths_stand worked_chain next_a refl

-- ---- lists of three
three : (P : ℕ → Type 0) (a b c : Bool) → IsTrue a ↔ P 0 → IsTrue b ↔ P 1 → IsTrue c ↔ P 2 → HoldsExactly 3 P (a ∷ b ∷ c ∷ [])
three P a b c x y z = record { each = refl; exact = at }
  where
    at : (s : ℕ) → s < 3 → IsTrue (holds_at (a ∷ b ∷ c ∷ []) s) ↔ P s
    at zero l = x
    at (suc zero) l = y
    at (suc (suc zero)) l = z
    at (suc (suc (suc s))) l = absurd (omega (arith, l))

abbrev all : List Bool
all = true ∷ true ∷ true ∷ []

abbrev second : List Bool
second = false ∷ true ∷ false ∷ []

abbrev values : ℕ → ℕ → ℕ
values = jump_value (uniformised worked_chain.chain) (holds_at all) (holds_at second)

-- from the third state the label is never reached
never : (k : ℕ) → values k 2 ≡ 0
never zero = refl
never (suc k) = omega (arith, never k)

truth_stands : IsSat worked_chain truth all
truth_stands = truths_stand worked_chain truth refl

label_stands : IsSat worked_chain (label 0) second
label_stands = truths_stand worked_chain (label 0) refl

-- ---- the until with a bound on the time
abbrev soon : ℕ → ℕ → Fraction
soon = time_values worked_chain one (holds_at all) (holds_at second)

no_sum : (n : ℕ) (w f v : ℕ → ℕ) → ((k : ℕ) → f k ≡ 0) → sum_below n (λ k. w k * f k * v k) ≡ 0
no_sum zero w f v none = refl
no_sum (suc n) w f v none = omega (arith, no_sum n w f v none, ap (λ z. w n * z * v n) (none n))

not_soon : ¬ IsAbove (soon 2) (fraction 5 10)
not_soon above =
    omega (
      arith,
      above.1,
      no_sum (suc above.0) (poisson_weight 1 1 above.0) (λ k. values k 2) (λ k. 1 ^ (above.0 - k)) never,
    )

pub soon_stands : TimeUntilMeaning
soon_stands = record {
  left = all;
  right = second;
  stands_left = truth_stands;
  stands_right = label_stands;
  holds = three _ true true false ((λ _. (2, omega arith)), (λ _. refl)) ((λ _. (0, omega arith)), (λ _. refl))
      ((λ e. absurd (false≢true e)), (λ above. absurd (not_soon above)));
}

-- ---- the until with a bound on the reward
either_earns : (b : Bool) → 0 < cond b 2 1
either_earns true = omega arith
either_earns false = omega arith

abbrev earns : EarnsEverywhere earning_chain
earns = record {
  rewards = record { decimals = 0; reward = λ s. cond (eqb s 0) 2 1 };
  are = refl;
  positive = λ s l. either_earns (eqb s 0);
}

abbrev cheaply : ℕ → ℕ → Fraction
cheaply = reward_values earning_chain earns.rewards two (holds_at all) (holds_at second)

abbrev dual_values : ℕ → ℕ → ℕ
dual_values = jump_value (uniformised (dual earning_chain.chain earns.rewards.reward)) (holds_at all) (holds_at second)

never_dual : (k : ℕ) → dual_values k 2 ≡ 0
never_dual zero = refl
never_dual (suc k) = omega (arith, never_dual k)

not_cheaply : ¬ IsAbove (cheaply 2) (fraction 5 10)
not_cheaply above =
    omega (
      arith,
      above.1,
      no_sum (suc above.0) (poisson_weight 2 2 above.0) (λ k. dual_values k 2) (λ k. 1 ^ (above.0 - k)) never_dual,
    )

pub cheaply_stands : RewardUntilMeaning
cheaply_stands = (
  earns,
  record {
    left = all;
    right = second;
    stands_left = truths_stand earning_chain truth refl;
    stands_right = truths_stand earning_chain (label 0) refl;
    holds = three _ true true false ((λ _. (2, omega arith)), (λ _. refl)) ((λ _. (0, omega arith)), (λ _. refl))
        ((λ e. absurd (false≢true e)), (λ above. absurd (not_cheaply above)));
  },
)

-- ---- the until without a bound
abbrev surely : ℕ → ℕ → Fraction
surely = reach_values worked_chain (holds_at all) (holds_at second)

-- the value after so many jumps is 1, which is above each lesser fraction
is_surely : (s n : ℕ) → surely s n ≡ fraction 1 1 → IsAtLeast (surely s) (fraction 1 1)
is_surely s n e p pos less = (n, subst (λ z. p ≺ z) (sym e) less)

not_surely : ¬ IsAtLeast (surely 2) (fraction 1 1)
not_surely least = let above : IsAbove (surely 2) (fraction 0 1) = least (fraction 0 1) (omega arith) (omega arith) in
    omega (arith, above.1, never above.0)

pub surely_stands : ReachUntilMeaning
surely_stands = record {
  left = all;
  right = second;
  stands_left = truth_stands;
  stands_right = label_stands;
  holds = three _ true true false ((λ _. is_surely 0 1 refl), (λ _. refl)) ((λ _. is_surely 1 0 refl), (λ _. refl))
      ((λ e. absurd (false≢true e)), (λ least. absurd (not_surely least)));
}

-- ---- a nested formula
pub nested_stands : NestedMeaning
nested_stands = record {
  operand = true ∷ true ∷ false ∷ [];
  stands = soon_stands;
  holds = three _ true false false ((λ _. omega arith), (λ _. refl)) ((λ e. absurd (false≢true e)), (λ h. absurd (omega (arith, h))))
      ((λ e. absurd (false≢true e)), (λ h. absurd (omega (arith, h))));
}
