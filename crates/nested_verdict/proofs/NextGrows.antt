-- The probability of a next grows with its goal.
use Rattle.std.proofs.Common.{ℕ, zero, suc, ◌≤◌, max, Bool, true, false, IsTrue, cond, refl, arith}
use Rattle.std.proofs.Math.Nat.{mul-le-mul_right}
use Rattle.std.proofs.lemmas.Bool.{false≢true}
use Rattle.ctmc_semantics.specs.Bracket.{HasEnds, ContainsProbability}
use Rattle.ctmc_semantics.specs.Chain.{Chain, exit_rate}
use Rattle.ctmc_semantics.specs.Fraction.{◌≼◌}
use Rattle.ctmc_semantics.specs.Next.{rate_into, next_probability}
use Rattle.ctmc_semantics.specs.Sets.{IsSubset}
use Rattle.ctmc_semantics.specs.Sum.{sum_below}
use Rattle.nested_verdict.specs.NextAnswer.{next_bracket}

case_grows : (a b : Bool) (rate : ℕ) → (IsTrue a → IsTrue b) → cond a rate 0 ≤ cond b rate 0
case_grows true true rate h = omega arith
case_grows true false rate h = absurd (false≢true (h refl))
case_grows false b rate h = omega arith

sum_grows : (n : ℕ) (x y : ℕ → ℕ) → ((t : ℕ) → x t ≤ y t) → sum_below n x ≤ sum_below n y
sum_grows zero x y h = omega arith
sum_grows (suc n) x y h = omega (arith, sum_grows n x y h, h n)

module _ (chain : Chain) (s : ℕ) where
  pub into_grows : (first second : ℕ → Bool) → IsSubset first second → rate_into chain first s ≤ rate_into chain second s
  into_grows first second h =
      sum_grows chain.states (λ t. cond (first t) (chain.rate s t) 0) (λ t. cond (second t) (chain.rate s t) 0)
      (λ t. case_grows (first t) (second t) (chain.rate s t) (h t))

  pub next_grows : (first second : ℕ → Bool) → IsSubset first second → next_probability chain first s ≼ next_probability chain second s
  next_grows first second h = mul-le-mul_right (max 1 (exit_rate chain s)) (into_grows first second h)

  pub next_ends : (must may : ℕ → Bool) → HasEnds (next_bracket chain must may s)
  next_ends must may = record { low = omega arith; high = omega arith }

  -- between the states that surely are of the goal and those that may be, the bracket contains it
  pub next_contained : (must goal may : ℕ → Bool) → IsSubset must goal → IsSubset goal may
      → ContainsProbability (next_bracket chain must may s) (next_probability chain goal s)
  next_contained must goal may has fits = record { from_low = next_grows must goal has; to_high = next_grows goal may fits }
