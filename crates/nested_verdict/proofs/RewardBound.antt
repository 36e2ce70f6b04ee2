-- The dual chain against the chain itself.
use Rattle.std.proofs.Common.{ℕ, zero, suc, ◌*◌, ◌^◌, ◌+◌, ◌<◌, Bool, arith}
use Rattle.ctmc_semantics.specs.Chain.{Chain}
use Rattle.ctmc_semantics.proofs.Powers.{power_le}
use Rattle.csl_semantics.specs.Dual.{EarnsEverywhere, dual, product_below, others_product, reward_load}
use Rattle.decimal_text.specs.DecimalNumber.{DecimalNumber}
use Rattle.model_core.specs.Model.{LabelledChain}
use Rattle.reward_dual.proofs.Products.{product_positive}
use Rattle.nested_verdict.specs.ExactAnswer.{IsOutOfReach}
use Rattle.step_core.specs.Walk.{Walk, arrives, goes}

positive_times : (a b : ℕ) → 0 < a → 0 < b → 0 < a * b
positive_times (suc a) (suc b) h k = omega arith
positive_times zero b h k = absurd (omega (arith, h))
positive_times (suc a) zero h k = absurd (omega (arith, k))

-- the divisor of a reward bound's load is positive
pub reward_load_positive : (over : LabelledChain) (earns : EarnsEverywhere over) (r : DecimalNumber)
    → 0 < (reward_load over earns.rewards r).den
reward_load_positive over earns r =
    positive_times (10 ^ (over.rate_decimals + r.x)) (product_below over.chain.states earns.rewards.reward)
    (omega (arith, power_le 10 0 (over.rate_decimals + r.x) (omega arith) (omega arith)))
    (product_positive over.chain.states earns.rewards.reward earns.positive)

-- a walk of the dual chain is one of the chain
left_positive : (a b : ℕ) → 0 < a * b → 0 < a
left_positive zero b h = absurd (omega (arith, h))
left_positive (suc a) b h = omega arith

module _ (chain : Chain) (reward : ℕ → ℕ) (live goal : ℕ → Bool) where
  walk_of_dual : (s : ℕ) → Walk (dual chain reward).states (dual chain reward).rate live goal s → Walk chain.states chain.rate live goal s
  walk_of_dual s (arrives g) = arrives g
  walk_of_dual s (goes {t = t} l i p w) =
      goes l i (left_positive (chain.rate s t) (others_product chain.states reward s) p) (walk_of_dual t w)

  pub stays_out : (s : ℕ) → IsOutOfReach chain live goal s → IsOutOfReach (dual chain reward) live goal s
  stays_out s out = λ w. out (walk_of_dual s w)
