-- The duality of time and reward: the chain whose clock is the reward that is gathered. A state that earns q for each unit of time is left at
-- its rates over q for each unit of reward. So a bound on the reward of a chain is one on the time of its dual.
-- (Baier, Haverkort, Hermanns, Katoen, On the logical characterisation of performability properties, ICALP 2000)
use Rattle.std.specs.Prelude.{◌≡◌, ℕ, zero, suc, ◌+◌, ◌*◌, ◌^◌, ◌<◌, ◌==◌, if◌then◌else◌, Some}
use Rattle.ctmc_semantics.specs.Chain.{Chain}
use Rattle.ctmc_semantics.specs.Fraction.{Fraction, fraction}
use Rattle.ctmc_semantics.specs.Uniformised.{greatest_exit_rate}
use Rattle.decimal_text.specs.DecimalNumber.{DecimalNumber}
use Rattle.model_core.specs.Model.{LabelledChain, Rewards}

-- the numbers `f 0`, .., `f (n - 1)`, multiplied
abbrev pub product_below : ℕ → (ℕ → ℕ) → ℕ
product_below zero f = 1
product_below (suc n) f = product_below n f * f n

-- the product of the rewards of all states but one
abbrev pub others_product : ℕ → (ℕ → ℕ) → ℕ → ℕ
others_product n reward s = product_below n (λ t. if t == s then 1 else reward t)

-- the dual chain, all of its rates over the product of all rewards: a rate over a state's own reward is the rate times the others' product
abbrev pub dual : Chain → (ℕ → ℕ) → Chain
dual chain reward = record { states = chain.states; rate = λ s t. chain.rate s t * others_product chain.states reward s }

-- the load of the reward bound `c / 10^x`: the jumps that the dual chain is expected to make within it, 0 where all rates are 0
abbrev pub reward_load : LabelledChain → Rewards → DecimalNumber → Fraction
reward_load over rewards r =
    fraction (greatest_exit_rate (dual over.chain rewards.reward) * r.c * 10 ^ rewards.decimals)
    (10 ^ (over.rate_decimals + r.x) * product_below over.chain.states rewards.reward)

-- the states have rewards, each of them positive
pub record EarnsEverywhere (over : LabelledChain) : Type 0 where
  pub rewards : Rewards
  pub are : over.rewards ≡ Some rewards
  pub positive : (s : ℕ) → s < over.chain.states → 0 < rewards.reward s
