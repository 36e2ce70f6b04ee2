-- What holds of the chain that a list of transitions makes.
use Rattle.std.specs.Prelude.{◌≡◌, ℕ, ◌<◌, Bool, List, All, IsPermutation}
use Rattle.ctmc_semantics.specs.Chain.{exit_rate}
use Rattle.ctmc_semantics.specs.Next.{rate_into}
use Rattle.model_core.specs.declared.rate.Rate.{Rate}
use Rattle.model_core.specs.Transitions.{chain_of, exit_sum, row_of, sum_into}

-- a state's exit rate is the sum over its transitions, where each leads to one of the n states
abbrev pub ExitRateIsExitSum : Type 0
ExitRateIsExitSum = (n : ℕ) (rates : List Rate) (s : ℕ) → All (λ r. r.to < n) rates → exit_rate (chain_of n rates) s ≡ exit_sum rates s

-- the rate from a state into a set of states is the sum over the state's row, where each transition leads to one of
-- the n states
abbrev pub RateIntoIsRowSum : Type 0
RateIntoIsRowSum =
    (n : ℕ) (rates : List Rate) (goal : ℕ → Bool) (s : ℕ) → All (λ r. r.to < n) rates → rate_into (chain_of n rates) goal s ≡ sum_into goal
    (row_of rates s)

-- the same transitions in another order make the same chain
abbrev pub OrderMakesNoOtherChain : Type 0
OrderMakesNoOtherChain = (n : ℕ) (xs ys : List Rate) → IsPermutation xs ys → chain_of n xs ≡ chain_of n ys
