-- What the invariant of a model gives.
use Rattle.std.proofs.Common.{◌≡◌, ℕ, ◌<◌, ◌^◌, List, map, subst, cond, ◌&&◌, arith, ◌∙◌, sym, ap, Bool, ◌==◌}
use Rattle.std.specs.List.{All, sum_by}
use Rattle.std.specs.List.Sorted.{IsNonDecreasingBy, IsStrictlyIncreasing, IsPermutation}
use Rattle.std.proofs.lemmas.List.Sorted.{All-permutation, sum_by-IsPermutation}
use Rattle.std.proofs.lemmas.List.Elements.{All-filter}
use Rattle.ctmc_semantics.specs.Next.{rate_into}
use Rattle.model_core.specs.declared.rate.Rate.{Rate}
use Rattle.model_core.specs.Transitions.{chain_of, row_of, sum_into}
use Rattle.model_core.specs.Files.{IsTransition, IsTra}
use Rattle.model_core.specs.Model.{ModelLists, IsModel}
use Rattle.model_core.proofs.Sums.{sum_by-filter}
use Rattle.model_core.proofs.ChainSums.{rate_into-chain_of}
use Rattle.model_core.proofs.Order.{row_of-ascends, row_of-leaves, IsNonDecreasingBy-from_order, IsNonDecreasingBy-from_numbers}

-- the transitions are in order of the states that they leave
pub from_ascends : (model : ModelLists) → IsModel model → IsNonDecreasingBy (λ r. r.from) model.rates
from_ascends model m =
    IsNonDecreasingBy-from_numbers model.n model.rates m.tra.few_states m.tra.transitions
    (IsNonDecreasingBy-from_order model.rates m.order)

-- each transition leads to a state
pub to_within : (model : ModelLists) → IsModel model → All (λ r. r.to < model.n) model.rates
to_within model m = λ k d l. (m.tra.transitions k d l).to_within

-- what is known of a state's row
pub record IsRow (model : ModelLists) (s : ℕ) (row : List Rate) : Type 0 where
  pub ascending : IsStrictlyIncreasing (map (λ r. r.to) row)
  pub transitions : All (IsTransition model.n) row
  pub bound : sum_by (λ r. r.rate) row < 2 ^ 63
  pub of_state : All (λ r. r.from ≡ s) row
  pub rates_into : (set : ℕ → Bool) → sum_into set row ≡ rate_into (chain_of model.n model.rates) set s

-- all of it holds of the row
pub row_of-IsRow : (model : ModelLists) (s : ℕ) → IsModel model → IsRow model s (row_of model.rates s)
row_of-IsRow model s m = record {
  ascending = row_of-ascends model.rates s m.order;
  transitions = All-filter (λ r. r.from == s) (IsTransition model.n) model.rates m.tra.transitions;
  bound = omega (arith, sum_by-filter (λ (r : Rate). r.rate) (λ r. r.from == s) model.rates, m.tra.exits s);
  of_state = row_of-leaves model.rates s;
  rates_into = λ set. sym (rate_into-chain_of model.n model.rates set s (to_within model m));
}

-- the same of an equal row of an equal model
pub IsRow-at : (inside model : ModelLists) (s : ℕ) (row rates : List Rate) → inside ≡ model → IsModel inside → rates ≡ inside.rates
    → row ≡ row_of rates s → IsRow model s row
IsRow-at inside model s row rates same m from e =
    subst (λ (all : ModelLists). IsRow all s row) same
    (subst (λ (part : List Rate). IsRow inside s part) (sym (e ∙ ap (λ all. row_of all s) from)) (row_of-IsRow inside s m))

-- transitions in another order are a chain's as well
pub IsTra-IsPermutation : (n scale : ℕ) (xs ys : List Rate) → IsPermutation xs ys → IsTra (record { n = n; scale = scale; rates = xs })
    → IsTra (record { n = n; scale = scale; rates = ys })
IsTra-IsPermutation n scale xs ys moved tra = record {
  some_state = tra.some_state;
  few_states = tra.few_states;
  decimals = tra.decimals;
  transitions = All-permutation (IsTransition n) xs ys moved tra.transitions;
  once = λ s t. omega (arith, tra.once s t, sum_by-IsPermutation (λ (r : Rate). cond ((r.from == s) && (r.to == t)) 1 0) xs ys moved);
  exits = λ s. omega (arith, tra.exits s, sum_by-IsPermutation (λ (r : Rate). cond (r.from == s) r.rate 0) xs ys moved);
}
