-- The loads that fit a plan.
use Rattle.std.specs.Prelude.{◌≡◌, ℕ, ◌<◌, ◌≤◌, slice_index}
use Rattle.ctmc_semantics.specs.Fraction.{Fraction}
use Rattle.ctmc_semantics.specs.Weights.{low_weight, high_weight}
use Rattle.ctmc_semantics.specs.Horizon.{horizon}
use Rattle.step_core.specs.declared.mix.Mix.{Mix}
use Rattle.step_core.specs.declared.mix.Mix.TheVariants.{Poisson, Last}
use Rattle.step_core.specs.PlanLists.{PlanLists}
use Rattle.step_core.specs.WeightLists.{WeightLists}

-- the lists are the load's rounded weights of 0 to `last` jumps
pub record AreWeightsOf (load : Fraction) (last : ℕ) (weights : WeightLists) : Type 0 where
  pub low : (k : ℕ) → k ≤ last → slice_index weights.low k ≡ low_weight load k
  pub high : (k : ℕ) → k ≤ last → slice_index weights.high k ≡ high_weight load k

-- the load is a fraction, the weights are its own, and the last layer is its horizon
pub record FitsPoisson (load : Fraction) (last : ℕ) (weights : WeightLists) (bits : ℕ) : Type 0 where
  pub positive : 0 < load.den
  pub weights_of : AreWeightsOf load last weights
  pub last_layer : last ≡ horizon load bits

-- the load fits a mix over the layers 0 to `last`; that of an unbounded until has none
abbrev pub FitsMix : Fraction → ℕ → Mix → Type 0
FitsMix load last (Poisson weights bits) = FitsPoisson load last weights bits
FitsMix load last Last = ⊥

-- the load fits the plan
abbrev pub FitsPlan : Fraction → PlanLists → Type 0
FitsPlan load plan = FitsMix load plan.layers plan.mix
