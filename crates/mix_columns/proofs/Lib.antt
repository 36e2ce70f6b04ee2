pub mod Columns
pub mod MixLemmas
pub mod WeightLemmas
pub mod MixLawLemmas
pub mod SideLemmas
pub mod LayerLemmas
pub mod SmallPlans
pub mod PlanUntilLemmas
