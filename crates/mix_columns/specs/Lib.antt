pub mod LayerSums
pub mod MixLaws
pub mod MixNumbers
pub mod Mixed
pub mod PlanUntil
pub mod SideBySide
