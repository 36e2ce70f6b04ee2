pub mod FiveStates
pub mod PlanLayers
