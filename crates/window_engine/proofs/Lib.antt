pub mod LayerSteps
pub mod SameMixes
pub mod Settles
pub mod SmallPlans
pub mod Taken
