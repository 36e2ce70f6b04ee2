pub mod PlanOf
pub mod UniformRows
