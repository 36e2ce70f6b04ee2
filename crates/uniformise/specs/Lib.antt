pub mod TimePlan
pub mod UnboundedPlan
-- what the functions' own steps say
pub mod JumpRow
pub mod UniformisedRow
