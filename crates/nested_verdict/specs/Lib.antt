pub mod ThreeValues
pub mod EarlyEnd
pub mod ExactState
pub mod ExactAnswer
-- what is computed
pub mod BracketAnswer
pub mod NextAnswer
pub mod UntilPlan
pub mod UntilAnswer
pub mod FormulaAnswer
pub mod UnwatchedAnswer
pub mod WatchedBrackets
pub mod EarlyAnswer
pub mod FixedAnswer
-- what the functions' own steps say
pub mod Operators
pub mod Ends
pub mod UntilBrackets
pub mod PlanFault
