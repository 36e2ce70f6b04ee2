pub mod NotedLemmas
pub mod ColumnLemmas
pub mod TwoStates
pub mod ListedBrackets
