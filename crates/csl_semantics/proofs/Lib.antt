pub mod ExactLists
pub mod Unique
pub mod NeverMissing
pub mod Truths
pub mod FormulaKinds
pub mod WorkedLists
