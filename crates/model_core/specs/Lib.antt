pub mod Pairs
pub mod Transitions
pub mod Files
pub mod Model
pub mod Laws
pub mod StateNumber
