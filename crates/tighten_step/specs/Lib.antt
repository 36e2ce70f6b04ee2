pub mod Quotients
pub mod Tight
pub mod Values
