pub mod Sums
pub mod ChainSums
pub mod Rows
pub mod Order
pub mod ModelLemmas
pub mod RateSearch
pub mod StateNumbers
