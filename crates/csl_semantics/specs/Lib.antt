pub mod Dual
pub mod Meaning
pub mod Laws
-- what is computed
pub mod Truth
-- what is worked out by hand
pub mod WorkedMeanings
