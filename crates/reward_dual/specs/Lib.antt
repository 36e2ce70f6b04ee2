pub mod Coprime
pub mod LowestTerms
pub mod Deciding
pub mod EarningRows
pub mod RewardPlan
pub mod RewardRefusal
