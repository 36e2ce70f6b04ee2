pub mod RewardKinds
pub mod RewardLimits
pub mod RewardSums
pub mod MarkLemmas
pub mod FileLemmas
pub mod Readings
