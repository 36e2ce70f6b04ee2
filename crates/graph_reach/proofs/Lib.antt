pub mod Counts
pub mod Places
pub mod ReachLemmas
pub mod SearchLemmas
pub mod SmallFrame
