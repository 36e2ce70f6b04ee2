pub mod CallLemmas
pub mod KeptLemmas
pub mod KnownLemmas
pub mod NoteLemmas
pub mod RestingStates
