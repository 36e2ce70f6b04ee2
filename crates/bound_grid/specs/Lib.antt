pub mod Notes
pub mod PassView
pub mod Passes
pub mod SealNotes
-- the steps of the table
pub mod Steps
pub mod TableRule
-- what the tests run on
pub mod RestingStates
