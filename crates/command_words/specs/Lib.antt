pub mod Setting
pub mod Parts
pub mod Flag
pub mod Command
pub mod Words
pub mod Laws
-- what words are read as, by places
pub mod OneWord
pub mod Reading
-- what the crate's own functions say
pub mod Scan
pub mod Steps
pub mod ClapCommand
pub mod Matches
