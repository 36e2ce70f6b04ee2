pub mod Entries
pub mod Head
pub mod TraText
pub mod TraFault
-- what the reader's own functions say
pub mod Pairs
pub mod Reading
pub mod Rates
pub mod Repeats
