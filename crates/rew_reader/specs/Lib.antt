pub mod RewardLines
pub mod RewText
pub mod RewFault
-- what the reader's own functions say
pub mod Reading
