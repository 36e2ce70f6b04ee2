pub mod Lines
pub mod LinesOf
pub mod Words
pub mod WordsOf
pub mod WordLines
pub mod Items
pub mod WholeNumber
pub mod Name
pub mod Entries
pub mod EntryFault
pub mod FileLaws
pub mod Laws
-- what the readers' own functions say
pub mod EntryLines
pub mod Told
