pub mod AddedRow
pub mod Fractions
pub mod NextWords
pub mod PlacedRow
pub mod RowWords
pub mod RowsOf
pub mod SideWords
pub mod StateRows
-- what the functions' own steps are
pub mod Laid
pub mod ShortLists
pub mod Written
