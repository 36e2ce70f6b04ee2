pub mod Outward
pub mod WrittenLists
