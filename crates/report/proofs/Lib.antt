pub mod Fronts
pub mod PutLines
pub mod ReportLines
