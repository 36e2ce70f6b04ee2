pub mod Declarations
pub mod LabelLines
pub mod LabText
pub mod LabFault
-- what the reader's own functions say
pub mod Reading
