pub mod Command
pub mod ModelFiles
pub mod FormulaLines
pub mod ExactReply
pub mod ExitCode
pub mod LineReply
pub mod Outcome
pub mod ReadCause
pub mod Serve
pub mod Laws
pub mod WorkedExample
-- what the functions' own steps say
pub mod Reading
