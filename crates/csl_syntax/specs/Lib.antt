pub mod TokenText
pub mod Tokens
pub mod Tree
pub mod Grammar
pub mod FormulaText
pub mod FormulaFault
pub mod CanonicalText
pub mod Laws
-- what the parser's own functions say
pub mod Scanner
pub mod Machine
pub mod View
pub mod Parsing
-- what the printer's own functions say
pub mod Printer
