pub mod Digits
pub mod DecimalNumber
pub mod Text
pub mod Spelling
pub mod NumberValue
pub mod DecimalWord
pub mod Scale
-- what the reader's own functions say
pub mod Reading
