pub mod Sums
-- what the divisor's own functions say
pub mod Reciprocal
