pub mod Sum
pub mod Fraction
pub mod Chain
pub mod Next
pub mod Threshold
pub mod Bracket
pub mod RoundedOut
pub mod Verdict
pub mod Sets
pub mod Jumps
pub mod Rows
pub mod Uniformised
pub mod JumpValue
pub mod Poisson
pub mod Value
pub mod Reach
pub mod Horizon
-- what is computed
pub mod Compared
pub mod Units
pub mod RoundedTables
pub mod Weights
pub mod Mix
pub mod WordBracket
-- what the laws say
pub mod Laws
pub mod BracketLaws
pub mod ContainsLaws
pub mod JumpLaws
pub mod MixLaws
pub mod PoissonLaws
pub mod TableLaws
pub mod VerdictLaws
pub mod WeightLaws
-- what the plain programs' own functions say
pub mod Column
pub mod Table
