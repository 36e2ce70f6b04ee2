-- The two lists of rounded Poisson weights.
use Rattle.std.specs.Prelude.{ℕ, List}

-- for each number of jumps from 0 on, its weight rounded down and rounded up
pub record WeightLists : Type 0 where
  pub low : List ℕ
  pub high : List ℕ
