-- What contracts see of tables: lists of layers, and each layer a list of words.
use Rattle.std.specs.Prelude.{ℕ, List}

-- for each number of jumps from 0 on the states' words, rounded down and rounded up
pub record TableLists : Type 0 where
  pub low : List (List ℕ)
  pub high : List (List ℕ)
