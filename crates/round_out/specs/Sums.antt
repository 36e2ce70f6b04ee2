-- What is known of a row that is being added up.
use Rattle.std.specs.Prelude.{ℕ}

-- the sum of the row's numbers times their targets' words, and the sum of its numbers
pub record Sums : Type 0 where
  pub products : ℕ
  pub numbers : ℕ
