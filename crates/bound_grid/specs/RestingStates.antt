-- States that stay where they are: what tests run on.
use Rattle.std.specs.Prelude.{ℕ, List, [], ◌∷◌, map}
use Rattle.std.specs.List.{range_with_len}
use Rattle.step_core.specs.FrameLists.{RowLists}

-- the row of each state leads to itself
abbrev pub resting_rows : ℕ → List RowLists
resting_rows n = map (λ s. record { den = 1; entries = record { to = s; num = 1 } ∷ [] }) (range_with_len 0 n)
