-- States as the files number them.
use Rattle.std.specs.Prelude.{ℕ, ◌+◌, ◌≤◌}

-- the number of one of n states, from 1
abbrev pub IsState : ℕ → ℕ → Type 0
IsState n s = (1 ≤ s) × (s ≤ n)

-- the number in a file of a state that is numbered from 0
abbrev pub state_number : ℕ → ℕ
state_number s = s + 1
