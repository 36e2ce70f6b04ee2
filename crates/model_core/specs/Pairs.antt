-- Pairs of states.
use Rattle.std.specs.Prelude.{ℕ, ◌+◌, ◌*◌, ◌^◌}

-- the number of a pair of states, which orders pairs by the state that is left, and then by the state that is reached
abbrev pub pair_number : ℕ → ℕ → ℕ
pair_number from to = from * 2 ^ 32 + to
