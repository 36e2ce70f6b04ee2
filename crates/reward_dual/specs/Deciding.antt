-- Which state decides how fast the dual chain jumps, and its rows, each over a divisor of its own.
use Rattle.std.specs.Prelude.{ℕ, zero, suc, ◌*◌, ◌==◌, if◌then◌else◌, Bool, nat_lt}
use Rattle.ctmc_semantics.specs.Chain.{Chain, exit_rate}

-- s is left faster than z for each unit of reward
abbrev pub is_left_faster : Chain → (ℕ → ℕ) → ℕ → ℕ → Bool
is_left_faster chain reward s z = nat_lt (exit_rate chain z * reward s) (exit_rate chain s * reward z)

-- the first of the first n states that is left fastest
abbrev pub fastest_below : Chain → (ℕ → ℕ) → ℕ → ℕ
fastest_below chain reward zero = 0
fastest_below chain reward (suc n) =
    let z = fastest_below chain reward n in
    if is_left_faster chain reward n z then n else z

-- the deciding state: the first that is left fastest for each unit of reward
abbrev pub deciding_state : Chain → (ℕ → ℕ) → ℕ
deciding_state chain reward = fastest_below chain reward chain.states

abbrev pub deciding_rate : Chain → (ℕ → ℕ) → ℕ
deciding_rate chain reward = exit_rate chain (deciding_state chain reward)

-- the divisor of a state's row, 1 where all rates are 0
abbrev pub row_total : Chain → (ℕ → ℕ) → ℕ → ℕ
row_total chain reward s = if deciding_rate chain reward == 0 then 1 else reward s * deciding_rate chain reward

-- how many times each rate stands in its row
abbrev pub row_factor : Chain → (ℕ → ℕ) → ℕ
row_factor chain reward = if deciding_rate chain reward == 0 then 1 else reward (deciding_state chain reward)
