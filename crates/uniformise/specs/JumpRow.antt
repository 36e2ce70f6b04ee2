-- The row of a state, with a divisor of its own.
use Rattle.std.specs.Prelude.{ℕ, ◌+◌, ◌-◌, ◌*◌, ◌==◌, if◌then◌else◌, List, map}
use Rattle.ctmc_semantics.specs.Chain.{Chain, exit_rate}
use Rattle.model_core.specs.declared.rate.Rate.{Rate}

-- of a total the jumps to each state have the rate so many times, and the state itself what its exit rate lacks of the total
abbrev pub jump_number : Chain → ℕ → ℕ → ℕ → ℕ → ℕ
jump_number chain factor total s t = chain.rate s t * factor + (if s == t then total - exit_rate chain s * factor else 0)

-- a transition at so many times its rate
abbrev pub times : ℕ → Rate → Rate
times factor r = record { from = r.from; to = r.to; rate = r.rate * factor }

abbrev pub all_times : ℕ → List Rate → List Rate
all_times factor rs = map (times factor) rs
