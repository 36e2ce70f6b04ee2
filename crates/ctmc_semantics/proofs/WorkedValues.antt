-- The definitions on three small chains whose values are known from elsewhere. States are numbered from 0.
use Rattle.std.proofs.Common.{◌≡◌, ℕ, ◌+◌, ◌*◌, ◌^◌, ◌/◌, Bool, true, false, [], ◌∷◌, refl}
use Rattle.std.specs.Int.{div_ceil}
use Rattle.ctmc_semantics.specs.Fraction.{fraction}
use Rattle.ctmc_semantics.specs.Chain.{Chain}
use Rattle.ctmc_semantics.specs.Table.{table_chain}
use Rattle.ctmc_semantics.specs.Sets.{holds_at, known_exactly}
use Rattle.ctmc_semantics.specs.Uniformised.{uniform_rate, uniformised, time_load}
use Rattle.ctmc_semantics.specs.JumpValue.{jump_fraction}
use Rattle.ctmc_semantics.specs.Poisson.{until_average}
use Rattle.ctmc_semantics.specs.Rows.{Rows}
use Rattle.ctmc_semantics.specs.RoundedTables.{set_words, low_table, high_table}
use Rattle.ctmc_semantics.specs.Weights.{low_weight, high_weight}
use Rattle.ctmc_semantics.specs.Horizon.{horizon}
use Rattle.ctmc_semantics.specs.WordBracket.{until_words}

-- ---- one way at rate 1 into the goal
abbrev one_way : Chain
one_way = table_chain 2 (0 ∷ 1 ∷ 0 ∷ 0 ∷ [])

abbrev always : ℕ → Bool
always s = true

abbrev second : ℕ → Bool
second = holds_at (false ∷ true ∷ [])

load_one : time_load one_way 0 1 0 ≡ fraction 1 1
load_one = refl

-- a rate of 0.1 and a time of 0.05
load_of_tenths : time_load one_way 1 5 2 ≡ fraction 5 1000
load_of_tenths = refl

average_0 : until_average (uniformised one_way) (fraction 1 1) always second 0 0 ≡ fraction 0 1
average_0 = refl

average_1 : until_average (uniformised one_way) (fraction 1 1) always second 0 1 ≡ fraction 1 2
average_1 = refl

-- 3 / 5
average_2 : until_average (uniformised one_way) (fraction 1 1) always second 0 2 ≡ fraction 3 5
average_2 = refl

-- 5 / 8
average_3 : until_average (uniformised one_way) (fraction 1 1) always second 0 3 ≡ fraction 10 16
average_3 = refl

at_the_goal : until_average (uniformised one_way) (fraction 1 1) always second 1 3 ≡ fraction 16 16
at_the_goal = refl

-- ---- a load of 0, with 30 bits
horizon_of_none : horizon (fraction 0 1) 30 ≡ 30
horizon_of_none = refl

first_high : high_weight (fraction 0 1) 1 ≡ 4096
first_high = refl

second_high : high_weight (fraction 0 1) 2 ≡ 1
second_high = refl

last_high : high_weight (fraction 0 1) 30 ≡ 1
last_high = refl

first_low : low_weight (fraction 0 1) 1 ≡ 0
first_low = refl

-- ---- a load of 1
horizon_of_one : horizon (fraction 1 1) 30 ≡ 32
horizon_of_one = refl

low_none : low_weight (fraction 1 1) 0 ≡ 2 ^ 112 / (2 ^ 50 + 1)
low_none = refl

high_none : high_weight (fraction 1 1) 0 ≡ 2 ^ 62
high_none = refl

low_two : low_weight (fraction 1 1) 2 ≡ 2 ^ 61
low_two = refl

high_two : high_weight (fraction 1 1) 2 ≡ 2 ^ 61 + 2 ^ 11
high_two = refl

-- ---- two ways out at rate 1 each, and a fourth state that enters at rate 4; the goal is the second state
abbrev two_ways : Chain
two_ways = table_chain 4 (0 ∷ 1 ∷ 1 ∷ 0 ∷ 0 ∷ 0 ∷ 0 ∷ 0 ∷ 0 ∷ 0 ∷ 0 ∷ 0 ∷ 4 ∷ 0 ∷ 0 ∷ 0 ∷ [])

abbrev goal_two : ℕ → Bool
goal_two = holds_at (false ∷ true ∷ false ∷ false ∷ [])

rate_four : uniform_rate two_ways ≡ 4
rate_four = refl

-- 120 / 256 is 0.46875
from_first : jump_fraction (uniformised two_ways) always goal_two 0 4 ≡ fraction 120 256
from_first = refl

-- 112 / 256 is 0.4375
from_fourth : jump_fraction (uniformised two_ways) always goal_two 3 4 ≡ fraction 112 256
from_fourth = refl

abbrev two_ways_rows : Rows
two_ways_rows = record {
  states = 4;
  num = (uniformised two_ways).weight;
  den = λ s. 4;
}

abbrev reach : ℕ → Bool
reach = holds_at (true ∷ true ∷ false ∷ true ∷ [])

-- 0.46875 and 0.53125 of 2 ^ 62
low_four : low_table two_ways_rows always goal_two 4 0 ≡ 15 * 2 ^ 57
low_four = refl

high_four : high_table two_ways_rows always goal_two (set_words reach) 4 0 ≡ 17 * 2 ^ 57
high_four = refl

-- ---- the mix of the first chain: at a load of 0 the upper word is 4125 and the 2 ^ 32 of the tail
abbrev one_way_rows : Rows
one_way_rows = record {
  states = 2;
  num = (uniformised one_way).weight;
  den = λ s. 1;
}

mix_of_none : until_words one_way_rows (fraction 0 1) 30 (known_exactly always second) 0 ≡ record { lower = 0; upper = 4294971421 }
mix_of_none = refl

-- at a load of 1 the words are those of 0.632120558828 and 0.632120559760
low_mix_of_one : (until_words one_way_rows (fraction 1 1) 30 (known_exactly always second) 0).lower * 10 ^ 12 / 2 ^ 62 ≡ 632120558828
low_mix_of_one = refl

high_mix_of_one : div_ceil ((until_words one_way_rows (fraction 1 1) 30 (known_exactly always second) 0).upper * 10 ^ 12) (2 ^ 62)
    ≡ 632120559760
high_mix_of_one = refl
