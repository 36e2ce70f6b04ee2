-- The mixers of all states, side by side.
use Rattle.std.specs.Prelude.{◌≡◌, ℕ, ◌<◌, List, length, map, slice_index_or}
use Rattle.std.specs.List.{range_with_len}
use Rattle.step_core.specs.PlanLists.{PlanLists}
use Rattle.step_core.specs.WordPairs.{words_at}
use Rattle.step_core.specs.declared.bracket.Bracket.{Bracket}
use Rattle.step_core.specs.declared.words.Words.{Words}
use Rattle.mix_columns.specs.declared.state_sums.StateSums.{StateSums}
use Rattle.mix_columns.specs.LayerSums.{sums_at}
use Rattle.mix_columns.specs.Mixed.{whole_mix, words_of}
use Rattle.mix_columns.specs.MixNumbers.{MixNumbers, StandsFor}

-- the numbers that the mixers of all states share
pub record SharedNumbers : Type 0 where
  pub count : ℕ
  pub low_divisor : ℕ
  pub high_divisor : ℕ
  pub rest : ℕ

-- the numbers of a state's mixer, of the shared ones and those of each state
abbrev pub numbers_at : SharedNumbers → List StateSums → List Words → ℕ → MixNumbers
numbers_at shared sums last s = record {
  count = shared.count;
  low = (sums_at sums s).low;
  high = (sums_at sums s).high;
  last_low = (words_at last s).low;
  last_high = (words_at last s).high;
  low_divisor = shared.low_divisor;
  high_divisor = shared.high_divisor;
  rest = shared.rest;
}

-- the numbers of all mixers
abbrev pub mixers_of : SharedNumbers → List StateSums → List Words → List MixNumbers
mixers_of shared sums last = map (numbers_at shared sums last) (range_with_len 0 (length sums))

-- the state's mixer
abbrev pub mixer_at : List MixNumbers → ℕ → MixNumbers
mixer_at mixers s = slice_index_or mixers s record {
  count = 0;
  low = 0;
  high = 0;
  last_low = 0;
  last_high = 0;
  low_divisor = 0;
  high_divisor = 0;
  rest = 0;
}

-- the state's bracket
abbrev pub bracket_at : List Bracket → ℕ → Bracket
bracket_at brackets s = slice_index_or brackets s record { lower = 0; upper = 0 }

-- each state's bracket is the mix of every two columns for which its mixer stands
abbrev pub AreMixes : PlanLists → List MixNumbers → List Bracket → Type 0
AreMixes plan mixers brackets =
    (s : ℕ) (xs ys : List ℕ) → s < length mixers → StandsFor plan (mixer_at mixers s) xs ys
    → words_of (bracket_at brackets s) ≡ whole_mix plan xs ys
