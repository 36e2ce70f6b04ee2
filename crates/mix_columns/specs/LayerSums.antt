-- The states' running sums, layer by layer.
use Rattle.std.specs.Prelude.{ℕ, ◌+◌, ◌*◌, ◌/◌, ◌^◌, ◌≤◌, List, All, slice_index_or}
use Rattle.std.specs.Int.{div_ceil}
use Rattle.step_core.specs.declared.words.Words.{Words}
use Rattle.mix_columns.specs.declared.layer_weights.LayerWeights.{LayerWeights}
use Rattle.mix_columns.specs.declared.state_sums.StateSums.{StateSums}

-- the sums of a state; past the last one, none
abbrev pub sums_at : List StateSums → ℕ → StateSums
sums_at sums s = slice_index_or sums s record { low = 0; high = 0 }

-- the sums with the weighted words of a layer, in units of `2^14`: the lower one rounded down, the upper one rounded up
abbrev pub weighted_sums : StateSums → LayerWeights → Words → StateSums
weighted_sums sums weights words = record {
  low = sums.low + weights.low * words.low / 2 ^ 14;
  high = sums.high + div_ceil (weights.high * words.high) (2 ^ 14);
}

-- two more layers fit
abbrev pub HaveRoom : List StateSums → Type 0
HaveRoom sums = All (λ z. (z.low ≤ 16385 * 2 ^ 110) × (z.high ≤ 16385 * 2 ^ 110)) sums
