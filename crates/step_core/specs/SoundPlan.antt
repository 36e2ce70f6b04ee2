-- When a plan is sound.
use Rattle.std.specs.Prelude.{◌≡◌, ℕ, suc, ◌<◌, ◌≤◌, Bool, length, slice_index}
use Rattle.ctmc_semantics.specs.RoundedTables.{one_word, set_words}
use Rattle.ctmc_semantics.specs.Sets.{holds_at}
use Rattle.step_core.specs.declared.mix.Mix.{Mix}
use Rattle.step_core.specs.declared.mix.Mix.TheVariants.{Poisson, Last}
use Rattle.step_core.specs.Reach.{TellsReach}
use Rattle.step_core.specs.SoundFrame.{IsSoundFrame}
use Rattle.step_core.specs.PlanLists.{PlanLists}
use Rattle.step_core.specs.WeightLists.{WeightLists}

-- the weights of 0 to `last` jumps are sound: no low one is above its high one, none is above 1,
-- and some number of jumps has 1 for both
pub record AreSoundWeights (last : ℕ) (weights : WeightLists) : Type 0 where
  pub low_layers : length weights.low ≡ suc last
  pub high_layers : length weights.high ≡ suc last
  pub ordered : (k : ℕ) → k ≤ last → slice_index weights.low k ≤ slice_index weights.high k
  pub at_most_one : (k : ℕ) → k ≤ last → slice_index weights.high k ≤ one_word
  pub mode : ℕ
  pub mode_layer : mode ≤ last
  pub mode_low : slice_index weights.low mode ≡ one_word
  pub mode_high : slice_index weights.high mode ≡ one_word

-- the weights are sound, and `bits` is 8 to 48: the mix adds `2^-bits` to the upper word, for all that lies past the last layer
-- (no more than that lies there where the last layer is the load's horizon for these bits, which `FitsPoisson` asks)
pub record IsSoundPoisson (last : ℕ) (weights : WeightLists) (bits : ℕ) : Type 0 where
  pub weights_sound : AreSoundWeights last weights
  pub some_bits : 8 ≤ bits
  pub few_bits : bits ≤ 48

-- how the words of the layers 0 to `last` make a bracket is sound
abbrev pub IsSoundMix : ℕ → Mix → Type 0
IsSoundMix last (Poisson weights bits) = IsSoundPoisson last weights bits
IsSoundMix last Last = Unit {0}

-- the states whose upper words start at 1: for a bounded until those that may be the goal,
-- for an unbounded one those that can reach it
abbrev pub starts_at_one : Mix → (ℕ → Bool) → (ℕ → Bool) → ℕ → Bool
starts_at_one (Poisson weights bits) goal reach = goal
starts_at_one Last goal reach = reach

-- a plan is sound: it has 1 to 16,384 layers over a sound frame, it tells which states can reach the goal, and its upper words start
-- rightly
pub record IsSoundPlan (plan : PlanLists) : Type 0 where
  pub frame : IsSoundFrame plan.frame
  pub some_layer : 1 ≤ plan.layers
  pub few_layers : plan.layers ≤ 16384
  pub start_states : length plan.start_upper ≡ length plan.frame.rows
  pub start :
      (s : ℕ) → s < length plan.frame.rows
      → slice_index plan.start_upper s ≡ set_words (starts_at_one plan.mix (holds_at plan.frame.sets.goal_may) (holds_at plan.reach)) s
  pub reach : TellsReach plan.frame plan.reach
  pub mix : IsSoundMix plan.layers plan.mix
