-- The words of the next layer.
use Rattle.std.specs.Prelude.{◌≡◌, ℕ, ◌+◌, ◌<◌, ◌≤◌, Bool, false, List, length}
use Rattle.ctmc_semantics.specs.RoundedTables.{set_words, row_low, row_high}
use Rattle.ctmc_semantics.specs.Sets.{holds_at}
use Rattle.step_core.specs.FrameLists.{RowLists, SetLists, FrameLists}
use Rattle.step_core.specs.FrameRows.{frame_rows}
use Rattle.step_core.specs.Reach.{TellsReach}
use Rattle.step_core.specs.SoundFrame.{IsSoundFrame}
use Rattle.step_core.specs.declared.words.Words.{Words}
use Rattle.step_core.specs.WordPairs.{words_at, low_of, high_of}
use Rattle.flat_rows.specs.RowsOf.{low_needs_row, high_needs_row}

-- both words of a state in the layer after that of `words`
abbrev pub next_word : List RowLists → SetLists → List Words → ℕ → Words
next_word rows sets words s = record {
  low = row_low (frame_rows rows) (holds_at sets.live_must) (holds_at sets.goal_must) (low_of words) s;
  high = row_high (frame_rows rows) (holds_at sets.live_may) (holds_at sets.goal_may) (high_of words) s;
}

-- the part has the next layer's words of its states, which are those from `first` on
abbrev pub IsNextPart : List RowLists → SetLists → ℕ → List Words → List Words → Type 0
IsNextPart rows sets first words part = (p : ℕ) → p < length part → words_at part p ≡ next_word rows sets words (first + p)

-- the part has the words of its states that need no row, which are the same in each layer: 1 at the goal, and else 0
abbrev pub HasFixed : SetLists → List Bool → ℕ → List Words → Type 0
HasFixed sets reach first part =
    (p : ℕ) → p < length part → low_needs_row sets reach (first + p) ≡ false → high_needs_row sets reach (first + p) ≡ false
    → words_at part p
    ≡ record { low = set_words (holds_at sets.goal_must) (first + p); high = set_words (holds_at sets.goal_may) (first + p) }

-- what a step needs to be right: a sound frame, of which `reach` tells the states that can reach the goal, and the words that need no row,
-- both in the layer and in the part to be written
pub record CanStep (frame : FrameLists) (reach : List Bool) (first : ℕ) (words part : List Words) : Type 0 where
  pub frame_sound : IsSoundFrame frame
  pub tells : TellsReach frame reach
  pub states : length words ≡ length frame.rows
  pub inside : first + length part ≤ length frame.rows
  pub words_fixed : HasFixed frame.sets reach 0 words
  pub part_fixed : HasFixed frame.sets reach first part
