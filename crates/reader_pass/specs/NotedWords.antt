-- The bracket that notes give of a state.
use Rattle.std.specs.Prelude.{◌≡◌, ℕ, ◌<◌, List, length, map}
use Rattle.std.specs.List.{range_with_len}
use Rattle.bound_grid.specs.Notes.{AreNotes}
use Rattle.ctmc_semantics.specs.WordBracket.{WordBracket}
use Rattle.mix_columns.specs.Mixed.{plan_mix, plan_settle, one_thread_words, rest_mix}
use Rattle.mix_columns.specs.MixLaws.{EnclosesWords}
use Rattle.step_core.specs.BoardRule.{NoWorse}
use Rattle.step_core.specs.CoreLists.{lower_at, upper_at}
use Rattle.step_core.specs.Limits.{sizes_of}
use Rattle.step_core.specs.PlanLists.{PlanLists}
use Rattle.step_core.specs.PlanTables.{plan_low, plan_high}
use Rattle.step_core.specs.SoundPlan.{IsSoundPlan}

-- the settled mix of the notes of the state's words
abbrev pub noted_words : PlanLists → List ℕ → ℕ → WordBracket
noted_words plan notes s =
    plan_settle plan s (plan_mix plan (λ k. lower_at (sizes_of plan) notes k s) (λ k. upper_at (sizes_of plan) notes k s))

-- the notes of the state's lower words in the first layers, and those of its upper words
abbrev pub lower_notes : PlanLists → ℕ → List ℕ → ℕ → List ℕ
lower_notes plan s notes layers = map (λ k. lower_at (sizes_of plan) notes k s) (range_with_len 0 layers)

abbrev pub upper_notes : PlanLists → ℕ → List ℕ → ℕ → List ℕ
upper_notes plan s notes layers = map (λ k. upper_at (sizes_of plan) notes k s) (range_with_len 0 layers)

-- the settled mix of the notes of the first layers: past them each lower word counts as 0, and each upper one as 1
abbrev pub front_words : PlanLists → List ℕ → ℕ → ℕ → WordBracket
front_words plan notes s layers = plan_settle plan s (rest_mix plan (lower_notes plan s notes layers) (upper_notes plan s notes layers))

-- the notes of the state's words in a layer are those of the tables
pub record AtTables (plan : PlanLists) (s : ℕ) (notes : List ℕ) (k : ℕ) : Type 0 where
  pub lower : lower_at (sizes_of plan) notes k s ≡ plan_low plan k s
  pub upper : upper_at (sizes_of plan) notes k s ≡ plan_high plan k s

-- the bracket of notes encloses that of notes which are no worse
abbrev pub BetterNotesAreNarrower : Type 0
BetterNotesAreNarrower =
    (plan : PlanLists) (notes better : List ℕ) (s : ℕ) → IsSoundPlan plan → s < length plan.frame.rows
    → NoWorse (sizes_of plan) notes better → EnclosesWords (noted_words plan notes s) (noted_words plan better s)

-- the bracket of a pass's notes encloses the one that one thread computes
abbrev pub NotesEncloseOneThread : Type 0
NotesEncloseOneThread =
    (plan : PlanLists) (notes : List ℕ) (s : ℕ) → IsSoundPlan plan → s < length plan.frame.rows → AreNotes plan notes
    → EnclosesWords (noted_words plan notes s) (one_thread_words plan s)
