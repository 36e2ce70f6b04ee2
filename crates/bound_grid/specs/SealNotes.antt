-- What notes say of seals.
use Rattle.std.specs.Prelude.{◌≡◌, ℕ, ◌<◌, ◌≤◌, List, All}
use Rattle.step_core.specs.CoreLists.{seal_at}
use Rattle.step_core.specs.FrameRows.{row_at}
use Rattle.step_core.specs.Limits.{sizes_of}
use Rattle.step_core.specs.Places.{blocks, block_of}
use Rattle.step_core.specs.PlanLists.{PlanLists}

-- every seal of the layer is noted as set
pub record NotesLayer (plan : PlanLists) (notes : List ℕ) (k : ℕ) : Type 0 where
  pub at : (b : ℕ) → b < blocks (sizes_of plan) → seal_at (sizes_of plan) notes k b ≡ 1

-- every seal is
pub record NotesAll (plan : PlanLists) (notes : List ℕ) : Type 0 where
  pub at : (k : ℕ) → k ≤ plan.layers → NotesLayer plan notes k

-- the seals of the state's block in every layer are
pub record NotesColumn (plan : PlanLists) (notes : List ℕ) (s : ℕ) : Type 0 where
  pub at : (k : ℕ) → k ≤ plan.layers → seal_at (sizes_of plan) notes k (block_of s) ≡ 1

-- the seals of the layer's blocks that the state's row names are
abbrev pub NotesRow : PlanLists → List ℕ → ℕ → ℕ → Type 0
NotesRow plan notes k s = All (λ e. seal_at (sizes_of plan) notes k (block_of e.to) ≡ 1) (row_at plan.frame.rows s).entries
