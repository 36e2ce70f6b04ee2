-- What is looked at for the quotients of a row, and what is found.
use Rattle.std.specs.Prelude.{◌≡◌, ℕ, ◌*◌, ◌/◌, ◌^◌, ◌<◌, ◌≤◌, All, length, map}
use Rattle.std.specs.Int.{div_ceil}
use Rattle.bound_grid.specs.Passes.{KnowsMore, lower_note, upper_note, seal_note}
use Rattle.bound_grid.specs.declared.board.Board.{Board}
use Rattle.bound_grid.specs.declared.board.Pass.{Pass}
use Rattle.flat_rows.specs.RowWords.{IsFit}
use Rattle.flat_rows.specs.StateRows.{row_products}
use Rattle.flat_rows.specs.declared.state_rows.StateRow.{StateRow}
use Rattle.step_core.specs.FrameLists.{RowLists}
use Rattle.step_core.specs.Places.{block_of}
use Rattle.step_core.specs.PlanLists.{PlanLists}
use Rattle.step_core.specs.PlanTables.{plan_low, plan_high}
use Rattle.step_core.specs.SoundFrame.{Ascend}

abbrev pub lists_of : StateRow → RowLists
lists_of row = record { den = row.divisor.now; entries = row.entries.now }

-- the row leads to states of the plan, each time to a later one, and its numbers add up to its divisor
pub record IsReady (plan : PlanLists) (row : RowLists) : Type 0 where
  pub fit : IsFit (length plan.frame.rows) row
  pub ascend : Ascend (map (λ e. e.to) row.entries)
  pub positive : 0 < row.den

-- the pass knows more of words, and of seals what it knew
pub record KnowsMoreWords (board : Board) (before after : Pass) : Type 0 where
  pub knows : KnowsMore board before after
  pub seals : (j b : ℕ) → seal_note board after j b ≡ seal_note board before j b

-- the noted words of the row's targets in the layer equal the table where the pass noted their seals before
abbrev pub AreSealed : Board → Pass → ℕ → RowLists → (ℕ → ℕ) → (ℕ → ℕ) → Type 0
AreSealed board before k row notes table =
    All (λ e. seal_note board before k (block_of e.to) ≡ 1 → notes e.to ≡ table e.to) row.entries

-- the row's products with the noted words of its targets
pub record AreProducts (board : Board) (before : Pass) (k : ℕ) (row : RowLists) (notes table : ℕ → ℕ) (products : ℕ) : Type 0 where
  pub sum : products ≡ row_products row notes
  pub at_most_one : products ≤ row.den * 2 ^ 62
  pub exact : AreSealed board before k row notes table

-- the products with the lower words that the pass then notes in the layer
abbrev pub AreLowProducts : Board → Pass → Pass → ℕ → RowLists → ℕ → Type 0
AreLowProducts board before after k row products =
    AreProducts board before k row (lower_note board after k) (plan_low board.plan k) products

-- the products with the upper words
abbrev pub AreHighProducts : Board → Pass → Pass → ℕ → RowLists → ℕ → Type 0
AreHighProducts board before after k row products =
    AreProducts board before k row (upper_note board after k) (plan_high board.plan k) products

-- the row's quotient over the lower words that the pass then notes in the layer, rounded down
pub record IsLowQuotient (board : Board) (before after : Pass) (k : ℕ) (row : RowLists) (word : ℕ) : Type 0 where
  pub value : word ≡ row_products row (lower_note board after k) / row.den
  pub exact : AreSealed board before k row (lower_note board after k) (plan_low board.plan k)

-- the quotient over the upper words, rounded up
pub record IsHighQuotient (board : Board) (before after : Pass) (k : ℕ) (row : RowLists) (word : ℕ) : Type 0 where
  pub value : word ≡ div_ceil (row_products row (upper_note board after k)) row.den
  pub exact : AreSealed board before k row (upper_note board after k) (plan_high board.plan k)
