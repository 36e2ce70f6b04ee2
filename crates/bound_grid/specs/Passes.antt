-- Whose a pass is, and what it knows.
use Rattle.std.specs.Prelude.{◌≡◌, ℕ, List, IsTrue}
use Rattle.step_core.specs.BoardRule.{NoWorse}
use Rattle.step_core.specs.CoreLists.{lower_at, upper_at, seal_at, stop_at}
use Rattle.step_core.specs.Limits.{sizes_of, limits_of}
use Rattle.bound_grid.specs.Notes.{AreNotes}
use Rattle.bound_grid.specs.declared.board.Board.{Board}
use Rattle.bound_grid.specs.declared.board.Pass.{Pass}

abbrev pub notes_of : Pass → List ℕ
notes_of pass = pass.seat.me.0.notes

-- the tickets that the pass has, and how often it may draw
abbrev pub tickets_of : Pass → List ℕ
tickets_of pass = pass.seat.me.0.tickets

abbrev pub draws_of : Pass → ℕ
draws_of pass = pass.seat.me.0.draws

-- the pass is live, and of this board
pub record IsPassOf (board : Board) (pass : Pass) : Type 0 where
  pub table : pass.seat.table_id ≡ board.table.shared.table_id
  pub live : IsTrue pass.seat.me.0.live
  pub sizes : pass.seat.me.0.sizes ≡ sizes_of board.plan
  pub limits : pass.seat.me.0.limits ≡ limits_of board.plan
  pub notes : AreNotes board.plan (notes_of pass)

-- what the pass knows of a word
abbrev pub lower_note : Board → Pass → ℕ → ℕ → ℕ
lower_note board pass = lower_at (sizes_of board.plan) (notes_of pass)

abbrev pub upper_note : Board → Pass → ℕ → ℕ → ℕ
upper_note board pass = upper_at (sizes_of board.plan) (notes_of pass)

abbrev pub seal_note : Board → Pass → ℕ → ℕ → ℕ
seal_note board pass = seal_at (sizes_of board.plan) (notes_of pass)

-- what it knows of the stop word
abbrev pub stop_note : Board → Pass → ℕ
stop_note board pass = stop_at (sizes_of board.plan) (notes_of pass)

-- the pass is the board's still, and knows at least what it knew
pub record KnowsAtLeast (board : Board) (before after : Pass) : Type 0 where
  pub pass : IsPassOf board after
  pub more : NoWorse (sizes_of board.plan) (notes_of before) (notes_of after)

-- and it didn't draw, nor look for a stop
pub record KnowsMore (board : Board) (before after : Pass) : Type 0 where
  pub pass : IsPassOf board after
  pub more : NoWorse (sizes_of board.plan) (notes_of before) (notes_of after)
  pub tickets : tickets_of after ≡ tickets_of before
  pub draws : draws_of after ≡ draws_of before
  pub stop : stop_note board after ≡ stop_note board before
