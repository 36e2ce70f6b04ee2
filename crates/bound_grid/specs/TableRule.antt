-- The rule of a board's table, which holds between any two steps of any threads.
use Rattle.std.specs.Prelude.{◌≡◌, ℕ, List, map, length, slice_index, IsTrue}
use mathlib.Core.Option.{some}
use lib.ListN.{get_elem?}
use Rattle.atomic_table.specs.Table.{State}
use Rattle.step_core.specs.BoardRule.{FitNotes, WordsKept}
use Rattle.step_core.specs.CoreLists.{ticket_at}
use Rattle.step_core.specs.Limits.{sizes_of, limits_of}
use Rattle.step_core.specs.PlanLists.{PlanLists}
use Rattle.step_core.specs.Tickets.{TicketsKept}
use Rattle.bound_grid.specs.PassView.{PassView, drawer_of}

-- a pass is of the plan's board, and its notes of the words are no better than they
pub record FitsBoard (plan : PlanLists) (words : List ℕ) (view : PassView) : Type 0 where
  pub sizes : view.sizes ≡ sizes_of plan
  pub limits : view.limits ≡ limits_of plan
  pub size : length view.notes ≡ length words
  pub notes : FitNotes (sizes_of plan) words view.notes

-- word 0 is 0, the words keep the rule, what the live passes know fits them, and so do the tickets that they drew
pub record IsKept (plan : PlanLists) (state : State ℕ PassView) : Type 0 where
  pub zero : slice_index state.words 0 ≡ 0
  pub words : WordsKept (sizes_of plan) (limits_of plan) state.words
  pub passes :
      (seat : ℕ) (view : PassView) → get_elem? state.views seat ≡ some view → IsTrue view.live → FitsBoard plan state.words view
  pub tickets : TicketsKept (ticket_at (sizes_of plan) state.words) (map drawer_of state.views)
