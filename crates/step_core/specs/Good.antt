-- The invariant of the pure machine.
use Rattle.std.specs.Prelude.{◌≡◌, List, ℕ, IsTrue, All, length, map}
use Rattle.step_core.specs.BoardRule.{FitNotes, WordsKept}
use Rattle.step_core.specs.CoreLists.{PassLists, CoreLists, drawer_of, ticket_at}
use Rattle.step_core.specs.Limits.{sizes_of, limits_of}
use Rattle.step_core.specs.Places.{Sizes}
use Rattle.step_core.specs.PlanLists.{PlanLists}
use Rattle.step_core.specs.Tickets.{TicketsKept}

-- a pass, live or ended, has a note of each word; those of a live one are no better than the words
pub record IsPassOf (z : Sizes) (words : List ℕ) (pass : PassLists) : Type 0 where
  pub size : length pass.notes ≡ length words
  pub fits : IsTrue pass.live → FitNotes z words pass.notes

-- the machine is of the plan, its words keep the rule, what its passes know fits them, and so do the tickets that they drew
pub record Good (plan : PlanLists) (core : CoreLists) : Type 0 where
  pub sizes : core.sizes ≡ sizes_of plan
  pub words : WordsKept (sizes_of plan) (limits_of plan) core.words
  pub passes : All (IsPassOf (sizes_of plan) core.words) core.passes
  pub tickets : TicketsKept (ticket_at (sizes_of plan) core.words) (map drawer_of core.passes)
