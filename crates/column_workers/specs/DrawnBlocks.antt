-- The blocks of tickets: those of layer 1 in their order, then those of layer 2, and so on to the last layer. Later tickets have none.
use Rattle.std.specs.Prelude.{◌≡◌, ℕ, ◌+◌, ◌*◌, ◌/◌, ◌%◌, ◌<◌, ◌≤◌, ◌⊎◌, Bool, IsTrue, List, [], ◌∷◌, ◌++◌, All}
use Rattle.bound_grid.specs.Passes.{IsPassOf, notes_of, tickets_of, draws_of, stop_note}
use Rattle.bound_grid.specs.declared.board.Board.{Board}
use Rattle.bound_grid.specs.declared.board.Pass.{Pass}
use Rattle.step_core.specs.CoreLists.{seal_at}
use Rattle.step_core.specs.Limits.{sizes_of}
use Rattle.step_core.specs.Places.{blocks}
use Rattle.step_core.specs.PlanLists.{PlanLists}

-- how many tickets have a block
abbrev pub block_tickets : PlanLists → ℕ
block_tickets plan = plan.layers * blocks (sizes_of plan)

abbrev pub ticket_layer : PlanLists → ℕ → ℕ
ticket_layer plan t = 1 + t / blocks (sizes_of plan)

abbrev pub ticket_block : PlanLists → ℕ → ℕ
ticket_block plan t = t % blocks (sizes_of plan)

-- the seal of the ticket's block is noted as set
abbrev pub NotesTicket : PlanLists → List ℕ → ℕ → Type 0
NotesTicket plan notes t = seal_at (sizes_of plan) notes (ticket_layer plan t) (ticket_block plan t) ≡ 1

-- a pass that hasn't drawn, and has a draw for each ticket with a block and one more
pub record IsFresh (board : Board) (pass : Pass) : Type 0 where
  pub is_pass : IsPassOf board pass
  pub tickets : tickets_of pass ≡ []
  pub draws : block_tickets board.plan < draws_of pass

-- the pass drew for as long as the tickets had blocks, and made all those blocks final
pub record HasFinished (board : Board) (pass : Pass) : Type 0 where
  pub earlier : List ℕ
  pub last : ℕ
  pub drawn : tickets_of pass ≡ earlier ++ last ∷ []
  pub sealed : All (NotesTicket board.plan (notes_of pass)) earlier
  pub none_left : block_tickets board.plan ≤ last

-- it did, or it was told to stop, where workers may be
abbrev pub HasEnded : Board → Bool → Pass → Type 0
HasEnded board early pass = HasFinished board pass ⊎ (IsTrue early × (stop_note board pass ≡ 1))
