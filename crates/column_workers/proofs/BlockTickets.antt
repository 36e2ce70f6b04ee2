-- The blocks of tickets, and the tickets of a pass, however it goes on.
use Rattle.std.proofs.Common.{ℕ, zero, suc, ◌+◌, ◌*◌, ◌/◌, ◌<◌, ◌≤◌, List, length, arith}
use Rattle.std.proofs.Math.Nat.{div-lt_iff_lt-mul, mod-lt, mul-le-mul_left}
use Rattle.std.specs.List.{All}
use Rattle.std.proofs.lemmas.List.Elements.{All-weaker}
use Rattle.bound_grid.specs.Passes.{KnowsAtLeast, notes_of}
use Rattle.bound_grid.specs.SealNotes.{NotesLayer}
use Rattle.bound_grid.specs.declared.board.Board.{Board}
use Rattle.bound_grid.specs.declared.board.Pass.{Pass}
use Rattle.bound_grid.proofs.KnownLemmas.{seal_kept}
use Rattle.column_workers.specs.DrawnBlocks.{NotesTicket, block_tickets, ticket_block, ticket_layer}
use Rattle.step_core.specs.Limits.{sizes_of}
use Rattle.step_core.specs.Places.{blocks}
use Rattle.step_core.specs.PlanLists.{PlanLists}

-- ---- places
some_blocks : (layers g t : ℕ) → t < layers * g → 0 < g
some_blocks layers zero t lt = absurd (omega (arith, lt))
some_blocks layers (suc g) t lt = omega arith

module _ (plan : PlanLists) (t : ℕ) (has : t < block_tickets plan) where
  pub some_block : 0 < blocks (sizes_of plan)
  some_block = some_blocks plan.layers (blocks (sizes_of plan)) t has

  pub ticket_layer_in : ticket_layer plan t ≤ plan.layers
  ticket_layer_in =
      let under : t / blocks (sizes_of plan) < plan.layers = (div-lt_iff_lt-mul some_block).1 has in
      omega (arith, under)

  pub ticket_block_in : ticket_block plan t < blocks (sizes_of plan)
  ticket_block_in = mod-lt t some_block

-- there are no more blocks than states
few_blocks : (layers n : ℕ) → (layers + 1) * n ≤ 8388608 → layers * ((n + 63) / 64) ≤ 8388608
few_blocks layers n few =
    let g : ℕ = (n + 63) / 64 in
    let le : g ≤ n = omega arith in
    let m : layers * g ≤ layers * n = mul-le-mul_left layers le in
    omega (arith, m, few)

pub few_tickets : (b : Board) → block_tickets b.plan ≤ 8388608
few_tickets b = few_blocks b.plan.layers (length b.plan.frame.rows) b.few

-- ---- what stays while a pass goes on
module _ (b : Board) (p q : Pass) (more : KnowsAtLeast b p q) where
  pub layer_kept : (k : ℕ) → k ≤ b.plan.layers → NotesLayer b.plan (notes_of p) k → NotesLayer b.plan (notes_of q) k
  layer_kept k le noted = record { at = λ c lt. seal_kept b p q more k c le lt (noted.at c lt) }

  -- the blocks of tickets that were drawn
  pub tickets_kept : (drawn : List ℕ) → All (λ t. (t < block_tickets b.plan) × NotesTicket b.plan (notes_of p) t) drawn
      → All (λ t. (t < block_tickets b.plan) × NotesTicket b.plan (notes_of q) t) drawn
  tickets_kept drawn all =
      All-weaker (λ t. (t < block_tickets b.plan) × NotesTicket b.plan (notes_of p) t)
      (λ t. (t < block_tickets b.plan) × NotesTicket b.plan (notes_of q) t)
      (λ t done. (
        done.0,
        seal_kept b p q more (ticket_layer b.plan t) (ticket_block b.plan t) (ticket_layer_in b.plan t done.0)
            (ticket_block_in b.plan t done.0) done.1,
      ))
      drawn all

module _ (b : Board) (p : Pass) (drawn : List ℕ) (all : All (λ t. (t < block_tickets b.plan) × NotesTicket b.plan (notes_of p) t) drawn) where
  pub all_below : All (λ t. t < block_tickets b.plan) drawn
  all_below =
      All-weaker (λ t. (t < block_tickets b.plan) × NotesTicket b.plan (notes_of p) t) (λ t. t < block_tickets b.plan) (λ t done. done.0)
      drawn all

  pub all_noted : All (NotesTicket b.plan (notes_of p)) drawn
  all_noted =
      All-weaker (λ t. (t < block_tickets b.plan) × NotesTicket b.plan (notes_of p) t) (NotesTicket b.plan (notes_of p)) (λ t done. done.1)
      drawn all
