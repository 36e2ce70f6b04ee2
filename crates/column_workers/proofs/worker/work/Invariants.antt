use Rattle.std.proofs.Common.{◌≡◌, ℕ, ◌+◌, ◌<◌, ◌≤◌, length}
use Rattle.std.specs.List.{All}
use Rattle.bound_grid.specs.Passes.{KnowsAtLeast, draws_of, notes_of, tickets_of}
use Rattle.bound_grid.specs.SealNotes.{NotesLayer}
use Rattle.column_workers.specs.DrawnBlocks.{NotesTicket, block_tickets}
use Rattle.column_workers.proofs.DrawnTickets.{AreRising}
use Rattle.column_workers.proofs.worker.work.Given as goal

-- so many tickets were drawn, the block of each is final, and of the layers those before `sure` are
abbrev pub invariant-loop-draw : goal.invariant-loop-draw
invariant-loop-draw g l = record {
  knows : KnowsAtLeast l.board l.fn.pass l.pass;
  draws : draws_of l.pass + l._draw ≡ draws_of l.fn.pass;
  count : length (tickets_of l.pass) ≡ l._draw;
  rising : AreRising (tickets_of l.pass);
  sealed : All (λ t. (t < block_tickets l.board.plan) × NotesTicket l.board.plan (notes_of l.pass) t) (tickets_of l.pass);
  order : l.sure ≤ l.board.plan.layers;
  layers : (j : ℕ) → j < l.sure → NotesLayer l.board.plan (notes_of l.pass) j;
}
