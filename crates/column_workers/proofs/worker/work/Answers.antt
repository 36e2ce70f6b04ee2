use Rattle.std.proofs.Common.{◌≡◌, ℕ, ◌+◌, ◌-◌, ◌/◌, ◌%◌, ◌<◌, ◌≤◌, List, [], ◌∷◌, ◌++◌, length, length-append, inl, ap, sym, ◌∙◌, subst, subst₂, arith}
use Rattle.std.specs.List.{All}
use Rattle.std.proofs.Math.Nat.{le-max_right, max-le}
use Rattle.std.proofs.lemmas.List.Elements.{All-push}
use Rattle.bound_grid.specs.Passes.{KnowsAtLeast, notes_of, seal_note, tickets_of}
use Rattle.bound_grid.proofs.KnownLemmas.{at_least, knows_itself, knows_then, least_then}
use Rattle.column_workers.specs.DrawnBlocks.{NotesTicket, block_tickets}
use Rattle.column_workers.proofs.BlockTickets.{all_below, all_noted, layer_kept, ticket_layer_in, tickets_kept}
use Rattle.step_core.specs.Limits.{sizes_of}
use Rattle.step_core.specs.Places.{blocks}
use Rattle.tighten_step.proofs.SeenSeals.{layer_stays}
use Rattle.column_workers.proofs.DrawnTickets.{AreRising, rising_none, rising_more}
use Rattle.column_workers.proofs.worker.work.Goals as goal

pub loop-draw-init : goal.loop-draw-init
loop-draw-init g c =
    let b = c.args.board.now in
    let none = c.requires.fresh.tickets in
    record {
      knows = at_least b _ _ (knows_itself b c.args.pass.now c.requires.fresh.is_pass);
      draws = omega arith;
      count = ap (λ (ts : List ℕ). length ts) none;
      rising = subst AreRising (sym none) rising_none;
      sealed = λ k d lt. absurd (omega (arith, lt, ap (λ (ts : List ℕ). length ts) none));
      order = omega arith;
      layers = λ j lt. absurd (omega (arith, lt));
    }

pub returns-then-ticket-tickets-clause-ended : goal.returns-then-ticket-tickets-clause-ended
returns-then-ticket-tickets-clause-ended g c =
    let b = c.args.board.now in
    let went = least_then b _ _ _ c.is_stopped.ensures.knows c.draw-ticket.ensures.knows in
    let known = c.loop-draw.invariant in
    inl (record {
      earlier = tickets_of c.loop-draw.pass;
      last = c.draw-ticket.result;
      drawn = c.draw-ticket.ensures.tickets ∙ ap (λ (ts : List ℕ). ts ++ c.draw-ticket.result ∷ []) c.is_stopped.ensures.tickets;
      sealed = all_noted b c.draw-ticket.new.pass (tickets_of c.loop-draw.pass)
          (tickets_kept b c.loop-draw.pass c.draw-ticket.new.pass went (tickets_of c.loop-draw.pass) known.sealed);
      none_left = omega (arith, c.if-ticket-tickets.true, c.open_blocks-tickets.ensures.count);
    })

pub reach_layer-sure-requires-clause-known : goal.reach_layer-sure-requires-clause-known
reach_layer-sure-requires-clause-known g c = λ _ _ j lt.
    let b = c.args.board.now in
    let went = least_then b _ _ _ c.is_stopped.ensures.knows
    (least_then b _ _ _ c.draw-ticket.ensures.knows c.stops.ensures.knows) in
    layer_kept b c.loop-draw.pass c.stops.new.pass went j (omega (arith, lt, c.loop-draw.invariant.order)) (c.loop-draw.invariant.layers j lt)

pub finish_block-requires-clause-before : goal.finish_block-requires-clause-before
finish_block-requires-clause-before g c =
    let k : ℕ = 1 + c.draw-ticket.result / c.from.result in
    c.reach_layer-sure.ensures.sealed (k - 1)
    (omega (arith, c.reach_layer-sure.ensures.answer, le-max_right c.loop-draw.sure k))

pub loop-draw-preserved : goal.loop-draw-preserved
loop-draw-preserved g c =
    let b = c.args.board.now in
    let z = sizes_of b.plan in
    let r : ℕ = c.draw-ticket.result in
    let k : ℕ = 1 + r / c.from.result in
    let known = c.loop-draw.invariant in
    let before = c.loop-draw.pass in
    let after = c.finish_block.new.pass in
    let count = c.open_blocks-tickets.ensures.count in
    let has : r < block_tickets b.plan = omega (arith, c.if-ticket-tickets.false, count) in
    let went : KnowsAtLeast b before after =
    least_then b _ _ _ c.is_stopped.ensures.knows
    (least_then b _ _ _ c.draw-ticket.ensures.knows
    (least_then b _ _ _ c.stops.ensures.knows
    (at_least b _ _ (knows_then b _ _ _ c.reach_layer-sure.ensures.knows c.finish_block.ensures.knows)))) in
    let tickets : tickets_of after ≡ tickets_of before ++ r ∷ [] =
    c.finish_block.ensures.knows.tickets ∙ c.reach_layer-sure.ensures.knows.tickets ∙ c.stops.ensures.tickets
    ∙ c.draw-ticket.ensures.tickets ∙ ap (λ (ts : List ℕ). ts ++ r ∷ []) c.is_stopped.ensures.tickets in
    let low : c.from.result ≡ blocks z = c.from.ensures ∙ c.blocks-blocks.ensures in
    let high : c.from-in-loop-draw.result ≡ blocks z = c.from-in-loop-draw.ensures ∙ c.blocks-blocks.ensures in
    let noted : NotesTicket b.plan (notes_of after) r =
    subst₂ (λ (d m : ℕ). seal_note b after (1 + r / d) (r % m) ≡ 1) low high c.finish_block.ensures.sealed in
    let layer : k ≤ b.plan.layers = subst (λ (d : ℕ). 1 + r / d ≤ b.plan.layers) (sym low) (ticket_layer_in b.plan r has) in
    let order : c.reach_layer-sure.result ≤ b.plan.layers =
    subst (λ (m : ℕ). m ≤ b.plan.layers) (sym c.reach_layer-sure.ensures.answer) (max-le known.order layer) in
    record {
      knows = least_then b _ _ _ known.knows went;
      draws =
          omega (
            arith,
            c.finish_block.ensures.knows.draws,
            c.reach_layer-sure.ensures.knows.draws,
            c.stops.ensures.draws,
            c.draw-ticket.ensures.draws,
            c.is_stopped.ensures.draws,
            known.draws,
          );
      count = omega (arith, ap (λ (ts : List ℕ). length ts) tickets, length-append {A = ℕ} (tickets_of before) (r ∷ []), known.count);
      rising = subst AreRising (sym tickets)
          (rising_more (tickets_of before) r known.rising
          (subst (λ (ts : List ℕ). All (λ t. t < r) ts) c.is_stopped.ensures.tickets c.draw-ticket.ensures.rises));
      sealed = subst (λ (ts : List ℕ). All (λ t. (t < block_tickets b.plan) × NotesTicket b.plan (notes_of after) t) ts) (sym tickets)
          (All-push (λ t. (t < block_tickets b.plan) × NotesTicket b.plan (notes_of after) t) (tickets_of before) r
          (tickets_kept b before after went (tickets_of before) known.sealed) (has, noted));
      order = order;
      layers = λ j lt.
          layer_stays b _ _ j c.finish_block.ensures.knows (omega (arith, lt, order)) (c.reach_layer-sure.ensures.sealed j lt);
    }

-- a pass has no more tickets below the last than there are
pub returns-clause-ended : goal.returns-clause-ended
returns-clause-ended g c =
    let p = c.args.board.now.plan in
    let known = c.loop-draw.invariant in
    let few = known.rising (block_tickets p) (all_below c.args.board.now c.loop-draw.pass (tickets_of c.loop-draw.pass) known.sealed) in
    absurd (omega (arith, few, known.count, c.loop-draw-test.false, c.open_blocks-tickets.ensures.count))
