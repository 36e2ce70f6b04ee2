-- What each event does.
use Rattle.std.specs.Prelude.{ℕ, ◌+◌, ◌-◌, ◌*◌, min, max, List, [], ◌∷◌, ◌++◌, length, slice_index, slice_set}
use Rattle.std.specs.Prelude.{Bool, not, ◌&&◌, ◌==◌, nat_lt, nat_le, if◌then◌else◌}
use Rattle.std.specs.List.{list_all, range_with_len}
use Rattle.ctmc_semantics.specs.RoundedTables.{row_low, row_high}
use Rattle.ctmc_semantics.specs.Sets.{holds_at}
use Rattle.step_core.specs.BoardRule.{better_notes}
use Rattle.step_core.specs.CoreLists.{CoreLists, drawer_of, pass_with, pass_at, lower_at, upper_at, ticket_at, stop_at}
use Rattle.step_core.specs.FrameRows.{frame_rows}
use Rattle.step_core.specs.Limits.{sizes_of}
use Rattle.step_core.specs.Places.{blocks, lower_place, upper_place, seal_place, ticket_place, stop_place}
use Rattle.step_core.specs.PlanLists.{PlanLists}
use Rattle.step_core.specs.PlanTables.{plan_low, plan_high}
use Rattle.step_core.specs.Tickets.{with_ticket, split_kept, split_off, joined, ended}
use Rattle.step_core.specs.declared.blocks.TheConstants.{BLOCK_STATES}
use Rattle.step_core.specs.declared.event.Event.{Event}
use Rattle.step_core.specs.declared.event.Event.TheVariants.{LoadLower, LoadUpper, Raise, Cut, SeeSeal, Seal, Split, Meet, Draw, Stop, SeeStop}

-- the row values of a plan over a layer of words
abbrev pub plan_row_low : PlanLists → (ℕ → ℕ) → ℕ → ℕ
plan_row_low plan =
    row_low (frame_rows plan.frame.rows) (holds_at plan.frame.sets.live_must) (holds_at plan.frame.sets.goal_must)

abbrev pub plan_row_high : PlanLists → (ℕ → ℕ) → ℕ → ℕ
plan_row_high plan =
    row_high (frame_rows plan.frame.rows) (holds_at plan.frame.sets.live_may) (holds_at plan.frame.sets.goal_may)

-- the pass is live, and the layer and the state are in range
abbrev pub sees_cell : PlanLists → CoreLists → ℕ → ℕ → ℕ → Bool
sees_cell plan core pass k s = (pass_at core pass).live && (nat_le k plan.layers && nat_lt s (length plan.frame.rows))

-- the pass is live, and the layer and the block are in range
abbrev pub sees_block : PlanLists → CoreLists → ℕ → ℕ → ℕ → Bool
sees_block plan core pass k b = (pass_at core pass).live && (nat_le k plan.layers && nat_lt b (blocks (sizes_of plan)))

-- both passes are live, and they are two
abbrev pub can_meet : CoreLists → ℕ → ℕ → Bool
can_meet core kept ended = (pass_at core kept).live && ((pass_at core ended).live && not (kept == ended))

-- the pass is live, and has a draw
abbrev pub can_draw : CoreLists → ℕ → Bool
can_draw core pass = (pass_at core pass).live && nat_lt 0 (pass_at core pass).draws

-- the notes of the state equal the tables
abbrev pub is_done : PlanLists → List ℕ → ℕ → ℕ → Bool
is_done plan notes k s =
    lower_at (sizes_of plan) notes k s == plan_low plan k s && upper_at (sizes_of plan) notes k s == plan_high plan k s

-- the notes of all states of the block equal the tables
abbrev pub block_done : PlanLists → List ℕ → ℕ → ℕ → Bool
block_done plan notes k b =
    list_all (is_done plan notes k) (range_with_len (BLOCK_STATES * b) (min BLOCK_STATES (length plan.frame.rows - BLOCK_STATES * b)))

-- the pass notes x at a place
abbrev pub noted : CoreLists → ℕ → ℕ → ℕ → CoreLists
noted core pass i x = record {
  sizes = core.sizes;
  words = core.words;
  passes =
      slice_set core.passes pass (pass_with (drawer_of (pass_at core pass)) (slice_set (pass_at core pass).notes i x));
}

-- the word at a place becomes x, and the pass notes it
abbrev pub turned : CoreLists → ℕ → ℕ → ℕ → CoreLists
turned core pass i x = record {
  sizes = core.sizes;
  words = slice_set core.words i x;
  passes = (noted core pass i x).passes;
}

-- the pass gets the next ticket, for one draw, and the ticket after it is the next one
abbrev pub drawn : PlanLists → CoreLists → ℕ → CoreLists
drawn plan core pass = record {
  sizes = core.sizes;
  words = slice_set core.words (ticket_place (sizes_of plan)) (ticket_at (sizes_of plan) core.words + 1);
  passes =
      slice_set core.passes pass
      (pass_with (with_ticket (drawer_of (pass_at core pass)) (ticket_at (sizes_of plan) core.words))
      (slice_set (pass_at core pass).notes (ticket_place (sizes_of plan)) (ticket_at (sizes_of plan) core.words + 1)));
}

-- a pass with a copy of the notes is added, and gets some draws of the pass
abbrev pub split : CoreLists → ℕ → CoreLists
split core pass = record {
  sizes = core.sizes;
  words = core.words;
  passes =
      slice_set core.passes pass (pass_with (split_kept (drawer_of (pass_at core pass))) (pass_at core pass).notes)
      ++ pass_with (split_off (drawer_of (pass_at core pass))) (pass_at core pass).notes ∷ [];
}

-- the kept pass's notes become the better of both at each place, it gets the tickets and the draws of the other pass, and that one ends
abbrev pub met : PlanLists → CoreLists → ℕ → ℕ → CoreLists
met plan core kept other = record {
  sizes = core.sizes;
  words = core.words;
  passes =
      slice_set
      (slice_set core.passes kept
      (pass_with (joined (drawer_of (pass_at core kept)) (drawer_of (pass_at core other)))
      (better_notes (sizes_of plan) (pass_at core kept).notes (pass_at core other).notes)))
      other (pass_with (ended (drawer_of (pass_at core other))) (pass_at core other).notes);
}

-- the machine after an event
abbrev pub event_gives : PlanLists → CoreLists → Event → CoreLists
event_gives plan core (LoadLower pass k s) =
    if sees_cell plan core pass k s
    then noted core pass (lower_place (sizes_of plan) k s) (lower_at (sizes_of plan) core.words k s) else core
event_gives plan core (LoadUpper pass k s) =
    if sees_cell plan core pass k s
    then noted core pass (upper_place (sizes_of plan) k s) (upper_at (sizes_of plan) core.words k s) else core
event_gives plan core (Raise pass k s) =
    if sees_cell plan core pass k s && nat_lt 0 k
    then turned core pass (lower_place (sizes_of plan) k s)
    (max (lower_at (sizes_of plan) core.words k s)
    (plan_row_low plan (lower_at (sizes_of plan) (pass_at core pass).notes (k - 1)) s)) else core
event_gives plan core (Cut pass k s) =
    if sees_cell plan core pass k s && nat_lt 0 k
    then turned core pass (upper_place (sizes_of plan) k s)
    (min (upper_at (sizes_of plan) core.words k s)
    (plan_row_high plan (upper_at (sizes_of plan) (pass_at core pass).notes (k - 1)) s)) else core
event_gives plan core (SeeSeal pass k b) =
    if sees_block plan core pass k b
    then noted core pass (seal_place (sizes_of plan) k b) (slice_index core.words (seal_place (sizes_of plan) k b)) else core
event_gives plan core (Seal pass k b) =
    if sees_block plan core pass k b && (nat_lt 0 k && block_done plan (pass_at core pass).notes k b)
    then turned core pass (seal_place (sizes_of plan) k b) 1 else core
event_gives plan core (Split pass) = if (pass_at core pass).live then split core pass else core
event_gives plan core (Meet kept ended) =
    if can_meet core kept ended then met plan core kept ended else core
event_gives plan core (Draw pass) = if can_draw core pass then drawn plan core pass else core
event_gives plan core (Stop pass) =
    if (pass_at core pass).live then turned core pass (stop_place (sizes_of plan)) 1 else core
event_gives plan core (SeeStop pass) =
    if (pass_at core pass).live
    then noted core pass (stop_place (sizes_of plan)) (stop_at (sizes_of plan) core.words) else core
