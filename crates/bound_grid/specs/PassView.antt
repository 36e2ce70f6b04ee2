-- What a seat of the table is seen to know.
use Rattle.std.specs.Prelude.{ℕ, ◌+◌, List, [], slice_set, Bool, true, false}
use Rattle.step_core.specs.BoardRule.{better_notes}
use Rattle.step_core.specs.Limits.{sizes_of, limits_of, opening_words}
use Rattle.step_core.specs.Places.{Sizes}
use Rattle.step_core.specs.PlanLists.{PlanLists}
use Rattle.step_core.specs.Tickets.{Drawer, with_ticket, split_kept, split_off, joined}
use Rattle.step_core.specs.declared.draws.TheConstants.{MOST_DRAWS}

-- whether its pass is live, the sizes of the board and the limits of its words, a note of each word, the tickets that it drew, and how
-- often it may draw
pub record PassView : Type 0 where
  pub live : Bool
  pub sizes : Sizes
  pub limits : List ℕ
  pub notes : List ℕ
  pub tickets : List ℕ
  pub draws : ℕ

-- the view as one that draws
abbrev pub drawer_of : PassView → Drawer
drawer_of view = record { live = view.live; tickets = view.tickets; draws = view.draws }

-- the first pass knows all words, and has all draws
abbrev pub first_view : PlanLists → PassView
first_view plan = record {
  live = true;
  sizes = sizes_of plan;
  limits = limits_of plan;
  notes = opening_words plan;
  tickets = [];
  draws = MOST_DRAWS;
}

-- it drew so, and these are its notes
abbrev pub view_with : PassView → Drawer → List ℕ → PassView
view_with view drawer notes = record {
  live = drawer.live;
  sizes = view.sizes;
  limits = view.limits;
  notes = notes;
  tickets = drawer.tickets;
  draws = drawer.draws;
}

-- x is noted of the word at i
abbrev pub with_note : PassView → ℕ → ℕ → PassView
with_note view i x = view_with view (drawer_of view) (slice_set view.notes i x)

-- the ticket t was drawn from the word at i
abbrev pub with_drawn : PassView → ℕ → ℕ → PassView
with_drawn view i t = view_with view (with_ticket (drawer_of view) t) (slice_set view.notes i (t + 1))

-- a pass that is split, and the one that is split off, which knows the same
abbrev pub split_view : PassView → PassView
split_view view = view_with view (split_kept (drawer_of view)) view.notes

abbrev pub new_view : PassView → PassView
new_view view = view_with view (split_off (drawer_of view)) view.notes

-- the better of both notes at each place, and the tickets and the draws of both
abbrev pub better_view : PassView → PassView → PassView
better_view kept other =
    view_with kept (joined (drawer_of kept) (drawer_of other)) (better_notes kept.sizes kept.notes other.notes)

-- what a pass that ended leaves
abbrev pub ended_view : PassView
ended_view = record {
  live = false;
  sizes = record { layers = 0; states = 0 };
  limits = [];
  notes = [];
  tickets = [];
  draws = 0;
}
