-- What contracts see of the pure machine: the words of a board, and what each pass knows of them.
use Rattle.std.specs.Prelude.{ℕ, List, [], ◌∷◌, slice_index, slice_index_or, Bool, true, false}
use Rattle.step_core.specs.Limits.{sizes_of, opening_words}
use Rattle.step_core.specs.Places.{Sizes, lower_place, upper_place, seal_place, ticket_place, stop_place}
use Rattle.step_core.specs.PlanLists.{PlanLists}
use Rattle.step_core.specs.Tickets.{Drawer}
use Rattle.step_core.specs.declared.draws.TheConstants.{MOST_DRAWS}

-- a pass: whether it is live, its note of each word, the tickets that it drew, and how often it may draw
pub record PassLists : Type 0 where
  pub live : Bool
  pub notes : List ℕ
  pub tickets : List ℕ
  pub draws : ℕ

-- a pass as one that draws
abbrev pub drawer_of : PassLists → Drawer
drawer_of pass = record { live = pass.live; tickets = pass.tickets; draws = pass.draws }

abbrev pub pass_with : Drawer → List ℕ → PassLists
pass_with drawer notes =
    record { live = drawer.live; notes = notes; tickets = drawer.tickets; draws = drawer.draws }

pub record CoreLists : Type 0 where
  pub sizes : Sizes
  pub words : List ℕ
  pub passes : List PassLists

-- the pass with a number; one that isn't there isn't live
abbrev pub no_pass : PassLists
no_pass = record { live = false; notes = []; tickets = []; draws = 0 }

abbrev pub pass_at : CoreLists → ℕ → PassLists
pass_at core pass = slice_index_or core.passes pass no_pass

-- the words of a list, of a board's words or of a pass's notes, by what they are of
abbrev pub lower_at : Sizes → List ℕ → ℕ → ℕ → ℕ
lower_at z words k s = slice_index words (lower_place z k s)

abbrev pub upper_at : Sizes → List ℕ → ℕ → ℕ → ℕ
upper_at z words k s = slice_index words (upper_place z k s)

abbrev pub seal_at : Sizes → List ℕ → ℕ → ℕ → ℕ
seal_at z words k b = slice_index words (seal_place z k b)

abbrev pub ticket_at : Sizes → List ℕ → ℕ
ticket_at z words = slice_index words (ticket_place z)

abbrev pub stop_at : Sizes → List ℕ → ℕ
stop_at z words = slice_index words (stop_place z)

-- the machine at the start: one pass, which knows all words and has all draws
abbrev pub opening : PlanLists → CoreLists
opening plan = record {
  sizes = sizes_of plan;
  words = opening_words plan;
  passes = record { live = true; notes = opening_words plan; tickets = []; draws = MOST_DRAWS } ∷ [];
}
