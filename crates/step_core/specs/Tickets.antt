-- The tickets that passes draw, one after another, from one word, and what is kept of them whatever the passes do.
use Rattle.std.specs.Prelude.{ℕ, ◌+◌, ◌-◌, ◌<◌, ◌≤◌, ◌==◌, min, List, [], ◌∷◌, ◌++◌, Bool, false, if◌then◌else◌}
use Rattle.std.specs.List.{sum_by, count_by}
use Rattle.step_core.specs.declared.draws.TheConstants.{MOST_DRAWS, SPLIT_DRAWS}

-- of a pass: whether it is live, the tickets that it drew, and how often it may draw
pub record Drawer : Type 0 where
  pub live : Bool
  pub tickets : List ℕ
  pub draws : ℕ

-- how often the live passes may draw, all together
abbrev pub draws_left : List Drawer → ℕ
draws_left drawers = sum_by (λ d. if d.live then d.draws else 0) drawers

-- how often a ticket stands in the lists of the live passes, all together
abbrev pub times_held : List Drawer → ℕ → ℕ
times_held drawers t = sum_by (λ d. if d.live then count_by (λ u. u == t) d.tickets else 0) drawers

-- before the ticket `next` is drawn: there is room for all draws that are left, each ticket that is held is below the next one, and no
-- ticket is held twice
pub record TicketsKept (next : ℕ) (drawers : List Drawer) : Type 0 where
  pub room : next + draws_left drawers ≤ MOST_DRAWS
  pub below : (t : ℕ) → 0 < times_held drawers t → t < next
  pub once : (t : ℕ) → times_held drawers t ≤ 1

-- one more ticket, for one draw
abbrev pub with_ticket : Drawer → ℕ → Drawer
with_ticket d t = record { live = d.live; tickets = d.tickets ++ t ∷ []; draws = d.draws - 1 }

-- the draws that a pass gives to one that is split off: all that it has, where these are few
abbrev pub given_draws : ℕ → ℕ
given_draws draws = min SPLIT_DRAWS draws

-- what a pass that is split has then, and what the other one has
abbrev pub split_kept : Drawer → Drawer
split_kept d = record { live = d.live; tickets = d.tickets; draws = d.draws - given_draws d.draws }

abbrev pub split_off : Drawer → Drawer
split_off d = record { live = d.live; tickets = []; draws = given_draws d.draws }

-- what a pass that another one joins has then, and the other one
abbrev pub joined : Drawer → Drawer → Drawer
joined kept other =
    record { live = kept.live; tickets = kept.tickets ++ other.tickets; draws = kept.draws + other.draws }

abbrev pub ended : Drawer → Drawer
ended d = record { live = false; tickets = d.tickets; draws = d.draws }
