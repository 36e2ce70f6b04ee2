-- How passes of the pure machine draw, are split and meet, step by step.
use Rattle.std.specs.Prelude.{ℕ, ◌-◌, [], ◌∷◌, ◌++◌, true, slice_index, slice_set}
use Rattle.step_core.specs.BoardRule.{better_of}
use Rattle.step_core.specs.CoreLists.{PassLists, CoreLists, drawer_of, pass_with, pass_at}
use Rattle.step_core.specs.Places.{falls}
use Rattle.step_core.specs.Tickets.{Drawer, with_ticket, joined, ended}

-- the pass has drawn so, and knows what it knew
abbrev pub with_drawer : CoreLists → ℕ → Drawer → CoreLists
with_drawer core pass drawer = record {
  sizes = core.sizes;
  words = core.words;
  passes = slice_set core.passes pass (pass_with drawer (pass_at core pass).notes);
}

-- the first step of a draw: the pass has the ticket
abbrev pub ticket_got : CoreLists → ℕ → ℕ → CoreLists
ticket_got core pass t = with_drawer core pass (with_ticket (drawer_of (pass_at core pass)) t)

-- a split: a live pass is added that knows the same and may draw so often, and then the first gives as many draws away
abbrev pub pass_like : PassLists → ℕ → PassLists
pass_like pass draws = record { live = true; notes = pass.notes; tickets = []; draws = draws }

abbrev pub pass_added : CoreLists → ℕ → ℕ → CoreLists
pass_added core pass draws = record {
  sizes = core.sizes;
  words = core.words;
  passes = core.passes ++ pass_like (pass_at core pass) draws ∷ [];
}

abbrev pub with_fewer : PassLists → ℕ → Drawer
with_fewer pass draws = record { live = pass.live; tickets = pass.tickets; draws = pass.draws - draws }

abbrev pub draws_given : CoreLists → ℕ → ℕ → CoreLists
draws_given core pass draws = with_drawer core pass (with_fewer (pass_at core pass) draws)

-- the first step of a meeting: the kept pass has the tickets and the draws of both
abbrev pub draws_joined : CoreLists → ℕ → ℕ → CoreLists
draws_joined core kept other =
    with_drawer core kept (joined (drawer_of (pass_at core kept)) (drawer_of (pass_at core other)))

-- one word of a meeting: the kept pass notes the better of both notes
abbrev pub word_met : CoreLists → ℕ → ℕ → ℕ → CoreLists
word_met core kept other i = record {
  sizes = core.sizes;
  words = core.words;
  passes =
      slice_set core.passes kept
      (pass_with (drawer_of (pass_at core kept))
      (slice_set (pass_at core kept).notes i
      (better_of (falls core.sizes i) (slice_index (pass_at core kept).notes i) (slice_index (pass_at core other).notes i))));
}

-- a pass ends
abbrev pub without : CoreLists → ℕ → CoreLists
without core pass = with_drawer core pass (ended (drawer_of (pass_at core pass)))
