use Rattle.std.proofs.Common.{ℕ, ◌+◌, ◌*◌, ◌≤◌}
use Rattle.std.specs.Prelude.{All, vec_len}
use Rattle.bound_grid.specs.Passes.{IsPassOf, KnowsAtLeast, draws_of}
use Rattle.column_workers.specs.declared.hand.Hand.{Hand}
use Rattle.column_workers.proofs.race.meet_all.Given as goal

-- each that met had the least number of draws, and so have those that are left
abbrev pub invariant-loop-hand : goal.invariant-loop-hand
invariant-loop-hand l = record {
  knows : KnowsAtLeast l.board l.fn.pass l.pass;
  passes : All (λ (h : Hand). IsPassOf l.board h.pass) l.hands.items;
  draws : (least : ℕ) → All (λ (h : Hand). least ≤ draws_of h.pass) l.fn.hands.items
      → (draws_of l.fn.pass + vec_len l.fn.hands * least ≤ draws_of l.pass + vec_len l.hands * least)
      × All (λ (h : Hand). least ≤ draws_of h.pass) l.hands.items;
}

abbrev pub decreases-loop-hand : goal.decreases-loop-hand
decreases-loop-hand l = vec_len l.hands
