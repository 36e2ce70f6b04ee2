use Rattle.std.proofs.Common.{List, ℕ, set, ap, ◌∙◌, arith}
use Rattle.std.specs.Prelude.{bit_or}
use Rattle.bound_grid.specs.Passes.{notes_of}
use Rattle.step_core.specs.Limits.{sizes_of}
use Rattle.step_core.specs.Places.{stop_place}
use Rattle.bound_grid.proofs.CallLemmas.{in_table, or_one, stop_here, may_stop, stop_found, stop_knows, stop_noted, same_tickets, same_draws}
use Rattle.bound_grid.proofs.board.Board.stop.Goals as goal

pub fetch_or-requires : goal.fetch_or-requires
fetch_or-requires c = (
  c.requires.pass.table,
  in_table c.args.self.now _ c.stop_place-place.ensures.inside,
  may_stop c.requires.pass c.stop_place-place.ensures.place,
)

pub returns-clause-knows : goal.returns-clause-knows
returns-clause-knows c =
    let found = stop_found c.requires.pass c.stop_place-place.ensures.place c.fetch_or.result c.fetch_or.ensures.2.0 in
    let one = or_one c.fetch_or.result found.1 in
    stop_knows c.requires.pass c.stop_place-place.ensures.place _ c.fetch_or.result (bit_or c.fetch_or.result 1) c.fetch_or.ensures.0
    c.fetch_or.ensures.2 (omega (arith, one, found.1)) (omega (arith, one))

pub returns-clause-notes : goal.returns-clause-notes
returns-clause-notes c =
    let found = stop_found c.requires.pass c.stop_place-place.ensures.place c.fetch_or.result c.fetch_or.ensures.2.0 in
    let noted =
    stop_noted c.requires.pass c.stop_place-place.ensures.place _ c.fetch_or.result (bit_or c.fetch_or.result 1) c.fetch_or.ensures.2 in
    let ns : List ℕ = notes_of c.args.pass.now in
    noted.0 ∙ ap (λ (y : ℕ). set ns (stop_place (sizes_of c.args.self.now.plan)) y) (or_one c.fetch_or.result found.1)

pub returns-clause-tickets : goal.returns-clause-tickets
returns-clause-tickets c =
    same_tickets c.requires.pass _ c.stop_place-place.result (stop_place (sizes_of c.args.self.now.plan)) c.fetch_or.result
    (bit_or c.fetch_or.result 1) (stop_here c.requires.pass c.stop_place-place.ensures.place) c.fetch_or.ensures.2

pub returns-clause-draws : goal.returns-clause-draws
returns-clause-draws c =
    same_draws c.requires.pass _ c.stop_place-place.result (stop_place (sizes_of c.args.self.now.plan)) c.fetch_or.result
    (bit_or c.fetch_or.result 1) (stop_here c.requires.pass c.stop_place-place.ensures.place) c.fetch_or.ensures.2

pub returns-clause-noted : goal.returns-clause-noted
returns-clause-noted c =
    let found = stop_found c.requires.pass c.stop_place-place.ensures.place c.fetch_or.result c.fetch_or.ensures.2.0 in
    let noted =
    stop_noted c.requires.pass c.stop_place-place.ensures.place _ c.fetch_or.result (bit_or c.fetch_or.result 1) c.fetch_or.ensures.2 in
    noted.1 ∙ or_one c.fetch_or.result found.1
