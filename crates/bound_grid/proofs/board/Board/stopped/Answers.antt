use Rattle.std.proofs.Common.{List, ℕ, set, ap, ◌∙◌, le_refl, arith}
use Rattle.std.proofs.lemmas.Bool.{lt-ltb}
use Rattle.bound_grid.specs.Passes.{notes_of}
use Rattle.step_core.specs.Limits.{sizes_of}
use Rattle.step_core.specs.Places.{stop_place}
use Rattle.bound_grid.proofs.CallLemmas.{in_table, seen, stop_here, may_load_stop, stop_found, stop_knows, stop_noted, same_tickets, same_draws}
use Rattle.bound_grid.proofs.board.Board.stopped.Goals as goal

pub load-found-requires : goal.load-found-requires
load-found-requires c = (
  c.requires.pass.table,
  in_table c.args.self.now _ c.stop_place-place.ensures.inside,
  may_load_stop c.requires.pass c.stop_place-place.ensures.place,
)

pub returns-clause-knows : goal.returns-clause-knows
returns-clause-knows c =
    let found = stop_found c.requires.pass c.stop_place-place.ensures.place c.load-found.result c.load-found.ensures.2.0 in
    stop_knows c.requires.pass c.stop_place-place.ensures.place _ c.load-found.result c.load-found.result c.load-found.ensures.0 c.load-found.ensures.2
    (le_refl c.load-found.result) found.1

pub returns-clause-notes : goal.returns-clause-notes
returns-clause-notes c =
    let found = stop_found c.requires.pass c.stop_place-place.ensures.place c.load-found.result c.load-found.ensures.2.0 in
    let noted =
    stop_noted c.requires.pass c.stop_place-place.ensures.place _ c.load-found.result c.load-found.result c.load-found.ensures.2 in
    let ns : List ℕ = notes_of c.args.pass.now in
    noted.0 ∙ ap (λ (y : ℕ). set ns (stop_place (sizes_of c.args.self.now.plan)) y) (seen c.load-found.result found.1)

pub returns-clause-tickets : goal.returns-clause-tickets
returns-clause-tickets c =
    same_tickets c.requires.pass _ c.stop_place-place.result (stop_place (sizes_of c.args.self.now.plan)) c.load-found.result
    c.load-found.result (stop_here c.requires.pass c.stop_place-place.ensures.place) c.load-found.ensures.2

pub returns-clause-draws : goal.returns-clause-draws
returns-clause-draws c =
    same_draws c.requires.pass _ c.stop_place-place.result (stop_place (sizes_of c.args.self.now.plan)) c.load-found.result
    c.load-found.result (stop_here c.requires.pass c.stop_place-place.ensures.place) c.load-found.ensures.2

pub returns-clause-noted : goal.returns-clause-noted
returns-clause-noted c =
    let found = stop_found c.requires.pass c.stop_place-place.ensures.place c.load-found.result c.load-found.ensures.2.0 in
    let noted =
    stop_noted c.requires.pass c.stop_place-place.ensures.place _ c.load-found.result c.load-found.result c.load-found.ensures.2 in
    noted.1 ∙ seen c.load-found.result found.1

pub returns-clause-kept : goal.returns-clause-kept
returns-clause-kept c = λ on.
    let found = stop_found c.requires.pass c.stop_place-place.ensures.place c.load-found.result c.load-found.ensures.2.0 in
    lt-ltb 0 c.load-found.result (omega (arith, on, found.0))
