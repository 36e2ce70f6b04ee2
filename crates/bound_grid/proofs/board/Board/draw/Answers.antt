use Rattle.std.proofs.Common.{ℕ, ap, arith}
use Rattle.atomic_table.specs.Table.{Me}
use Rattle.bound_grid.specs.PassView.{PassView}
use Rattle.bound_grid.proofs.CallLemmas.{in_table, may_draw, drawn_notes, drawn_knows, drawn_stop}
use Rattle.bound_grid.proofs.board.Board.draw.Goals as goal

pub fetch_add-requires : goal.fetch_add-requires
fetch_add-requires c = (
  c.requires.pass.table,
  in_table c.args.self.now _ c.ticket_place-place.ensures.inside,
  may_draw c.requires.pass c.ticket_place-place.ensures.place c.requires.draw,
)

pub returns-clause-knows : goal.returns-clause-knows
returns-clause-knows c =
    drawn_knows c.requires.pass c.ticket_place-place.ensures.place _ c.fetch_add.result c.fetch_add.ensures.0 c.fetch_add.ensures.2

pub returns-clause-notes : goal.returns-clause-notes
returns-clause-notes c =
    drawn_notes c.requires.pass c.ticket_place-place.ensures.place _ c.fetch_add.result c.fetch_add.ensures.2

pub returns-clause-tickets : goal.returns-clause-tickets
returns-clause-tickets c = ap (λ (m : Me ℕ PassView). m.0.tickets) c.fetch_add.ensures.2.1

pub returns-clause-draws : goal.returns-clause-draws
returns-clause-draws c =
    let e = ap (λ (m : Me ℕ PassView). m.0.draws) c.fetch_add.ensures.2.1 in
    let some = c.requires.draw in
    omega (arith, e, some)

pub returns-clause-stop : goal.returns-clause-stop
returns-clause-stop c =
    drawn_stop c.requires.pass c.ticket_place-place.ensures.place _ c.fetch_add.result c.fetch_add.ensures.2

pub returns-clause-rises : goal.returns-clause-rises
returns-clause-rises c = c.fetch_add.ensures.2.0.rises

pub returns-clause-room : goal.returns-clause-room
returns-clause-room c = c.fetch_add.ensures.2.0.room
