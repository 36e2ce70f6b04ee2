use Rattle.std.proofs.Common.{List, ℕ, ap, ◌∙◌, arith}
use Rattle.std.specs.Prelude.{slice_set, bit_or}
use Rattle.atomic_table.specs.Table.{Me}
use Rattle.bound_grid.specs.PassView.{PassView}
use Rattle.bound_grid.proofs.CallLemmas.{in_table, or_one, may_seal, seal_here, seal_found, seal_knows, seal_noted}
use Rattle.bound_grid.proofs.board.Board.seal.Goals as goal

pub fetch_or-requires : goal.fetch_or-requires
fetch_or-requires c = (
  c.requires.pass.table,
  in_table c.args.self.now _ c.seal_place-place.ensures.inside,
  may_seal c.requires.pass c.args.k c.args.b c.requires.layer c.requires.block
      c.seal_place-place.ensures.place c.requires.lower c.requires.upper,
)

pub returns-clause-knows : goal.returns-clause-knows
returns-clause-knows c =
    let found = seal_found c.requires.pass c.args.k c.args.b c.requires.layer c.requires.block
    c.seal_place-place.ensures.place c.fetch_or.result c.fetch_or.ensures.2.0 in
    let one = or_one c.fetch_or.result found.1 in
    seal_knows c.requires.pass c.args.k c.args.b c.requires.layer c.requires.block
    c.seal_place-place.ensures.place _ c.fetch_or.result (bit_or c.fetch_or.result 1) c.fetch_or.ensures.0
    c.fetch_or.ensures.2 (omega (arith, one, found.1)) (omega (arith, one))

pub returns-clause-notes : goal.returns-clause-notes
returns-clause-notes c =
    let found = seal_found c.requires.pass c.args.k c.args.b c.requires.layer c.requires.block
    c.seal_place-place.ensures.place c.fetch_or.result c.fetch_or.ensures.2.0 in
    let one = or_one c.fetch_or.result found.1 in
    let here = seal_here c.requires.pass c.args.k c.args.b c.requires.layer c.requires.block
    c.seal_place-place.ensures.place in
    let ns : List ℕ = c.args.pass.now.seat.me.0.notes in
    ap (λ (m : Me ℕ PassView). m.0.notes) c.fetch_or.ensures.2.1 ∙ (λ t. slice_set ns (here t) (one t))

pub returns-clause-noted : goal.returns-clause-noted
returns-clause-noted c =
    let found = seal_found c.requires.pass c.args.k c.args.b c.requires.layer c.requires.block
    c.seal_place-place.ensures.place c.fetch_or.result c.fetch_or.ensures.2.0 in
    seal_noted c.requires.pass c.args.k c.args.b c.requires.layer c.requires.block
    c.seal_place-place.ensures.place _ c.fetch_or.result (bit_or c.fetch_or.result 1) c.fetch_or.ensures.2
    ∙ or_one c.fetch_or.result found.1
