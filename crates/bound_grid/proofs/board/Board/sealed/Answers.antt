use Rattle.std.proofs.Common.{List, ℕ, ap, ◌∙◌, le_refl, arith}
use Rattle.std.proofs.lemmas.Bool.{lt-ltb}
use Rattle.std.specs.Prelude.{slice_set}
use Rattle.atomic_table.specs.Table.{Me}
use Rattle.bound_grid.specs.PassView.{PassView}
use Rattle.bound_grid.proofs.CallLemmas.{in_table, may_load_seal, seal_here, seal_found, seal_knows, seal_noted, seen}
use Rattle.bound_grid.proofs.board.Board.sealed.Goals as goal

pub load-requires : goal.load-requires
load-requires c = (
  c.requires.pass.table,
  in_table c.args.self.now _ c.seal_place-place.ensures.inside,
  may_load_seal c.requires.pass c.args.k c.args.b c.requires.layer c.requires.block
      c.seal_place-place.ensures.place,
)

pub returns-clause-knows : goal.returns-clause-knows
returns-clause-knows c =
    let found = seal_found c.requires.pass c.args.k c.args.b c.requires.layer c.requires.block
    c.seal_place-place.ensures.place c.load.result c.load.ensures.2.0 in
    seal_knows c.requires.pass c.args.k c.args.b c.requires.layer c.requires.block
    c.seal_place-place.ensures.place _ c.load.result c.load.result c.load.ensures.0 c.load.ensures.2 (le_refl c.load.result)
    found.1

pub returns-clause-notes : goal.returns-clause-notes
returns-clause-notes c =
    let found = seal_found c.requires.pass c.args.k c.args.b c.requires.layer c.requires.block
    c.seal_place-place.ensures.place c.load.result c.load.ensures.2.0 in
    let here = seal_here c.requires.pass c.args.k c.args.b c.requires.layer c.requires.block
    c.seal_place-place.ensures.place in
    let ns : List ℕ = c.args.pass.now.seat.me.0.notes in
    ap (λ (m : Me ℕ PassView). m.0.notes) c.load.ensures.2.1 ∙ (λ t. slice_set ns (here t) (seen c.load.result found.1 t))

pub returns-clause-noted : goal.returns-clause-noted
returns-clause-noted c =
    let found = seal_found c.requires.pass c.args.k c.args.b c.requires.layer c.requires.block
    c.seal_place-place.ensures.place c.load.result c.load.ensures.2.0 in
    seal_noted c.requires.pass c.args.k c.args.b c.requires.layer c.requires.block
    c.seal_place-place.ensures.place _ c.load.result c.load.result c.load.ensures.2 ∙ seen c.load.result found.1

pub returns-clause-kept : goal.returns-clause-kept
returns-clause-kept c = λ on.
    let found = seal_found c.requires.pass c.args.k c.args.b c.requires.layer c.requires.block
    c.seal_place-place.ensures.place c.load.result c.load.ensures.2.0 in
    lt-ltb 0 c.load.result (omega (arith, on, found.0))

pub returns-clause-layer_zero : goal.returns-clause-layer_zero
returns-clause-layer_zero c = λ first.
    let found = seal_found c.requires.pass c.args.k c.args.b c.requires.layer c.requires.block
    c.seal_place-place.ensures.place c.load.result c.load.ensures.2.0 in
    let one = found.2 first in
    lt-ltb 0 c.load.result (omega (arith, one))
