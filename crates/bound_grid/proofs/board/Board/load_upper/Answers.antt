use Rattle.std.proofs.Common.{le_refl}
use Rattle.bound_grid.proofs.CallLemmas.{in_table, may_load_upper, upper_found, upper_knows}
use Rattle.bound_grid.proofs.board.Board.load_upper.Goals as goal

pub load-requires : goal.load-requires
load-requires c = (
  c.requires.pass.table,
  in_table c.args.self.now _ c.upper_place-place.ensures.inside,
  may_load_upper c.requires.pass c.args.k c.args.s c.requires.layer c.requires.state
      c.upper_place-place.ensures.place,
)

pub returns-clause-knows : goal.returns-clause-knows
returns-clause-knows c =
    let found = upper_found c.requires.pass c.args.k c.args.s c.requires.layer c.requires.state
    c.upper_place-place.ensures.place c.load.result c.load.ensures.2.0 in
    upper_knows c.requires.pass c.args.k c.args.s c.requires.layer c.requires.state
    c.upper_place-place.ensures.place _ c.load.result c.load.result c.load.ensures.0 c.load.ensures.2
    (le_refl c.load.result) found.2

pub returns-clause-better : goal.returns-clause-better
returns-clause-better c =
    let found = upper_found c.requires.pass c.args.k c.args.s c.requires.layer c.requires.state
    c.upper_place-place.ensures.place c.load.result c.load.ensures.2.0 in
    found.0

pub returns-clause-one : goal.returns-clause-one
returns-clause-one c =
    let found = upper_found c.requires.pass c.args.k c.args.s c.requires.layer c.requires.state
    c.upper_place-place.ensures.place c.load.result c.load.ensures.2.0 in
    found.1

pub returns-clause-limit : goal.returns-clause-limit
returns-clause-limit c =
    let found = upper_found c.requires.pass c.args.k c.args.s c.requires.layer c.requires.state
    c.upper_place-place.ensures.place c.load.result c.load.ensures.2.0 in
    found.2

pub returns-clause-sealed : goal.returns-clause-sealed
returns-clause-sealed c =
    let found = upper_found c.requires.pass c.args.k c.args.s c.requires.layer c.requires.state
    c.upper_place-place.ensures.place c.load.result c.load.ensures.2.0 in
    found.3
