use Rattle.std.proofs.Common.{le_refl}
use Rattle.bound_grid.proofs.CallLemmas.{in_table, may_load_lower, lower_found, lower_knows}
use Rattle.bound_grid.proofs.board.Board.load_lower.Goals as goal

pub load-requires : goal.load-requires
load-requires c = (
  c.requires.pass.table,
  in_table c.args.self.now _ c.lower_place-place.ensures.inside,
  may_load_lower c.requires.pass c.args.k c.args.s c.requires.layer c.requires.state
      c.lower_place-place.ensures.place,
)

pub returns-clause-knows : goal.returns-clause-knows
returns-clause-knows c =
    let found = lower_found c.requires.pass c.args.k c.args.s c.requires.layer c.requires.state
    c.lower_place-place.ensures.place c.load.result c.load.ensures.2.0 in
    lower_knows c.requires.pass c.args.k c.args.s c.requires.layer c.requires.state
    c.lower_place-place.ensures.place _ c.load.result c.load.result c.load.ensures.0 c.load.ensures.2
    (le_refl c.load.result) found.1

pub returns-clause-better : goal.returns-clause-better
returns-clause-better c =
    let found = lower_found c.requires.pass c.args.k c.args.s c.requires.layer c.requires.state
    c.lower_place-place.ensures.place c.load.result c.load.ensures.2.0 in
    found.0

pub returns-clause-limit : goal.returns-clause-limit
returns-clause-limit c =
    let found = lower_found c.requires.pass c.args.k c.args.s c.requires.layer c.requires.state
    c.lower_place-place.ensures.place c.load.result c.load.ensures.2.0 in
    found.1

pub returns-clause-sealed : goal.returns-clause-sealed
returns-clause-sealed c =
    let found = lower_found c.requires.pass c.args.k c.args.s c.requires.layer c.requires.state
    c.lower_place-place.ensures.place c.load.result c.load.ensures.2.0 in
    found.2
