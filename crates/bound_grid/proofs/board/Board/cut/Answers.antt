use Rattle.std.proofs.Common.{min, arith}
use Rattle.bound_grid.proofs.CallLemmas.{in_table, may_cut, upper_found, upper_knows}
use Rattle.bound_grid.proofs.board.Board.cut.Goals as goal

pub fetch_min-requires : goal.fetch_min-requires
fetch_min-requires c = (
  c.requires.pass.table,
  in_table c.args.self.now _ c.upper_place-place.ensures.inside,
  may_cut c.requires.pass c.args.k c.args.s c.requires.layer c.requires.state
      c.upper_place-place.ensures.place c.args.to c.requires.limit,
)

pub returns-clause-knows : goal.returns-clause-knows
returns-clause-knows c =
    let found = upper_found c.requires.pass c.args.k c.args.s c.requires.layer c.requires.state
    c.upper_place-place.ensures.place c.fetch_min.result c.fetch_min.ensures.2.0 in
    let limit = c.requires.limit in
    upper_knows c.requires.pass c.args.k c.args.s c.requires.layer c.requires.state
    c.upper_place-place.ensures.place _ c.fetch_min.result (min c.fetch_min.result c.args.to) c.fetch_min.ensures.0
    c.fetch_min.ensures.2 (omega arith) (omega (arith, limit, found.2))

pub returns-clause-better : goal.returns-clause-better
returns-clause-better c =
    let found = upper_found c.requires.pass c.args.k c.args.s c.requires.layer c.requires.state
    c.upper_place-place.ensures.place c.fetch_min.result c.fetch_min.ensures.2.0 in
    found.0

pub returns-clause-one : goal.returns-clause-one
returns-clause-one c =
    let found = upper_found c.requires.pass c.args.k c.args.s c.requires.layer c.requires.state
    c.upper_place-place.ensures.place c.fetch_min.result c.fetch_min.ensures.2.0 in
    found.1

pub returns-clause-limit : goal.returns-clause-limit
returns-clause-limit c =
    let found = upper_found c.requires.pass c.args.k c.args.s c.requires.layer c.requires.state
    c.upper_place-place.ensures.place c.fetch_min.result c.fetch_min.ensures.2.0 in
    found.2
