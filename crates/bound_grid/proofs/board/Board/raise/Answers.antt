use Rattle.std.proofs.Common.{max, arith}
use Rattle.bound_grid.proofs.CallLemmas.{in_table, may_raise, lower_found, lower_knows}
use Rattle.bound_grid.proofs.board.Board.raise.Goals as goal

pub fetch_max-requires : goal.fetch_max-requires
fetch_max-requires c = (
  c.requires.pass.table,
  in_table c.args.self.now _ c.lower_place-place.ensures.inside,
  may_raise c.requires.pass c.args.k c.args.s c.requires.layer c.requires.state
      c.lower_place-place.ensures.place c.args.to c.requires.limit,
)

pub returns-clause-knows : goal.returns-clause-knows
returns-clause-knows c =
    let found = lower_found c.requires.pass c.args.k c.args.s c.requires.layer c.requires.state
    c.lower_place-place.ensures.place c.fetch_max.result c.fetch_max.ensures.2.0 in
    let limit = c.requires.limit in
    lower_knows c.requires.pass c.args.k c.args.s c.requires.layer c.requires.state
    c.lower_place-place.ensures.place _ c.fetch_max.result (max c.fetch_max.result c.args.to) c.fetch_max.ensures.0
    c.fetch_max.ensures.2 (omega arith) (omega (arith, limit, found.1))

pub returns-clause-better : goal.returns-clause-better
returns-clause-better c =
    let found = lower_found c.requires.pass c.args.k c.args.s c.requires.layer c.requires.state
    c.lower_place-place.ensures.place c.fetch_max.result c.fetch_max.ensures.2.0 in
    found.0

pub returns-clause-limit : goal.returns-clause-limit
returns-clause-limit c =
    let found = lower_found c.requires.pass c.args.k c.args.s c.requires.layer c.requires.state
    c.lower_place-place.ensures.place c.fetch_max.result c.fetch_max.ensures.2.0 in
    found.1
