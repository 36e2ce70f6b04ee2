use Rattle.flat_rows.proofs.Quotients.{floor_is}
use Rattle.flat_rows.proofs.full_divisor.FullDivisor.floor.Goals as goal

pub returns-clause-value : goal.returns-clause-value
returns-clause-value c =
    floor_is c.args.products c.args.self.now c.first_quotient-first.result.0 c.first_quotient-first.result.1
    c.first_quotient-first.ensures.whole c.first_quotient-first.ensures.near c.self.inside.den c.from.result c.self.view_is c.from.ensures
