use Rattle.std.proofs.Common.{◌+◌, arith}
use Rattle.flat_rows.proofs.Quotients.{ceil_is, ceil_small}
use Rattle.flat_rows.proofs.full_divisor.FullDivisor.ceil.Goals as goal

pub returns-clause-value : goal.returns-clause-value
returns-clause-value c =
    ceil_is c.args.products c.args.self.now c.first_quotient-first.result.0 c.first_quotient-first.result.1
    c.first_quotient-first.ensures.whole c.first_quotient-first.ensures.near c.self.inside.den c.from.result c.from-2.result
    c.self.view_is c.from.ensures c.from-2.ensures

pub returns-clause-at_most_one : goal.returns-clause-at_most_one
returns-clause-at_most_one c =
    ceil_small c.args.products c.args.self.now (c.first_quotient-first.result.0 + c.from.result + c.from-2.result)
    (omega (arith, c.first_quotient-first.ensures.near)) c.requires
    (ceil_is c.args.products c.args.self.now c.first_quotient-first.result.0 c.first_quotient-first.result.1
    c.first_quotient-first.ensures.whole c.first_quotient-first.ensures.near c.self.inside.den c.from.result c.from-2.result
    c.self.view_is c.from.ensures c.from-2.ensures)
