use Rattle.std.proofs.Common.{◌*◌, ◌∙◌, ap, arith}
use Rattle.round_out.proofs.Reciprocals.{rest_from, rest_to}
use Rattle.flat_rows.proofs.full_divisor.FullDivisor.first_quotient.Goals as goal

pub overflow_sub-rest : goal.overflow_sub-rest
overflow_sub-rest c =
    rest_from c.self.invariant c.self.view_is c.requires c.from.ensures c.from-2.ensures c.from-3.ensures c.from-4.ensures

pub overflow_cast-rest : goal.overflow_cast-rest
overflow_cast-rest c =
    omega (
      arith,
      rest_to c.self.invariant c.self.view_is c.requires c.from.ensures c.from-2.ensures c.from-3.ensures c.from-4.ensures,
    )

pub returns-clause-whole : goal.returns-clause-whole
returns-clause-whole c =
    omega (
      arith,
      rest_from c.self.invariant c.self.view_is c.requires c.from.ensures c.from-2.ensures c.from-3.ensures c.from-4.ensures,
      ap (λ z. z * c.args.self.now) c.from-3.ensures,
      ap (λ z. c.from-3.result * z) (c.from-4.ensures ∙ c.self.view_is),
    )

pub returns-clause-near : goal.returns-clause-near
returns-clause-near c =
    omega (
      arith,
      rest_to c.self.invariant c.self.view_is c.requires c.from.ensures c.from-2.ensures c.from-3.ensures c.from-4.ensures,
      c.self.view_is,
    )
