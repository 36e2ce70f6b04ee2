use Rattle.std.proofs.Common.{◌+◌, ◌∙◌, ap, sym, arith}
use Rattle.round_out.proofs.Reciprocals.{rest_from, rest_to, exact_quotient, exact_rest, next_quotient, next_rest}
use Rattle.round_out.proofs.divisor.Divisor.quotient_and_rest.Goals as goal

pub overflow_mul-rest : goal.overflow_mul-rest
overflow_mul-rest c =
    omega (
      arith,
      rest_from c.self.invariant c.self.view_is c.requires c.from.ensures c.from-2.ensures c.from-3.ensures c.from-4.ensures,
    )

pub overflow_sub-rest : goal.overflow_sub-rest
overflow_sub-rest c =
    rest_from c.self.invariant c.self.view_is c.requires c.from.ensures c.from-2.ensures c.from-3.ensures c.from-4.ensures

pub overflow_cast-rest : goal.overflow_cast-rest
overflow_cast-rest c =
    omega (
      arith,
      rest_to c.self.invariant c.self.view_is c.requires c.from.ensures c.from-2.ensures c.from-3.ensures c.from-4.ensures,
    )

pub returns-then-rest-den-clause-quotient : goal.returns-then-rest-den-clause-quotient
returns-then-rest-den-clause-quotient c =
    sym c.from-3.ensures
    ∙ exact_quotient c.self.invariant c.self.view_is c.requires c.from.ensures c.from-2.ensures c.from-3.ensures c.from-4.ensures
    c.if-rest-den.true

pub returns-then-rest-den-clause-rest : goal.returns-then-rest-den-clause-rest
returns-then-rest-den-clause-rest c =
    exact_rest c.self.invariant c.self.view_is c.requires c.from.ensures c.from-2.ensures c.from-3.ensures c.from-4.ensures
    c.if-rest-den.true

pub returns-else-rest-den-clause-quotient : goal.returns-else-rest-den-clause-quotient
returns-else-rest-den-clause-quotient c =
    ap (λ z. z + 1) (sym c.from-3.ensures)
    ∙ next_quotient c.self.invariant c.self.view_is c.requires c.from.ensures c.from-2.ensures c.from-3.ensures c.from-4.ensures
    c.if-rest-den.false

pub returns-else-rest-den-clause-rest : goal.returns-else-rest-den-clause-rest
returns-else-rest-den-clause-rest c =
    next_rest c.self.invariant c.self.view_is c.requires c.from.ensures c.from-2.ensures c.from-3.ensures c.from-4.ensures
    c.if-rest-den.false
