use Rattle.reward_dual.proofs.LowestProducts.{product_positive, product_coprime, product_lowest, num_overflows, den_overflows}
use Rattle.reward_dual.proofs.lowest_terms.Lowest.times.Goals as goal

pub returns-in_err-num : goal.returns-in_err-num
returns-in_err-num c =
    rw c.from_residual.ensures
    (num_overflows c.self.inside.num c.self.inside.den c.other.inside.num c.other.inside.den c.gcd-here.result c.gcd-there.result
    c.self.view_is c.other.view_is c.self.invariant.0 c.self.invariant.1 c.other.invariant.0 c.other.invariant.1
    c.gcd-here.ensures.value c.gcd-there.ensures.value c.in_err-num.ensures)

pub returns-in_err-den : goal.returns-in_err-den
returns-in_err-den c =
    rw c.from_residual-in_err-den.ensures
    (den_overflows c.self.inside.num c.self.inside.den c.other.inside.num c.other.inside.den c.gcd-here.result c.gcd-there.result
    c.self.view_is c.other.view_is c.self.invariant.0 c.self.invariant.1 c.other.invariant.0 c.other.invariant.1
    c.gcd-here.ensures.value c.gcd-there.ensures.value c.in_err-den.ensures)

pub invariant_of-result : goal.invariant_of-result
invariant_of-result c = (
  product_positive c.self.inside.num c.self.inside.den c.other.inside.num c.other.inside.den c.gcd-here.result c.gcd-there.result
      c.self.view_is c.other.view_is c.self.invariant.0 c.self.invariant.1 c.other.invariant.0 c.other.invariant.1
      c.gcd-here.ensures.value c.gcd-there.ensures.value c.in_ok-num.ensures.1 c.in_ok-den.ensures.1,
  product_coprime c.self.inside.num c.self.inside.den c.other.inside.num c.other.inside.den c.gcd-here.result c.gcd-there.result
      c.self.view_is c.other.view_is c.self.invariant.0 c.self.invariant.1 c.other.invariant.0 c.other.invariant.1
      c.gcd-here.ensures.value c.gcd-there.ensures.value c.in_ok-num.ensures.1 c.in_ok-den.ensures.1,
)

pub returns : goal.returns
returns c =
    product_lowest c.self.inside.num c.self.inside.den c.other.inside.num c.other.inside.den c.gcd-here.result c.gcd-there.result
    c.self.view_is c.other.view_is c.self.invariant.0 c.self.invariant.1 c.other.invariant.0 c.other.invariant.1
    c.gcd-here.ensures.value c.gcd-there.ensures.value c.in_ok-num.ensures.1 c.in_ok-den.ensures.1
