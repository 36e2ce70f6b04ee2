use Rattle.std.proofs.Common.{◌^◌, arith}
use Rattle.nested_verdict.proofs.Rounding.{low_within, high_within}
use Rattle.nested_verdict.proofs.state_answer.printed.Goals as goal

pub returns-clause-printable : goal.returns-clause-printable
returns-clause-printable c =
    let ends = c.args.ends in
    let is = c.requires.probabilities in (
      omega (arith, c.mul_div_floor.ensures, low_within (10 ^ 12) ends.lower ends.den is.positive is.lower),
      omega (arith, c.mul_div_ceil.ensures, high_within (10 ^ 12) ends.upper ends.den is.positive is.upper),
    )
