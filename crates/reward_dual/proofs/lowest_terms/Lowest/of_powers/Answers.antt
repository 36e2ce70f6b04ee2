use Rattle.std.proofs.Common.{◌-◌, arith}
use Rattle.ctmc_semantics.proofs.Powers.{power_le}
use Rattle.std.proofs.Math.Nat.{one-dvd}
use Rattle.reward_dual.proofs.PowerRatio.{power_above, power_below}
use Rattle.reward_dual.proofs.lowest_terms.Lowest.of_powers.Goals as goal

pub pow-requires-else-places-decimals : goal.pow-requires-else-places-decimals
pow-requires-else-places-decimals c =
    omega (arith, power_le 10 (c.args.places - c.args.decimals) 36 (omega arith) (omega arith))

pub invariant_of-result : goal.invariant_of-result
invariant_of-result c = (
  omega (arith, power_le 10 0 (c.args.places - c.args.decimals) (omega arith) (omega arith), c.pow-else-places-decimals.ensures),
  (one-dvd 1, one-dvd c.pow-else-places-decimals.result, λ d p q. p),
)

pub returns-then-places-decimals-clause-value : goal.returns-then-places-decimals-clause-value
returns-then-places-decimals-clause-value c = power_above 10 c.args.places c.args.decimals c.pow.result (omega arith) c.pow.ensures

pub returns-else-places-decimals-clause-value : goal.returns-else-places-decimals-clause-value
returns-else-places-decimals-clause-value c =
    power_below 10 c.args.places c.args.decimals c.pow-else-places-decimals.result (omega arith) c.pow-else-places-decimals.ensures

pub returns-else-places-decimals-clause-divisor : goal.returns-else-places-decimals-clause-divisor
returns-else-places-decimals-clause-divisor c =
    omega (arith, power_le 10 0 (c.args.places - c.args.decimals) (omega arith) (omega arith), c.pow-else-places-decimals.ensures)
