use Rattle.std.proofs.Common.{◌+◌, arith}
use Rattle.ctmc_semantics.proofs.Powers.{power_le}
use Rattle.uniformise.proofs.bounded.time_load.Goals as goal

pub pow-requires : goal.pow-requires
pow-requires c =
    let k = c.scale.result + c.time.inside.x in
    omega (arith, power_le 10 k 36 (omega arith) (omega (arith, c.scale.ensures.few, c.time.invariant.decimals)))

pub new-requires-clause-positive : goal.new-requires-clause-positive
new-requires-clause-positive c =
    let k = c.scale.result + c.time.inside.x in
    omega (arith, power_le 10 0 k (omega arith) (omega arith), c.pow.ensures)

pub new-requires-clause-den_fits : goal.new-requires-clause-den_fits
new-requires-clause-den_fits c =
    let k = c.scale.result + c.time.inside.x in
    omega (arith, power_le 10 k 36 (omega arith) (omega (arith, c.scale.ensures.few, c.time.invariant.decimals)), c.pow.ensures)
