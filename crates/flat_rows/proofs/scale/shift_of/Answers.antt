use Rattle.flat_rows.proofs.Powers.{few_bits, full, fits}
use Rattle.flat_rows.proofs.scale.shift_of.Goals as goal

pub returns-clause-full : goal.returns-clause-full
returns-clause-full c =
    full c.args.den c.ilog2.result (few_bits c.args.den c.ilog2.result c.ilog2.ensures.power_le c.requires.fits) c.ilog2.ensures.power_le

pub returns-clause-fits : goal.returns-clause-fits
returns-clause-fits c =
    fits c.args.den c.ilog2.result (few_bits c.args.den c.ilog2.result c.ilog2.ensures.power_le c.requires.fits)
    c.ilog2.ensures.next_power_gt
