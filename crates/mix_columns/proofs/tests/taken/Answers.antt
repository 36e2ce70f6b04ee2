use Rattle.std.proofs.Common.{◌<◌, ◌≤◌, length, take, length-take-le, arith}
use Rattle.std.proofs.lemmas.List.{take_more, take_all}
use Rattle.mix_columns.proofs.tests.taken.Goals as goal

pub add-requires-clause-stands : goal.add-requires-clause-stands
add-requires-clause-stands c =
    (take c.loop-layer.layer c.args.low.now, take c.loop-layer.layer c.args.high.now, c.loop-layer.invariant)

pub add-requires-clause-room : goal.add-requires-clause-room
add-requires-clause-room c =
    let inside : c.loop-layer.layer < length c.args.low.now = omega arith in
    let front = length-take-le c.loop-layer.layer c.args.low.now (omega arith) in
    omega (arith, c.loop-layer.invariant.low_count, front, c.requires.few)

pub loop-layer-preserved : goal.loop-layer-preserved
loop-layer-preserved c =
    let low : c.loop-layer.layer < length c.args.low.now = omega arith in
    let high : c.loop-layer.layer < length c.args.high.now = omega (arith, c.requires.as_long) in
    rw (take_more c.args.low.now c.loop-layer.layer 0 low, take_more c.args.high.now c.loop-layer.layer 0 high)
    (c.add.ensures _ _ c.loop-layer.invariant)

pub returns : goal.returns
returns c =
    let low : length c.args.low.now ≤ c.loop-layer.layer = omega arith in
    let high : length c.args.high.now ≤ c.loop-layer.layer = omega (arith, c.requires.as_long) in
    rw (take_all c.loop-layer.layer c.args.low.now low, take_all c.loop-layer.layer c.args.high.now high) at c.loop-layer.invariant
