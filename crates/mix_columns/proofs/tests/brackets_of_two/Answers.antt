use Rattle.std.proofs.Common.{◌<◌, [], length, arith}
use Rattle.mix_columns.proofs.tests.brackets_of_two.Goals as goal

pub add_two_layers-requires-clause-stand : goal.add_two_layers-requires-clause-stand
add_two_layers-requires-clause-stand c = λ s l. ([], [], c.in_ok-mixers.ensures.stand s l)

pub add_layer-requires-clause-stand : goal.add_layer-requires-clause-stand
add_layer-requires-clause-stand c = λ s l.
    let inside : s < length c.in_ok-mixers.mixers = omega (arith, l, c.add_two_layers.ensures.states) in
    (_, _, c.add_two_layers.ensures.stand s [] [] inside (c.in_ok-mixers.ensures.stand s inside))

pub add_layer-requires-clause-room : goal.add_layer-requires-clause-room
add_layer-requires-clause-room c = λ s l.
    let inside : s < length c.in_ok-mixers.mixers = omega (arith, l, c.add_two_layers.ensures.states) in
    let two = c.add_two_layers.ensures.stand s [] [] inside (c.in_ok-mixers.ensures.stand s inside) in
    omega (arith, two.low_count, c.requires.layers)

pub finish-requires-clause-stand : goal.finish-requires-clause-stand
finish-requires-clause-stand c = λ s l.
    let there : s < length c.add_two_layers.new.self = omega (arith, l, c.add_layer.ensures.states) in
    let inside : s < length c.in_ok-mixers.mixers = omega (arith, there, c.add_two_layers.ensures.states) in
    let two = c.add_two_layers.ensures.stand s [] [] inside (c.in_ok-mixers.ensures.stand s inside) in
    (_, _, c.add_layer.ensures.stand s _ _ there two)

pub finish-requires-clause-whole : goal.finish-requires-clause-whole
finish-requires-clause-whole c = λ s l.
    let there : s < length c.add_two_layers.new.self = omega (arith, l, c.add_layer.ensures.states) in
    let inside : s < length c.in_ok-mixers.mixers = omega (arith, there, c.add_two_layers.ensures.states) in
    let two = c.add_two_layers.ensures.stand s [] [] inside (c.in_ok-mixers.ensures.stand s inside) in
    let three = c.add_layer.ensures.stand s _ _ there two in
    omega (arith, three.low_count, c.requires.layers)
