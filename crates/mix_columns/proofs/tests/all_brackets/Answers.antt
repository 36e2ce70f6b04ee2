use Rattle.std.proofs.Common.{◌≡◌, ◌<◌, ◌+◌, ℕ, [], ◌∷◌, ◌++◌, length, length-append, refl, ◌∙◌, arith}
use Rattle.mix_columns.proofs.tests.all_brackets.Goals as goal

pub add_layer-requires-clause-stand : goal.add_layer-requires-clause-stand
add_layer-requires-clause-stand c = λ s l.
    let took = c.loop-layer.invariant.took s l in
    (took.0, took.1, took.3)

pub add_layer-requires-clause-room : goal.add_layer-requires-clause-room
add_layer-requires-clause-room c = λ s l.
    let took = c.loop-layer.invariant.took s l in
    omega (arith, took.2, took.3.low_count, c.requires.layers)

pub loop-layer-init : goal.loop-layer-init
loop-layer-init c = record {
  states = c.in_ok-mixers.ensures.states;
  took = λ s l. ([], [], refl, c.in_ok-mixers.ensures.stand s l);
}

pub loop-layer-preserved : goal.loop-layer-preserved
loop-layer-preserved c = record {
  states = c.add_layer.ensures.states ∙ c.loop-layer.invariant.states;
  took = λ s l.
      let inside : s < length c.loop-layer.mixers = omega (arith, l, c.add_layer.ensures.states) in
      let took = c.loop-layer.invariant.took s inside in
      let longer : (word : ℕ) → length (took.0 ++ word ∷ []) ≡ c.loop-layer.layer + 1 =
      λ word. omega (arith, length-append {A = ℕ} took.0 (word ∷ []), took.2) in
      (_, _, longer _, c.add_layer.ensures.stand s took.0 took.1 inside took.3);
}

pub finish-requires-clause-stand : goal.finish-requires-clause-stand
finish-requires-clause-stand c = λ s l.
    let took = c.loop-layer.invariant.took s l in
    (took.0, took.1, took.3)
