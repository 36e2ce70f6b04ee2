use Rattle.std.proofs.Common.{◌≡◌, ◌+◌, ℕ, [], ◌∷◌, ◌++◌, length, length-append, refl, ap, arith}
use Rattle.window_engine.proofs.tests.mixed.Goals as goal

pub add-requires-clause-stands : goal.add-requires-clause-stands
add-requires-clause-stands c =
    let took = c.loop-layer.invariant in
    (took.0, took.1, took.3)

pub add-requires-clause-room : goal.add-requires-clause-room
add-requires-clause-room c =
    let took = c.loop-layer.invariant in
    omega (arith, took.2, took.3.low_count, ap (λ p. p.layers) c.plan.view_is)

pub loop-layer-init : goal.loop-layer-init
loop-layer-init c = ([], [], refl, c.start-mixer.ensures)

pub loop-layer-preserved : goal.loop-layer-preserved
loop-layer-preserved c =
    let took = c.loop-layer.invariant in
    let longer : (word : ℕ) → length (took.0 ++ word ∷ []) ≡ c.loop-layer.layer + 1 =
    λ word. omega (arith, length-append {A = ℕ} took.0 (word ∷ []), took.2) in
    (_, _, longer _, c.add.ensures took.0 took.1 took.3)

pub finish-requires-clause-stands : goal.finish-requires-clause-stands
finish-requires-clause-stands c =
    let took = c.loop-layer.invariant in
    (took.0, took.1, took.3)

pub finish-requires-clause-whole : goal.finish-requires-clause-whole
finish-requires-clause-whole c =
    let took = c.loop-layer.invariant in
    omega (arith, took.2, took.3.low_count, ap (λ p. p.layers) c.plan.view_is, c.loop-layer.auto.layer-end, c.loop-layer-test.false)
