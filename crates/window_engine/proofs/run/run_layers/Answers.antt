use Rattle.std.proofs.Common.{◌≡◌, suc, ◌+◌, ◌*◌, ◌∙◌, length, ap, sym, subst, arith}
use Rattle.flat_rows.specs.NextWords.{IsNextPart}
use Rattle.flat_rows.specs.RowsOf.{AreRowsOf}
use Rattle.window_engine.specs.PlanLayers.{IsPlanLayer, TookLayers}
use Rattle.window_engine.proofs.LayerSteps.{next_layer, can_step}
use Rattle.window_engine.proofs.Taken.{some_stand, count_is, one_more}
use Rattle.window_engine.proofs.run.run_layers.Goals as goal

pub take_two-requires-clause-layer : goal.take_two-requires-clause-layer
take_two-requires-clause-layer c =
    let layers = ap (λ p. p.layers) c.plan.view_is in
    let inv = c.loop-pair.invariant in
    (2 * c.loop-pair.pair, record { before_last = omega (arith, c.loop-pair-test.true, layers); words = inv.even; took = inv.mixers })

pub loop-pair-preserved : goal.loop-pair-preserved
loop-pair-preserved c =
    let plan = c.args.plan.now in
    let rows = plan.frame.rows in
    let sets = plan.frame.sets in
    let inv = c.loop-pair.invariant in
    let k = 2 * c.loop-pair.pair in
    let odd = c.take_two.new.next in
    let next = c.next_words.new.next in
    let odd_layer : IsPlanLayer plan (k + 1) odd = c.take_two.ensures.next k inv.even in
    let rows_of : AreRowsOf rows sets plan.reach 0 (length c.loop-pair.even) c.args.flat.now =
    subst (λ m. AreRowsOf rows sets plan.reach 0 m c.args.flat.now) (sym inv.even.states) c.requires.rows in
    let can = can_step plan c.requires.sound odd c.loop-pair.even odd_layer.states inv.even.states c.take_two.ensures.next_fixed
    inv.even_fixed in
    let part : IsNextPart rows sets 0 odd next = c.next_words.ensures.next plan.frame plan.reach 0 rows_of can in
    let states : length next ≡ length rows = c.next_words.ensures.same_places ∙ inv.even.states in
    let two : k + 2 ≡ 2 * (c.loop-pair.pair + 1) = omega arith in
    let ones : k + 1 + 1 ≡ 2 * (c.loop-pair.pair + 1) = omega arith in
    record {
      even = subst (λ m. IsPlanLayer plan m next) ones (next_layer plan (k + 1) odd next odd_layer states part);
      even_fixed = c.next_words.ensures.fixed plan.frame plan.reach 0 rows_of can;
      even_pairs = c.next_words.ensures.pairs;
      odd_states = odd_layer.states;
      odd_fixed = c.take_two.ensures.next_fixed;
      odd_pairs = c.take_two.ensures.next_pairs;
      mixers = subst (λ m. TookLayers plan m c.take_two.new.mixers) two (c.take_two.ensures.took k inv.even inv.mixers);
    }

pub take_two-requires-then-layers-eq1-clause-layer : goal.take_two-requires-then-layers-eq1-clause-layer
take_two-requires-then-layers-eq1-clause-layer c =
    let layers = ap (λ p. p.layers) c.plan.view_is in
    let inv = c.loop-pair.invariant in (
      2 * c.loop-pair.pair,
      record {
        before_last = omega (arith, c.if-layers-eq1.true, c.loop-pair.auto.pair-end, layers);
        words = inv.even;
        took = inv.mixers;
      },
    )

pub add_layer-requires-clause-stand : goal.add_layer-requires-clause-stand
add_layer-requires-clause-stand c = some_stand c.args.plan.now _ _ c.loop-pair.invariant.mixers

pub add_layer-requires-clause-room : goal.add_layer-requires-clause-room
add_layer-requires-clause-room c = λ s l.
    let layers = ap (λ p. p.layers) c.plan.view_is in
    let count = count_is c.args.plan.now _ _ c.loop-pair.invariant.mixers s l in
    omega (arith, count, c.loop-pair.auto.pair-end, layers)

pub returns-then-layers-eq1 : goal.returns-then-layers-eq1
returns-then-layers-eq1 c =
    let plan = c.args.plan.now in
    let inv = c.loop-pair.invariant in
    let layers : c.plan.inside.layers ≡ plan.layers = ap (λ p. p.layers) c.plan.view_is in
    let all : 2 * c.loop-pair.pair + 2 ≡ suc plan.layers =
    omega (arith, c.if-layers-eq1.true, c.loop-pair.auto.pair-end, c.loop-pair-test.false, layers) in
    subst (λ m. TookLayers plan m c.take_two-then-layers-eq1.new.mixers) all
    (c.take_two-then-layers-eq1.ensures.took _ inv.even inv.mixers)

pub returns-else-layers-eq1 : goal.returns-else-layers-eq1
returns-else-layers-eq1 c =
    let plan = c.args.plan.now in
    let inv = c.loop-pair.invariant in
    let k = 2 * c.loop-pair.pair in
    let layers : c.plan.inside.layers ≡ plan.layers = ap (λ p. p.layers) c.plan.view_is in
    let all : k + 1 ≡ suc plan.layers =
    omega (arith, c.if-layers-eq1.false, c.loop-pair.auto.pair-end, c.loop-pair-test.false, layers) in
    subst (λ m. TookLayers plan m c.add_layer.new.self) all
    (one_more plan k c.loop-pair.mixers inv.mixers c.add_layer.new.self c.add_layer.ensures.states c.loop-pair.even inv.even
    c.add_layer.ensures.stand)
