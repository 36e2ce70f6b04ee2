use Rattle.std.proofs.Common.{◌+◌, ◌<◌, ◌∙◌, arith}
use Rattle.model_core.specs.declared.limits.TheConstants.{AMOUNT_LIMIT}
use Rattle.tra_reader.proofs.RateLemmas.{no_entry, next_sum, sums-none, sums-more, sums-past, sums-all}
use Rattle.tra_reader.proofs.rates.first_large.Goals as goal

pub loop-place-init : goal.loop-place-init
loop-place-init c = sums-none c.args.scale c.args.n c.in_ok-sums.sums.items (c.in_ok-sums.ensures.items_if_clones_equal (λ y e. e))

pub returns-then-sum-from : goal.returns-then-sum-from
returns-then-sum-from c =
    sums-past c.args.scale c.args.n c.args.entries.now c.loop-place.place no_entry c.loop-place.sums.items
    (c.from.result + c.value_at.result)
    (next_sum c.args.scale c.args.n c.args.entries.now c.loop-place.place no_entry c.loop-place.sums.items c.from-from.result c.from.result
    c.index.result.now c.value_at.result
    c.loop-place-test.true
    (c.requires.states c.loop-place.place no_entry c.loop-place-test.true) c.loop-place.invariant c.from-from.ensures
    (c.from.ensures ∙ c.index.ensures)
    c.value_at.ensures.value)
    (omega (arith, c.if-sum-from.true, c.from-in-loop-place.ensures))

pub loop-place-preserved : goal.loop-place-preserved
loop-place-preserved c =
    let small : c.from.result + c.value_at.result < AMOUNT_LIMIT = omega (arith, c.if-sum-from.false, c.from-in-loop-place.ensures) in
    rw c.from-from.ensures
    (sums-more c.args.scale c.args.n c.args.entries.now c.loop-place.place no_entry c.loop-place.sums.items
    (c.from.result + c.value_at.result)
    (next_sum c.args.scale c.args.n c.args.entries.now c.loop-place.place no_entry c.loop-place.sums.items c.from-from.result c.from.result
    c.index.result.now c.value_at.result
    c.loop-place-test.true
    (c.requires.states c.loop-place.place no_entry c.loop-place-test.true) c.loop-place.invariant c.from-from.ensures
    (c.from.ensures ∙ c.index.ensures)
    c.value_at.ensures.value) small)

pub returns : goal.returns
returns c =
    sums-all c.args.scale c.args.n c.loop-place.place c.args.entries.now c.loop-place.sums.items c.loop-place-test.false
    c.loop-place.invariant
