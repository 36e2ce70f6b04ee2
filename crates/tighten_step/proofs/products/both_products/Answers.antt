use Rattle.std.proofs.Common.{◌+◌, ◌<◌, length, arith}
use Rattle.round_out.specs.declared.entry.Entry.{Entry}
use Rattle.tighten_step.proofs.LoadedWords.{words_lower, words_upper, words_then, low_more, low_word_small, high_more, low_stays, high_stays}
use Rattle.tighten_step.proofs.PrefixSums.{product_fits}
use Rattle.tighten_step.proofs.products.both_products.Goals as goal

pub overflow_add-low : goal.overflow_add-low
overflow_add-low c =
    let es = c.args.row.now.entries.now in
    let d : Entry = record { to = 0; num = 0 } in
    let inside : c.loop-entry.entry-index < length es = c.loop-entry-test.true in
    let fit = c.requires.row.fit in
    let product = product_fits c.args.board.now c.args.pass.now c.args.k es _ _ c.loop-entry.entry-index c.loop-entry.low
    c.load_lower-lower.result _ _ d inside
    (omega (arith, fit.whole, fit.fits))
    (low_word_small c.args.board.now c.requires.sound c.args.k _ c.load_lower-lower.result
    (fit.targets c.loop-entry.entry-index d inside) c.load_lower-lower.ensures.limit) c.from-num.ensures c.from.ensures
    c.loop-entry.invariant.low in
    omega (arith, product)

pub overflow_add-high : goal.overflow_add-high
overflow_add-high c =
    let es = c.args.row.now.entries.now in
    let d : Entry = record { to = 0; num = 0 } in
    let inside : c.loop-entry.entry-index < length es = c.loop-entry-test.true in
    let fit = c.requires.row.fit in
    let product = product_fits c.args.board.now c.args.pass.now c.args.k es _ _ c.loop-entry.entry-index c.loop-entry.high
    c.load_upper-upper.result _ _ d inside
    (omega (arith, fit.whole, fit.fits)) c.load_upper-upper.ensures.one c.from-num.ensures c.from-in-loop-entry.ensures
    c.loop-entry.invariant.high in
    omega (arith, product)

pub loop-entry-preserved : goal.loop-entry-preserved
loop-entry-preserved c =
    let b = c.args.board.now in
    let es = c.args.row.now.entries.now in
    let d : Entry = record { to = 0; num = 0 } in
    let one = c.load_lower-lower in
    let two = c.load_upper-upper in
    let p = c.args.pass.now in
    let q = c.loop-entry.pass in
    let i = c.loop-entry.entry-index in
    let before = c.loop-entry.invariant in
    let inside : i < length es = c.loop-entry-test.true in
    let targets = c.requires.row.fit.targets in
    let t_in = targets i d inside in
    let le = c.requires.layer in
    let up = c.requires.row.ascend in
    let half = words_then b p q one.new.pass before.knows
    (words_lower b q one.new.pass c.args.k _ one.result le t_in one.ensures.knows one.ensures.notes) in
    let low = low_more b p q one.new.pass c.args.k es i c.loop-entry.low one.result d le inside targets up before.knows one.ensures.knows
    one.ensures.notes c.requires.sound one.ensures.limit one.ensures.sealed before.low in
    let high = high_stays b p q one.new.pass c.args.k es i c.loop-entry.high one.result d le inside targets up before.knows
    one.ensures.knows one.ensures.notes before.high in
    record {
      knows = words_then b p one.new.pass two.new.pass half
          (words_upper b one.new.pass two.new.pass c.args.k _ two.result le t_in two.ensures.knows two.ensures.notes);
      low = rw (c.from-num.ensures, c.from.ensures) (low_stays b p one.new.pass two.new.pass c.args.k es i _ two.result d le inside
          targets up half two.ensures.knows two.ensures.notes (i + 1) (omega (arith, inside)) low);
      high = rw (c.from-num.ensures, c.from-in-loop-entry.ensures) (high_more b p one.new.pass two.new.pass c.args.k es i c.loop-entry.high
          two.result d le inside targets up half two.ensures.knows two.ensures.notes two.ensures.one two.ensures.sealed high);
    }
