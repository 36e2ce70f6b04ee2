use Rattle.std.proofs.Common.{◌<◌, length, arith}
use Rattle.round_out.specs.declared.entry.Entry.{Entry}
use Rattle.tighten_step.proofs.LoadedWords.{words_upper, words_then, high_more}
use Rattle.tighten_step.proofs.PrefixSums.{product_fits}
use Rattle.tighten_step.proofs.products.high_products.Goals as goal

pub overflow_add-products : goal.overflow_add-products
overflow_add-products c =
    let es = c.args.row.now.entries.now in
    let d : Entry = record { to = 0; num = 0 } in
    let inside : c.loop-entry.entry-index < length es = c.loop-entry-test.true in
    let fit = c.requires.row.fit in
    let product = product_fits c.args.board.now c.args.pass.now c.args.k es _ _ c.loop-entry.entry-index c.loop-entry.products
    c.load_upper-word.result _ _ d inside
    (omega (arith, fit.whole, fit.fits)) c.load_upper-word.ensures.one c.from.ensures c.from-in-loop-entry.ensures
    c.loop-entry.invariant.products in
    omega (arith, product)

pub loop-entry-preserved : goal.loop-entry-preserved
loop-entry-preserved c =
    let b = c.args.board.now in
    let es = c.args.row.now.entries.now in
    let d : Entry = record { to = 0; num = 0 } in
    let load = c.load_upper-word in
    let before = c.loop-entry.invariant in
    let inside : c.loop-entry.entry-index < length es = c.loop-entry-test.true in
    let t_in = c.requires.row.fit.targets c.loop-entry.entry-index d inside in
    record {
      knows = words_then b c.args.pass.now c.loop-entry.pass load.new.pass before.knows
          (words_upper b c.loop-entry.pass load.new.pass c.args.k _ load.result c.requires.layer t_in load.ensures.knows
          load.ensures.notes);
      products = rw (c.from.ensures, c.from-in-loop-entry.ensures) (high_more b c.args.pass.now c.loop-entry.pass load.new.pass c.args.k es
          c.loop-entry.entry-index c.loop-entry.products load.result d c.requires.layer inside c.requires.row.fit.targets
          c.requires.row.ascend before.knows load.ensures.knows load.ensures.notes load.ensures.one load.ensures.sealed
          before.products);
    }
