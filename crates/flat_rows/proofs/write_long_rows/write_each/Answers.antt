use Rattle.std.proofs.Common.{◌<◌, ◌≤◌, ◌^◌, ◌∙◌, ap, length, refl, arith}
use Rattle.std.proofs.lemmas.List.Elements.{All-set}
use Rattle.flat_rows.specs.Laid.{long_row}
use Rattle.flat_rows.specs.SideWords.{side_words}
use Rattle.flat_rows.proofs.PlacedRows.{fit_at}
use Rattle.flat_rows.proofs.Writes.{written_more, written_all}
use Rattle.flat_rows.proofs.write_long_rows.write_each.Goals as goal

pub row_words-quotients-requires-clause-fit : goal.row_words-quotients-requires-clause-fit
row_words-quotients-requires-clause-fit c =
    (fit_at (long_row c.args.entries.now) c.args.rows.now c.loop-row.row-index c.row-item.result
    (omega (arith, c.loop-row-test.true)) c.row-item.is c.requires.fit).fit

pub bounds-next-row : goal.bounds-next-row
bounds-next-row c =
    let fit = fit_at (long_row c.args.entries.now) c.args.rows.now c.loop-row.row-index c.row-item.result
    (omega (arith, c.loop-row-test.true)) c.row-item.is c.requires.fit in
    omega (arith, fit.place, c.loop-row.invariant.written.same_places)

pub loop-row-preserved : goal.loop-row-preserved
loop-row-preserved c =
    let rows = c.args.rows.now in
    let i = c.loop-row.row-index in
    let row = c.row-item.result in
    let inside : i < length rows = omega (arith, c.loop-row-test.true) in
    let fit = fit_at (long_row c.args.entries.now) rows i row inside c.row-item.is c.requires.fit in
    let room : row.place < length c.loop-row.next = omega (arith, fit.place, c.loop-row.invariant.written.same_places) in
    record {
      written =
          written_more (long_row c.args.entries.now) c.args.words.now rows i row c.args.next.now c.loop-row.next row.place c.on_sides.result
          inside c.row-item.is refl room (c.on_sides.ensures.value ∙ ap (side_words row.sides) c.row_words-quotients.ensures.value)
          c.loop-row.invariant.written;
      pairs =
          All-set (λ w. (w.low ≤ 2 ^ 62) × (w.high ≤ 2 ^ 62)) c.loop-row.next row.place c.on_sides.result
          (c.on_sides.ensures.low_at_most_one, c.on_sides.ensures.high_at_most_one) c.loop-row.invariant.pairs;
    }

pub returns-clause-written : goal.returns-clause-written
returns-clause-written c =
    written_all (long_row c.args.entries.now) c.args.words.now c.args.rows.now c.loop-row.row-index c.args.next.now c.loop-row.next
    (omega (arith, c.loop-row-test.false)) c.loop-row.invariant.written
