use Rattle.std.proofs.Common.{◌<◌, ◌≤◌, ◌^◌, length, refl, arith}
use Rattle.std.proofs.lemmas.List.Elements.{All-set}
use Rattle.flat_rows.specs.Laid.{short_row}
use Rattle.flat_rows.proofs.PlacedRows.{fit_at}
use Rattle.flat_rows.proofs.Writes.{written_more, written_all}
use Rattle.flat_rows.proofs.write_rows.write_rows.Goals as goal

pub row_words-requires-clause-fit : goal.row_words-requires-clause-fit
row_words-requires-clause-fit g c =
    (fit_at (short_row c.args.divisor.now) c.args.rows.now c.loop-row.row-index c.row-item.result
    (omega (arith, c.loop-row-test.true)) c.row-item.is c.requires.fit).fit

pub bounds-next-row : goal.bounds-next-row
bounds-next-row g c =
    let fit = fit_at (short_row c.args.divisor.now) c.args.rows.now c.loop-row.row-index c.row-item.result
    (omega (arith, c.loop-row-test.true)) c.row-item.is c.requires.fit in
    omega (arith, fit.place, c.loop-row.invariant.written.same_places)

pub loop-row-preserved : goal.loop-row-preserved
loop-row-preserved g c =
    let rows = c.args.rows.now in
    let i = c.loop-row.row-index in
    let row = c.row-item.result in
    let inside : i < length rows = omega (arith, c.loop-row-test.true) in
    let fit = fit_at (short_row c.args.divisor.now) rows i row inside c.row-item.is c.requires.fit in
    let room : row.place < length c.loop-row.next = omega (arith, fit.place, c.loop-row.invariant.written.same_places) in
    record {
      written =
          written_more (short_row c.args.divisor.now) c.args.words.now rows i row c.args.next.now c.loop-row.next row.place
          c.row_words.result inside c.row-item.is refl room c.row_words.ensures.value c.loop-row.invariant.written;
      pairs =
          All-set (λ w. (w.low ≤ 2 ^ 62) × (w.high ≤ 2 ^ 62)) c.loop-row.next row.place c.row_words.result
          (c.row_words.ensures.low_at_most_one, c.row_words.ensures.high_at_most_one) c.loop-row.invariant.pairs;
    }

pub returns-clause-written : goal.returns-clause-written
returns-clause-written g c =
    written_all (short_row c.args.divisor.now) c.args.words.now c.args.rows.now c.loop-row.row-index c.args.next.now c.loop-row.next
    (omega (arith, c.loop-row-test.false)) c.loop-row.invariant.written
