use Rattle.std.proofs.Common.{◌<◌, ◌≤◌, ◌^◌, length, get_or, refl, arith}
use Rattle.std.proofs.lemmas.List.{get_or_default}
use Rattle.std.proofs.lemmas.List.Elements.{All-set}
use Rattle.flat_rows.specs.Laid.{sure_row}
use Rattle.flat_rows.specs.declared.one_row.OneRow.{OneRow}
use Rattle.flat_rows.proofs.PlacedRows.{fit_at}
use Rattle.flat_rows.proofs.RowValues.{sure_words}
use Rattle.flat_rows.proofs.Writes.{written_more, written_all}
use Rattle.step_core.specs.WordPairs.{words_at}
use Rattle.flat_rows.proofs.write_one_rows.write_one_rows.Goals as goal

abbrev none : OneRow
none = record { place = 0; to = 0 }

pub bounds-words-row : goal.bounds-words-row
bounds-words-row c =
    let rows = c.args.rows.now in
    let i = c.loop-row.row-index in
    let row = get_or rows i none in
    let inside : i < length rows = omega (arith, c.loop-row-test.true) in
    let fit = fit_at sure_row rows i row inside (get_or_default rows i none row inside) c.requires.fit in
    fit.fit.targets 0 (record { to = 0; num = 0 }) (omega arith)

pub bounds-next-row : goal.bounds-next-row
bounds-next-row c =
    let rows = c.args.rows.now in
    let i = c.loop-row.row-index in
    let row = get_or rows i none in
    let inside : i < length rows = omega (arith, c.loop-row-test.true) in
    let fit = fit_at sure_row rows i row inside (get_or_default rows i none row inside) c.requires.fit in
    omega (arith, fit.place, c.loop-row.invariant.written.same_places)

pub loop-row-preserved : goal.loop-row-preserved
loop-row-preserved c =
    let rows = c.args.rows.now in
    let words = c.args.words.now in
    let i = c.loop-row.row-index in
    let row = get_or rows i none in
    let inside : i < length rows = omega (arith, c.loop-row-test.true) in
    let same = get_or_default rows i none row inside in
    let fit = fit_at sure_row rows i row inside same c.requires.fit in
    let room : row.place < length c.loop-row.next = omega (arith, fit.place, c.loop-row.invariant.written.same_places) in
    let target : row.to < length words = fit.fit.targets 0 (record { to = 0; num = 0 }) (omega arith) in
    record {
      written =
          written_more sure_row words rows i row c.args.next.now c.loop-row.next row.place (words_at words row.to) inside same refl room
          (sure_words row words) c.loop-row.invariant.written;
      pairs =
          All-set (λ w. (w.low ≤ 2 ^ 62) × (w.high ≤ 2 ^ 62)) c.loop-row.next row.place (words_at words row.to)
          (c.requires.words row.to _ target) c.loop-row.invariant.pairs;
    }

pub returns-clause-written : goal.returns-clause-written
returns-clause-written c =
    written_all sure_row c.args.words.now c.args.rows.now c.loop-row.row-index c.args.next.now c.loop-row.next
    (omega (arith, c.loop-row-test.false)) c.loop-row.invariant.written
