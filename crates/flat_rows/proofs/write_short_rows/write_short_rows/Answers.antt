use Rattle.std.proofs.Common.{length, sym, subst, arith}
use Rattle.flat_rows.specs.Laid.{short_row}
use Rattle.flat_rows.specs.RowsOf.{AreFit}
use Rattle.flat_rows.specs.Written.{AreWritten}
use Rattle.flat_rows.proofs.PlacedRows.{fit_same}
use Rattle.flat_rows.proofs.ShortParts.{parts_fit}
use Rattle.flat_rows.proofs.Writes.{written_then, written_same}
use Rattle.flat_rows.proofs.write_short_rows.write_short_rows.Goals as goal

pub write_rows-requires-2 : goal.write_rows-requires-2
write_rows-requires-2 c =
    let all = subst (λ s. AreFit (length c.args.words.now) (length c.args.next.now) s.rows) (sym c.rows.view_is) c.requires.fit in (
      omega arith,
      (
        fit_same (short_row c.rows.inside.divisor) c.deref-2.ensures.value
            (omega (
              arith,
              c.write_rows.ensures.written.same_places,
            ))
            (parts_fit c.rows.inside all).threes,
        (c.requires.words, c.write_rows.ensures.pairs),
      ),
    )

pub write_rows-requires-3 : goal.write_rows-requires-3
write_rows-requires-3 c =
    let all = subst (λ s. AreFit (length c.args.words.now) (length c.args.next.now) s.rows) (sym c.rows.view_is) c.requires.fit in (
      omega arith,
      (
        fit_same (short_row c.rows.inside.divisor) c.deref-3.ensures.value
            (omega (
              arith,
              c.write_rows.ensures.written.same_places,
              c.write_rows-2.ensures.written.same_places,
            ))
            (parts_fit c.rows.inside all).fours,
        (c.requires.words, c.write_rows-2.ensures.pairs),
      ),
    )

pub write_rows-requires-4 : goal.write_rows-requires-4
write_rows-requires-4 c =
    let all = subst (λ s. AreFit (length c.args.words.now) (length c.args.next.now) s.rows) (sym c.rows.view_is) c.requires.fit in (
      omega arith,
      (
        fit_same (short_row c.rows.inside.divisor) c.deref-4.ensures.value
            (omega (
              arith,
              c.write_rows.ensures.written.same_places,
              c.write_rows-2.ensures.written.same_places,
              c.write_rows-3.ensures.written.same_places,
            ))
            (parts_fit c.rows.inside all).fives,
        (c.requires.words, c.write_rows-3.ensures.pairs),
      ),
    )

pub write_rows-requires-5 : goal.write_rows-requires-5
write_rows-requires-5 c =
    let all = subst (λ s. AreFit (length c.args.words.now) (length c.args.next.now) s.rows) (sym c.rows.view_is) c.requires.fit in (
      omega arith,
      (
        fit_same (short_row c.rows.inside.divisor) c.deref-5.ensures.value
            (omega (
              arith,
              c.write_rows.ensures.written.same_places,
              c.write_rows-2.ensures.written.same_places,
              c.write_rows-3.ensures.written.same_places,
              c.write_rows-4.ensures.written.same_places,
            ))
            (parts_fit c.rows.inside all).sixes,
        (c.requires.words, c.write_rows-4.ensures.pairs),
      ),
    )

pub write_rows-requires-6 : goal.write_rows-requires-6
write_rows-requires-6 c =
    let all = subst (λ s. AreFit (length c.args.words.now) (length c.args.next.now) s.rows) (sym c.rows.view_is) c.requires.fit in (
      omega arith,
      (
        fit_same (short_row c.rows.inside.divisor) c.deref-6.ensures.value
            (omega (
              arith,
              c.write_rows.ensures.written.same_places,
              c.write_rows-2.ensures.written.same_places,
              c.write_rows-3.ensures.written.same_places,
              c.write_rows-4.ensures.written.same_places,
              c.write_rows-5.ensures.written.same_places,
            ))
            (parts_fit c.rows.inside all).sevens,
        (c.requires.words, c.write_rows-5.ensures.pairs),
      ),
    )

pub write_rows-requires-7 : goal.write_rows-requires-7
write_rows-requires-7 c =
    let all = subst (λ s. AreFit (length c.args.words.now) (length c.args.next.now) s.rows) (sym c.rows.view_is) c.requires.fit in (
      omega arith,
      (
        fit_same (short_row c.rows.inside.divisor) c.deref-7.ensures.value
            (omega (
              arith,
              c.write_rows.ensures.written.same_places,
              c.write_rows-2.ensures.written.same_places,
              c.write_rows-3.ensures.written.same_places,
              c.write_rows-4.ensures.written.same_places,
              c.write_rows-5.ensures.written.same_places,
              c.write_rows-6.ensures.written.same_places,
            ))
            (parts_fit c.rows.inside all).eights,
        (c.requires.words, c.write_rows-6.ensures.pairs),
      ),
    )

pub returns-clause-written : goal.returns-clause-written
returns-clause-written c =
    let den = c.rows.inside.divisor in
    subst (λ s. AreWritten c.args.words.now s.rows c.args.next.now c.write_rows-7.new.next) c.rows.view_is
    (written_then (written_same (short_row den) c.deref.ensures.value c.write_rows.ensures.written)
    (written_then (written_same (short_row den) c.deref-2.ensures.value c.write_rows-2.ensures.written)
    (written_then (written_same (short_row den) c.deref-3.ensures.value c.write_rows-3.ensures.written)
    (written_then (written_same (short_row den) c.deref-4.ensures.value c.write_rows-4.ensures.written)
    (written_then (written_same (short_row den) c.deref-5.ensures.value c.write_rows-5.ensures.written)
    (written_then (written_same (short_row den) c.deref-6.ensures.value c.write_rows-6.ensures.written)
    (written_same (short_row den) c.deref-7.ensures.value c.write_rows-7.ensures.written)))))))
