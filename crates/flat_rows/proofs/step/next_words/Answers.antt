use Rattle.std.proofs.Common.{◌∙◌, length, sym, subst, arith}
use Rattle.flat_rows.specs.Laid.{sure_row}
use Rattle.flat_rows.specs.RowsOf.{AreFit}
use Rattle.flat_rows.specs.Written.{AreWritten}
use Rattle.flat_rows.proofs.NextParts.{part_is_next, part_has_fixed}
use Rattle.flat_rows.proofs.PlacedRows.{fit_left, fit_right}
use Rattle.flat_rows.proofs.Writes.{written_then, written_same}
use Rattle.flat_rows.proofs.step.next_words.Goals as goal

pub write_short_rows-requires-clause-fit : goal.write_short_rows-requires-clause-fit
write_short_rows-requires-clause-fit c =
    let all = subst (AreFit (length c.args.words.now) (length c.args.next.now)) (sym c.flat.view_is) c.requires.fit in
    subst (λ n. AreFit (length c.args.words.now) n c.flat.inside.shorts.rows) (sym c.write_one_rows.ensures.written.same_places)
    (fit_left _ _ (fit_right _ _ all))

pub write_long_rows-requires-clause-fit : goal.write_long_rows-requires-clause-fit
write_long_rows-requires-clause-fit c =
    let all = subst (AreFit (length c.args.words.now) (length c.args.next.now)) (sym c.flat.view_is) c.requires.fit in
    subst (λ n. AreFit (length c.args.words.now) n c.flat.inside.longs)
    (sym (c.write_short_rows.ensures.written.same_places ∙ c.write_one_rows.ensures.written.same_places))
    (fit_right _ _ (fit_right _ _ all))

pub returns-clause-next : goal.returns-clause-next
returns-clause-next c = λ frame reach first are can p l.
    let words = c.args.words.now in
    let ones = written_same sure_row c.deref.ensures.value c.write_one_rows.ensures.written in
    let written = subst (λ flat. AreWritten words flat c.args.next.now c.write_long_rows.new.next) c.flat.view_is
    (written_then ones (written_then c.write_short_rows.ensures.written c.write_long_rows.ensures.written)) in
    part_is_next frame reach first c.args.flat.now words c.args.next.now c.write_long_rows.new.next are can written p
    (omega (arith, l, written.same_places))

pub returns-clause-fixed : goal.returns-clause-fixed
returns-clause-fixed c = λ frame reach first are can.
    let words = c.args.words.now in
    let ones = written_same sure_row c.deref.ensures.value c.write_one_rows.ensures.written in
    let written = subst (λ flat. AreWritten words flat c.args.next.now c.write_long_rows.new.next) c.flat.view_is
    (written_then ones (written_then c.write_short_rows.ensures.written c.write_long_rows.ensures.written)) in
    part_has_fixed frame reach first c.args.flat.now words c.args.next.now c.write_long_rows.new.next are can written
