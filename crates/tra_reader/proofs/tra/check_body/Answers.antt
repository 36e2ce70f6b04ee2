use Rattle.std.proofs.Common.{subst, ap, arith}
use Rattle.text_lines.specs.LinesOf.{end_line_of}
use Rattle.text_lines.specs.WordLines.{word_lines_of}
use Rattle.text_lines.specs.declared.entry_line.EntryLine.{EntryLine}
use Rattle.tra_reader.specs.Repeats.{IsFirstRepeated}
use Rattle.tra_reader.specs.declared.entry.Pair.{Pair}
use Rattle.tra_reader.proofs.FaultLemmas.{repeated, whole, missing, further, failing}
use Rattle.tra_reader.proofs.tra.check_body.Goals as goal

pub returns-then-place-len : goal.returns-then-place-len
returns-then-place-len c =
    let place = c.in_ok-place.place in
    let first = subst (λ z. IsFirstRepeated z place) c.deref.ensures.value c.in_ok-place.ensures in
    rw (c.at.ensures, ap (λ (e : EntryLine Pair). e.line) c.index.ensures)
    (repeated c.args.body.now place first (word_lines_of c.args.bytes.now) (end_line_of c.args.bytes.now) c.index.result.now
    (omega (arith, c.len.ensures, c.if-place-len.true)))

pub returns-in-AllRead : goal.returns-in-AllRead
returns-in-AllRead c =
    whole c.args.body.now c.in_ok-place.place
    (subst (λ z. IsFirstRepeated z c.in_ok-place.place) c.deref.ensures.value c.in_ok-place.ensures)
    (omega (arith, c.len.ensures, c.if-place-len.false)) c.in-AllRead.is

pub returns-in-Missing : goal.returns-in-Missing
returns-in-Missing c =
    rw (c.at-in-Missing.ensures, c.end_line.ensures)
    (missing c.args.body.now c.in_ok-place.place
    (subst (λ z. IsFirstRepeated z c.in_ok-place.place) c.deref.ensures.value c.in_ok-place.ensures)
    (omega (arith, c.len.ensures, c.if-place-len.false)) (word_lines_of c.args.bytes.now) (end_line_of c.args.bytes.now) c.in-Missing.is)

pub returns-in-Further : goal.returns-in-Further
returns-in-Further c =
    let first = subst (λ z. IsFirstRepeated z c.in_ok-place.place) c.deref.ensures.value c.in_ok-place.ensures in
    let again = further c.args.body.now c.in_ok-place.place first (omega (arith, c.len.ensures, c.if-place-len.false)) in
    rw c.at-in-Further.ensures (again (word_lines_of c.args.bytes.now) (end_line_of c.args.bytes.now) c.in-Further.line c.in-Further.is)

pub returns-in-Failing : goal.returns-in-Failing
returns-in-Failing c =
    rw c.at-in-Failing.ensures
    (failing c.args.body.now c.in_ok-place.place
    (subst (λ z. IsFirstRepeated z c.in_ok-place.place) c.deref.ensures.value c.in_ok-place.ensures)
    (omega (arith, c.len.ensures, c.if-place-len.false)) (word_lines_of c.args.bytes.now) (end_line_of c.args.bytes.now)
    c.in-Failing.line c.in-Failing.what c.in-Failing.is)
