use Rattle.std.proofs.Common.{subst}
use Rattle.std.proofs.lemmas.Bool.{both_ways}
use Rattle.std.proofs.lemmas.Result.{err_from_is_err_and}
use Rattle.text_lines.specs.Items.{line_text}
use Rattle.text_lines.specs.WordLines.{word_line, word_lines_in, word_lines_of}
use Rattle.lab_reader.specs.Reading.{HasNames}
use Rattle.lab_reader.proofs.Heads.{names_line, name_told}
use Rattle.lab_reader.proofs.declarations.read_names.Goals as goal

pub loop-line-preserved : goal.loop-line-preserved
loop-line-preserved c =
    let Names = HasNames (word_lines_of c.args.bytes.now) c.loop-line.names.items in
    names_line (word_lines_of c.args.bytes.now) c.loop-line.names.items c.declare_line.new.names.items
    (word_line (line_text c.in-Some.line)) (word_lines_in c.next_filled.new.lines)
    (subst Names c.in-Some.ensures c.loop-line.invariant)
    (λ is. both_ways c.is_only.result c.if-is_only.false (c.is_only.ensures.1 is)) c.in_ok-declare_line.ensures.0
    c.in_ok-declare_line.ensures.1

pub returns-in_err-declare_line : goal.returns-in_err-declare_line
returns-in_err-declare_line c =
    let p = err_from_is_err_and c.from_residual.result c.from_residual.ensures.1 in
    let Names = HasNames (word_lines_of c.args.bytes.now) c.loop-line.names.items in
    rw (p.1, p.2)
    (name_told c.args.bytes.now c.loop-line.names.items (word_line (line_text c.in-Some.line)) (word_lines_in c.next_filled.new.lines)
    (subst Names c.in-Some.ensures c.loop-line.invariant) (λ is. both_ways c.is_only.result c.if-is_only.false (c.is_only.ensures.1 is))
    c.in_err-declare_line.field-0.0 c.in_err-declare_line.ensures)
