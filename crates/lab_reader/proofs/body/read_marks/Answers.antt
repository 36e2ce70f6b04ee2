use Rattle.std.proofs.Common.{◌≡◌, ◌-◌, ◌<◌, length, get_or, replicate, arith, subst, ◌∙◌}
use Rattle.std.proofs.lemmas.List.{get_or_default}
use Rattle.text_lines.specs.Items.{line_text}
use Rattle.text_lines.specs.WordLines.{word_line, word_lines_in}
use Rattle.lab_reader.specs.Reading.{GivesMask}
use Rattle.lab_reader.proofs.Bodies.{HasMarked, marked_none, marked_more}
use Rattle.lab_reader.proofs.body.read_marks.Goals as goal

pub loop-line-init : goal.loop-line-init
loop-line-init c =
    let zeros : c.in_ok-marks.marks.items ≡ replicate c.args.n 0 = c.in_ok-marks.ensures.items_if_clones_equal (λ y e. e) in
    rw zeros (marked_none c.args.n c.args.names.now (word_lines_in c.args.rest))

pub loop-line-preserved : goal.loop-line-preserved
loop-line-preserved c =
    let body = word_lines_in c.args.rest in
    let line = word_line (line_text c.in-Some.line) in
    let left = word_lines_in c.next_filled.new.lines in
    let names = c.args.names.now in
    let marks = c.loop-line.marks.items in
    let place = c.in-Ok.marked.state - 1 in
    let g : GivesMask c.args.n names line c.in-Ok.marked.state c.in-Ok.marked.mask = c.in-Ok.ensures in
    let inside : place < length marks = omega (arith, g.is.is_state.0, g.is.is_state.1, c.loop-line.invariant.are.each) in
    let old : c.index_mut.result.now ≡ get_or marks place 0 =
    c.index_mut.ensures.value ∙ get_or_default marks place c.index_mut.result.now 0 inside
    in
    rw old
    (marked_more c.args.n names body marks line left c.in-Ok.marked.state c.in-Ok.marked.mask
    (subst (HasMarked c.args.n names body marks) c.in-Some.ensures c.loop-line.invariant) g)
