use Rattle.std.proofs.Common.{◌∙◌, rules}
use Rattle.report.specs.AnswerText.{watch_lines}
use Rattle.report.proofs.Fronts.{front_so_far, front_of_line, line_written}
use Rattle.report.proofs.ReportLines.{watch_lines_more}
use Rattle.report.proofs.answer_writer.write_watch_lines.Goals as goal

pub returns-in_err-put_watch_line-clause-front : goal.returns-in_err-put_watch_line-clause-front
returns-in_err-put_watch_line-clause-front g c =
    front_so_far (watch_lines 1 c.args.watched.now) _ _ _ c.loop-i.invariant.lines

pub returns-in_err-write_whole-clause-front : goal.returns-in_err-write_whole-clause-front
returns-in_err-write_whole-clause-front g c =
    front_of_line (watch_lines 1 c.args.watched.now) _ _ _ _ _ _
    (watch_lines_more c.args.watched.now c.loop-i.i _ c.loop-i-test.true)
    _ _ _ c.deref.ensures.value c.in_ok-put_watch_line.ensures c.clear.ensures.items c.loop-i.invariant.lines
    c.in_err-write_whole.ensures.front

pub loop-i-preserved : goal.loop-i-preserved
loop-i-preserved g c = record {
  lines =
      line_written (watch_lines 1 c.args.watched.now) _ _ _ _ _ _
      (watch_lines_more c.args.watched.now c.loop-i.i _ c.loop-i-test.true)
      _ _ _ c.deref.ensures.value c.in_ok-put_watch_line.ensures c.clear.ensures.items c.loop-i.invariant.lines
      c.in_ok-write_whole.ensures.ok;
  flushed = c.in_ok-write_whole.ensures.flushed ∙ c.loop-i.invariant.flushed;
  faultless = search rules;
}

pub returns-clause-front : goal.returns-clause-front
returns-clause-front g c = front_so_far (watch_lines 1 c.args.watched.now) _ _ _ c.loop-i.invariant.lines
