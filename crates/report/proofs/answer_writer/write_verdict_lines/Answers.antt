use Rattle.std.proofs.Common.{◌∙◌, rules}
use Rattle.report.specs.AnswerText.{verdict_lines}
use Rattle.report.proofs.Fronts.{front_so_far, front_of_line, line_written}
use Rattle.report.proofs.ReportLines.{verdict_lines_more}
use Rattle.report.proofs.answer_writer.write_verdict_lines.Goals as goal

pub returns-in_err-put_verdict_line-clause-front : goal.returns-in_err-put_verdict_line-clause-front
returns-in_err-put_verdict_line-clause-front g c =
    front_so_far (verdict_lines 1 c.args.verdicts.now) _ _ _ c.loop-s.invariant.lines

pub returns-in_err-write_whole-clause-front : goal.returns-in_err-write_whole-clause-front
returns-in_err-write_whole-clause-front g c =
    front_of_line (verdict_lines 1 c.args.verdicts.now) _ _ _ _ _ _
    (verdict_lines_more c.args.verdicts.now c.loop-s.s _ c.loop-s-test.true)
    _ _ _ c.deref.ensures.value c.in_ok-put_verdict_line.ensures c.clear.ensures.items c.loop-s.invariant.lines
    c.in_err-write_whole.ensures.front

pub loop-s-preserved : goal.loop-s-preserved
loop-s-preserved g c = record {
  lines =
      line_written (verdict_lines 1 c.args.verdicts.now) _ _ _ _ _ _
      (verdict_lines_more c.args.verdicts.now c.loop-s.s _ c.loop-s-test.true)
      _ _ _ c.deref.ensures.value c.in_ok-put_verdict_line.ensures c.clear.ensures.items c.loop-s.invariant.lines
      c.in_ok-write_whole.ensures.ok;
  flushed = c.in_ok-write_whole.ensures.flushed ∙ c.loop-s.invariant.flushed;
  faultless = search rules;
}

pub returns-clause-front : goal.returns-clause-front
returns-clause-front g c = front_so_far (verdict_lines 1 c.args.verdicts.now) _ _ _ c.loop-s.invariant.lines
