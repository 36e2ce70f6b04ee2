use Rattle.std.proofs.Common.{◌∙◌, arith, rules}
use Rattle.report.specs.AnswerText.{state_lines}
use Rattle.report.proofs.Fronts.{front_so_far, front_of_line, line_written}
use Rattle.report.proofs.ReportLines.{state_lines_more}
use Rattle.report.proofs.answer_writer.write_state_lines.Goals as goal

pub returns-in_err-put_state_line-clause-front : goal.returns-in_err-put_state_line-clause-front
returns-in_err-put_state_line-clause-front g c =
    front_so_far (state_lines 1 c.args.verdicts.now c.args.brackets.now) _ _ _ c.loop-s.invariant.lines

pub returns-in_err-write_whole-clause-front : goal.returns-in_err-write_whole-clause-front
returns-in_err-write_whole-clause-front g c =
    front_of_line (state_lines 1 c.args.verdicts.now c.args.brackets.now) _ _ _ _ _ _
    (state_lines_more c.args.verdicts.now c.args.brackets.now c.loop-s.s _ _ c.loop-s-test.true
    (omega (arith, c.loop-s-test.true, c.requires.each)))
    _ _ _ c.deref.ensures.value c.in_ok-put_state_line.ensures c.clear.ensures.items c.loop-s.invariant.lines
    c.in_err-write_whole.ensures.front

pub loop-s-preserved : goal.loop-s-preserved
loop-s-preserved g c = record {
  lines =
      line_written (state_lines 1 c.args.verdicts.now c.args.brackets.now) _ _ _ _ _ _
      (state_lines_more c.args.verdicts.now c.args.brackets.now c.loop-s.s _ _ c.loop-s-test.true
      (omega (arith, c.loop-s-test.true, c.requires.each)))
      _ _ _ c.deref.ensures.value c.in_ok-put_state_line.ensures c.clear.ensures.items c.loop-s.invariant.lines
      c.in_ok-write_whole.ensures.ok;
  flushed = c.in_ok-write_whole.ensures.flushed ∙ c.loop-s.invariant.flushed;
  faultless = search rules;
}

pub returns-clause-front : goal.returns-clause-front
returns-clause-front g c = front_so_far (state_lines 1 c.args.verdicts.now c.args.brackets.now) _ _ _ c.loop-s.invariant.lines
