use Rattle.std.proofs.Common.{◌≡◌, ◌+◌, drop}
use Rattle.report.specs.AnswerText.{state_lines}
use Rattle.report.proofs.Fronts.{IsWrittenBefore}
use Rattle.report.proofs.answer_writer.write_state_lines.Given as goal

abbrev pub invariant-loop-s : goal.invariant-loop-s
invariant-loop-s g l = record {
  lines : IsWrittenBefore (state_lines 1 l.verdicts l.brackets) (state_lines (l.s + 1) (drop l.s l.verdicts) (drop l.s l.brackets))
      (g.K.Sink.written l.fn.out) (g.K.Sink.written l.out);
  flushed : g.K.Sink.flushed l.out ≡ g.K.Sink.flushed l.fn.out;
  faultless : g.K.Sink.fault_count l.out ≡ g.K.Sink.fault_count l.fn.out;
}
