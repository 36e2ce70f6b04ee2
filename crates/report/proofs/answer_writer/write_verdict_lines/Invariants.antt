use Rattle.std.proofs.Common.{◌≡◌, ◌+◌, drop}
use Rattle.report.specs.AnswerText.{verdict_lines}
use Rattle.report.proofs.Fronts.{IsWrittenBefore}
use Rattle.report.proofs.answer_writer.write_verdict_lines.Given as goal

abbrev pub invariant-loop-s : goal.invariant-loop-s
invariant-loop-s g l = record {
  lines : IsWrittenBefore (verdict_lines 1 l.verdicts) (verdict_lines (l.s + 1) (drop l.s l.verdicts))
      (g.K.Sink.written l.fn.out) (g.K.Sink.written l.out);
  flushed : g.K.Sink.flushed l.out ≡ g.K.Sink.flushed l.fn.out;
  faultless : g.K.Sink.fault_count l.out ≡ g.K.Sink.fault_count l.fn.out;
}
