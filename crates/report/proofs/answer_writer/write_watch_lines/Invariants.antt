use Rattle.std.proofs.Common.{◌≡◌, ◌+◌, drop}
use Rattle.report.specs.AnswerText.{watch_lines}
use Rattle.report.proofs.Fronts.{IsWrittenBefore}
use Rattle.report.proofs.answer_writer.write_watch_lines.Given as goal

abbrev pub invariant-loop-i : goal.invariant-loop-i
invariant-loop-i g l = record {
  lines : IsWrittenBefore (watch_lines 1 l.watched) (watch_lines (l.i + 1) (drop l.i l.watched))
      (g.K.Sink.written l.fn.out) (g.K.Sink.written l.out);
  flushed : g.K.Sink.flushed l.out ≡ g.K.Sink.flushed l.fn.out;
  faultless : g.K.Sink.fault_count l.out ≡ g.K.Sink.fault_count l.fn.out;
}
