use Rattle.std.proofs.Common.{◌≡◌}
use Rattle.model_core.specs.Model.{labelled_chain}
use Rattle.session.proofs.RepliesSoFar.{HasReplied}
use Rattle.session.proofs.replies.write_replies.Given as goal

abbrev pub invariant-loop-line : goal.invariant-loop-line
invariant-loop-line g l = record {
  replied : HasReplied (labelled_chain l.input.model) l.input.options l.input.text.items (g.K.Sink.written l.fn.out) l.line-iterator
      (g.K.Sink.written l.out) l.all_answered;
  flushed : g.K.Sink.flushed l.out ≡ g.K.Sink.flushed l.fn.out;
  faultless : g.K.Sink.fault_count l.out ≡ g.K.Sink.fault_count l.fn.out;
}
