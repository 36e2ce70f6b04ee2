use Rattle.std.proofs.Common.{subst}
use Rattle.session.specs.Reading.{IsReplyWritable}
use Rattle.session.proofs.line_reply.write_reply.Goals as goal

pub write_answer-requires-clause-over : goal.write_answer-requires-clause-over
write_answer-requires-clause-over g c = (subst (IsReplyWritable c.args.labels.now) c.in-Answered.is c.requires).0

pub write_answer-requires-clause-writable : goal.write_answer-requires-clause-writable
write_answer-requires-clause-writable g c = (subst (IsReplyWritable c.args.labels.now) c.in-Answered.is c.requires).1
