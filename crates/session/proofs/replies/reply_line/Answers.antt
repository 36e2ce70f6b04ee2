use Rattle.std.proofs.Common.{◌≡◌, ℕ, ◌∙◌, Result, Ok, Err, refl, sym, ap, subst}
use Rattle.std.specs.Io.KnownBytes.{Appends}
use Rattle.std.specs.Prelude.{IsErrAnd, IsErrOf}
use Rattle.model_core.specs.Model.{labelled_chain}
use Rattle.outside.specs.Causes.{HasCause}
use Rattle.outside.specs.Whole.{WritesFront}
use Rattle.outside.specs.declared.fault.PutFault.{PutFault}
use Rattle.outside.specs.declared.fault.PutFault.TheVariants.{Failed}
use Rattle.report.proofs.Fronts.{nothing_written}
use Rattle.session.specs.LineReply.{reply_text}
use Rattle.session.specs.Reading.{line_reply_of, IsReplyWritable}
use Rattle.session.proofs.LineReplies.{some_reply}
use Rattle.session.proofs.replies.reply_line.Goals as goal

pub write_reply-requires : goal.write_reply-requires
write_reply-requires g c =
    subst (λ names. IsReplyWritable names c.in_ok-reply.reply) (sym c.labels.ensures.names) c.in_ok-reply.ensures.writable

pub returns-in_err-reply-clause-front : goal.returns-in_err-reply-clause-front
returns-in_err-reply-clause-front g c =
    let some =
    some_reply (labelled_chain c.args.input.now.model) c.args.input.now.options c.args.line.bytes.now c.requires.options c.requires.state in
    record {
      reply = record { number = c.args.line.number; reply = some.0 };
      is = record { number = refl; reply = some.1 };
      front = nothing_written _ _;
    }

pub returns-in_err-write_reply-clause-front : goal.returns-in_err-write_reply-clause-front
returns-in_err-write_reply-clause-front g c = record {
  reply = record { number = c.args.line.number; reply = line_reply_of c.args.input.now.model.names c.in_ok-reply.reply };
  is = record { number = refl; reply = c.in_ok-reply.ensures.reply };
  front =
      subst (λ names. WritesFront (reply_text c.args.line.number (line_reply_of names c.in_ok-reply.reply))
      (g.K.Sink.written c.args.out.now) (g.K.Sink.written c.write_reply.new.out)) c.labels.ensures.names
      c.in_err-write_reply.ensures.front;
}

-- a fault that is told on has the same cause
same_err : {X : Type 0} (x y : PutFault) (r : Result X PutFault) → r ≡ Err x → r ≡ Err y → x ≡ y
same_err x y r p q = cc

told_on : {T U : Type 0} (before now : ℕ) (r : Result T PutFault) (was : Result U PutFault) (e : PutFault)
    → IsErrAnd r (λ told. told ≡ e) → was ≡ Err e → HasCause before now (IsErrOf was Failed) → HasCause before now (IsErrOf r Failed)
told_on before now (Ok x) was e is was_is h = absurd is
told_on before now (Err told) was e is was_is h = record {
  later = h.later;
  risen = λ p. h.risen (was_is ∙ ap Err (sym is ∙ same_err told Failed (Err told) refl p));
  still = λ n. h.still (λ p. n (ap Err (is ∙ same_err e Failed was was_is p)));
}

pub returns-in_err-write_reply-clause-cause : goal.returns-in_err-write_reply-clause-cause
returns-in_err-write_reply-clause-cause g c =
    told_on _ _ _ _ _ c.from_residual-in_err-write_reply.ensures.1 refl c.in_err-write_reply.ensures.cause

pub returns-clause-written : goal.returns-clause-written
returns-clause-written g c = record {
  reply = record { number = c.args.line.number; reply = line_reply_of c.args.input.now.model.names c.in_ok-reply.reply };
  is = record { number = refl; reply = c.in_ok-reply.ensures.reply };
  is_answered = c.is_answer.ensures c.args.input.now.model.names;
  written =
      subst (λ names. Appends (g.K.Sink.written c.args.out.now) (g.K.Sink.written c.write_reply.new.out)
      (reply_text c.args.line.number (line_reply_of names c.in_ok-reply.reply))) c.labels.ensures.names c.in_ok-write_reply.ensures.ok;
}

pub returns-clause-front : goal.returns-clause-front
returns-clause-front g c = record {
  reply = record { number = c.args.line.number; reply = line_reply_of c.args.input.now.model.names c.in_ok-reply.reply };
  is = record { number = refl; reply = c.in_ok-reply.ensures.reply };
  front =
      subst (λ names. WritesFront (reply_text c.args.line.number (line_reply_of names c.in_ok-reply.reply))
      (g.K.Sink.written c.args.out.now) (g.K.Sink.written c.write_reply.new.out)) c.labels.ensures.names
      c.in_ok-write_reply.ensures.front;
}
