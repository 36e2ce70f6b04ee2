use Rattle.std.proofs.Common.{true, refl, subst, sym, ◌∙◌, rules, ap}
use Rattle.model_core.specs.Model.{labelled_chain}
use Rattle.session.specs.FormulaLines.{formula_lines}
use Rattle.session.proofs.RepliesSoFar.{HasReplied, none_replied, front_replied, front_of_next, next_replied, end_replied}
use Rattle.session.proofs.replies.write_replies.Goals as goal

pub loop-line-init : goal.loop-line-init
loop-line-init g c =
    let input = c.args.input.now in
    let written = g.K.Sink.written c.args.out.now in
    record {
      replied =
          subst (λ l. HasReplied (labelled_chain input.model) input.options input.text.items written l written true)
          (sym (c.into_iter-line-iterator.ensures.into_iter_gives ∙ c.formula_lines-line-items.ensures
          ∙ ap formula_lines c.deref.ensures.value))
          (none_replied (labelled_chain input.model) input.options input.text.items written);
      flushed = refl;
      faultless = refl;
    }

pub returns-in_err-answered-clause-front : goal.returns-in_err-answered-clause-front
returns-in_err-answered-clause-front g c =
    let input = c.args.input.now in
    front_of_next (labelled_chain input.model) input.options input.text.items (g.K.Sink.written c.args.out.now) c.loop-line.line-iterator
    _ c.next.new.self c.in-Some.ensures.steps (g.K.Sink.written c.loop-line.out) c.loop-line.all_answered c.loop-line.invariant.replied
    (g.K.Sink.written c.reply_line.new.out) c.requires.options c.requires.state c.in_err-answered.ensures.front

pub loop-line-preserved : goal.loop-line-preserved
loop-line-preserved g c =
    let input = c.args.input.now in
    record {
      replied =
          next_replied (labelled_chain input.model) input.options input.text.items (g.K.Sink.written c.args.out.now)
          c.loop-line.line-iterator _ c.next.new.self c.in-Some.ensures.steps (g.K.Sink.written c.loop-line.out) c.loop-line.all_answered
          c.loop-line.invariant.replied (g.K.Sink.written c.reply_line.new.out) c.in_ok-answered.answered c.in_ok-answered.ensures.written;
      flushed = c.in_ok-answered.ensures.flushed ∙ c.loop-line.invariant.flushed;
      faultless = search rules;
    }

pub returns-clause-written : goal.returns-clause-written
returns-clause-written g c =
    let input = c.args.input.now in
    end_replied (labelled_chain input.model) input.options input.text.items (g.K.Sink.written c.args.out.now) c.loop-line.line-iterator
    c.in-None.ensures.steps.0 (g.K.Sink.written c.loop-line.out) c.loop-line.all_answered c.loop-line.invariant.replied

pub returns-clause-front : goal.returns-clause-front
returns-clause-front g c =
    let input = c.args.input.now in
    front_replied (labelled_chain input.model) input.options input.text.items (g.K.Sink.written c.args.out.now) c.requires.options
    c.requires.state c.loop-line.line-iterator (g.K.Sink.written c.loop-line.out) c.loop-line.all_answered c.loop-line.invariant.replied
