use Rattle.std.proofs.Common.{length, arith, ap}
use Rattle.std.proofs.lemmas.List.{length_push}
use Rattle.text_lines.specs.WordLines.{word_lines_in}
use Rattle.text_lines.proofs.EntryReads.{read_none, read_more}
use Rattle.tra_reader.specs.Entries.{transition_lines}
use Rattle.tra_reader.specs.Pairs.{pair_of}
use Rattle.tra_reader.proofs.body.read_body.Goals as goal

pub loop-init : goal.loop-init
loop-init c =
    record {
      read = rw c.in_ok-entries.ensures.items
          (read_none (transition_lines c.args.head.states) pair_of (word_lines_in c.args.lines.now));
      counted =
          ap length c.in_ok-entries.ensures.items;
    }

pub loop-preserved : goal.loop-preserved
loop-preserved c =
    let known = c.loop.invariant in
    let next = c.in-Ok.ensures.entry in
    record {
      read =
          rw c.in_ok-push-in-Ok.ensures.items
          (read_more (transition_lines c.args.head.states) pair_of (word_lines_in c.args.lines.now) (word_lines_in c.loop.lines)
          (word_lines_in c.next_entry.new.lines)
          c.loop.entries.items next.line c.in-Ok.entry known.read next.first next.is);
      counted = rw c.in_ok-push-in-Ok.ensures.items (omega (arith, length_push c.loop.entries.items c.in-Ok.entry, known.counted));
    }

pub returns-in-Err : goal.returns-in-Err
returns-in-Err c =
    let known = c.loop.invariant in
    record {
      more = word_lines_in c.loop.lines;
      read = known.read;
      stops = c.in-Err.ensures.stop c.args.head.transitions (length c.loop.entries.items) (omega (arith, known.counted));
    }
