use Rattle.std.proofs.Common.{◌<◌, false, length, ap, sym, ◌∙◌, arith}
use Rattle.std.proofs.lemmas.List.{get_or_default}
use Rattle.model_core.specs.StateNumber.{state_number}
use Rattle.text_lines.proofs.EntryReads.{read_none, read_more, read_all, next_fails}
use Rattle.text_lines.specs.EntryFault.{RepeatsKey}
use Rattle.text_lines.specs.EntryLines.{entry_of, entries_of}
use Rattle.text_lines.specs.Items.{row_of_line}
use Rattle.text_lines.specs.WordLines.{word_lines_in, word_lines_of}
use Rattle.text_lines.specs.declared.fault.FileWhat.TheVariants.{Repeated}
use Rattle.rew_reader.specs.RewardLines.{reward_lines}
use Rattle.rew_reader.proofs.MarkLemmas.{marks-none, marks-more, once-none, once-more}
use Rattle.rew_reader.proofs.Readings.{failing}
use Rattle.rew_reader.proofs.entries.read_entries.Goals as goal

pub loop-line-init : goal.loop-line-init
loop-line-init c =
    let none = c.new-entries.ensures.items in
    record {
      read = rw none (rw c.lines-rest.ensures.computed (read_none (reward_lines c.args.n) state_number (word_lines_of c.args.bytes.now)));
      once = rw none once-none;
      marks = rw none (marks-none c.args.n c.in_ok-has_entry.has_entry.items (c.in_ok-has_entry.ensures.items_if_clones_equal (λ y e. e)));
    }

pub returns-in-Err-clause-fault : goal.returns-in-Err-clause-fault
returns-in-Err-clause-fault c =
    let n = c.args.n in
    let rows = word_lines_of c.args.bytes.now in
    let entries = c.loop-line.entries.items in
    let known = c.loop-line.invariant in
    rw c.at.ensures
    (failing n rows c.in-Some.line.number c.in-Err.what
    (next_fails (reward_lines n) state_number rows (word_lines_in c.loop-line.rest) (word_lines_in c.next_filled.new.lines) entries
    (row_of_line c.in-Some.line) c.in-Err.what
    known.read known.once c.in-Some.ensures (c.in-Err.ensures.fault (entries_of state_number entries))))

pub index-requires : goal.index-requires
index-requires c = omega (arith, c.in-Ok.ensures.entry.is.key.in_range.1, c.loop-line.invariant.marks.long, c.loop-line.has_entry.ok.0)

pub returns-then-index-clause-fault : goal.returns-then-index-clause-fault
returns-then-index-clause-fault c =
    let n = c.args.n in
    let rows = word_lines_of c.args.bytes.now in
    let entries = c.loop-line.entries.items in
    let marks = c.loop-line.has_entry.items in
    let e = c.in-Ok.entry in
    let known = c.loop-line.invariant in
    let row = row_of_line c.in-Some.line in
    let within : c.in-Ok.entry.key < length c.loop-line.has_entry.items =
    omega (arith, c.in-Ok.ensures.entry.is.key.in_range.1, c.loop-line.invariant.marks.long)
    in
    let marked = get_or_default marks e.key false c.index.result.now within ∙ sym c.index.ensures ∙ c.if-index.true in
    let repeats : RepeatsKey (reward_lines n) (entries_of state_number entries) row =
    record { entry = entry_of state_number e; is = c.in-Ok.ensures.entry.is; earlier = known.marks.marked e.key marked } in
    rw c.at-then-index.ensures
    (next_fails (reward_lines n) state_number rows (word_lines_in c.loop-line.rest) (word_lines_in c.next_filled.new.lines) entries row
    Repeated
    known.read known.once c.in-Some.ensures repeats)

pub index_mut-requires : goal.index_mut-requires
index_mut-requires c = omega (arith, c.in-Ok.ensures.entry.is.key.in_range.1, c.loop-line.invariant.marks.long, c.loop-line.has_entry.ok.0)

pub loop-line-smaller : goal.loop-line-smaller
loop-line-smaller c =
    let fewer = ap length c.in-Some.ensures in
    omega arith

pub loop-line-preserved : goal.loop-line-preserved
loop-line-preserved c =
    let n = c.args.n in
    let entries = c.loop-line.entries.items in
    let marks = c.loop-line.has_entry.items in
    let e = c.in-Ok.entry in
    let known = c.loop-line.invariant in
    let state : c.in-Ok.entry.key < c.args.n = omega (arith, c.in-Ok.ensures.entry.is.key.in_range.1) in
    let within : c.in-Ok.entry.key < length c.loop-line.has_entry.items = omega (arith, c.loop-line.invariant.marks.long) in
    let unmarked = get_or_default marks e.key false c.index.result.now within ∙ sym c.index.ensures ∙ c.if-index.false in
    record {
      read = rw c.in_ok-push.ensures
          (read_more (reward_lines n) state_number (word_lines_of c.args.bytes.now) (word_lines_in c.loop-line.rest)
          (word_lines_in c.next_filled.new.lines) entries
          (row_of_line c.in-Some.line) e known.read c.in-Some.ensures c.in-Ok.ensures.entry);
      once = rw c.in_ok-push.ensures (once-more entries e known.once (known.marks.unmarked e.key state unmarked));
      marks = rw c.in_ok-push.ensures (marks-more n entries marks e state known.marks);
    }

pub returns-clause-read : goal.returns-clause-read
returns-clause-read c =
    let known = c.loop-line.invariant in
    read_all (reward_lines c.args.n) state_number (word_lines_of c.args.bytes.now)
    (word_lines_in c.loop-line.rest) c.loop-line.entries.items
    known.read c.in_default.ensures.0 known.once
