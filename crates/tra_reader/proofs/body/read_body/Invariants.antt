use Rattle.std.proofs.Common.{◌≡◌, length}
use Rattle.text_lines.specs.WordLines.{word_lines_in}
use Rattle.text_lines.specs.EntryLines.{HasRead}
use Rattle.tra_reader.specs.Entries.{transition_lines}
use Rattle.tra_reader.specs.Pairs.{pair_of}
use Rattle.tra_reader.proofs.body.read_body.Given as goal

abbrev pub invariant-loop : goal.invariant-loop
invariant-loop l = record {
  read : HasRead (transition_lines l.head.states) pair_of (word_lines_in l.initial.lines) l.entries.items (word_lines_in l.lines);
  counted : length l.entries.items ≡ l.counter;
}
