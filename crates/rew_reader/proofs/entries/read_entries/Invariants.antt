use Rattle.std.proofs.Common.{◌≢◌, length}
use Rattle.std.specs.List.{AllPairs}
use Rattle.model_core.specs.StateNumber.{state_number}
use Rattle.text_lines.specs.EntryLines.{HasRead}
use Rattle.text_lines.specs.WordLines.{word_lines_in, word_lines_of}
use Rattle.rew_reader.specs.RewardLines.{reward_lines}
use Rattle.rew_reader.proofs.MarkLemmas.{states, AreMarked}
use Rattle.rew_reader.proofs.entries.read_entries.Given as goal

abbrev pub invariant-loop-line : goal.invariant-loop-line
invariant-loop-line l = record {
  read : HasRead (reward_lines l.n) state_number (word_lines_of l.bytes) l.entries.items (word_lines_in l.rest);
  once : AllPairs ◌≢◌ (states l.entries.items);
  marks : AreMarked l.n l.entries.items l.has_entry.items;
}

abbrev pub decreases-loop-line : goal.decreases-loop-line
decreases-loop-line l = length (word_lines_in l.rest)
