use Rattle.std.proofs.Common.{◌≡◌, take}
use Rattle.text_lines.specs.EntryLines.{entries_of}
use Rattle.tra_reader.specs.Pairs.{pair_of}
use Rattle.tra_reader.specs.TraText.{chain_rates}
use Rattle.tra_reader.proofs.rates.rates_of.Given as goal

abbrev pub invariant-loop-entry : goal.invariant-loop-entry
invariant-loop-entry l = l.rates.items ≡ chain_rates l.scale (entries_of pair_of (take l.entry-index l.entries))
