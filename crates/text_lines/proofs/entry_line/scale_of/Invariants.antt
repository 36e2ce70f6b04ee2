use Rattle.std.proofs.Common.{◌≡◌, map, take}
use Rattle.decimal_text.specs.Scale.{greatest_decimals}
use Rattle.text_lines.specs.EntryLines.{value_of}
use Rattle.text_lines.proofs.entry_line.scale_of.Given as goal

abbrev pub invariant-loop-entry : goal.invariant-loop-entry
invariant-loop-entry g l = l.most ≡ greatest_decimals (map value_of (take l.entry-index l.entries))
