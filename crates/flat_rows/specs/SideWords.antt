-- The words of a state of which maybe only one is a quotient of its row.
use Rattle.std.specs.Prelude.{◌^◌, List}
use Rattle.flat_rows.specs.declared.sides.Sides.{Sides}
use Rattle.flat_rows.specs.declared.sides.Sides.TheVariants.{Both, Low, High}
use Rattle.step_core.specs.declared.words.Words.{Words}
use Rattle.flat_rows.specs.PlacedRow.{PlacedRow}
use Rattle.flat_rows.specs.RowWords.{row_words_of}

-- the quotients on the sides; else an upper word is 1, a lower one 0
abbrev pub side_words : Sides → Words → Words
side_words Both words = words
side_words Low words = record { low = words.low; high = 2 ^ 62 }
side_words High words = record { low = 0; high = words.high }

-- the words of a placed row over a layer
abbrev pub placed_words : List Words → PlacedRow → Words
placed_words words placed = side_words placed.sides (row_words_of placed.row words)
