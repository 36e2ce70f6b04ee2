-- What is wrong with a `.rew` file over n states, and at which line: the first check that fails, line by line.
use Rattle.std.specs.Prelude.{ℕ, List}
use Rattle.text_lines.specs.EntryFault.{HasFailingLine, HasLinePast}
use Rattle.text_lines.specs.WordLines.{WordLine, word_lines_of}
use Rattle.text_lines.specs.declared.fault.FileWhat.{FileWhat}
use Rattle.text_lines.specs.declared.fault.FileWhat.TheVariants as what
use Rattle.rew_reader.specs.RewardLines.{reward_lines}
use Rattle.rew_reader.specs.RewText.{AreWithin, HasTooLarge}

-- the lines of a text have this fault at the line of this number: all are right, and the reward of this one is the first that is too
-- large,
-- or this is the first line that is wrong
abbrev pub LinesHaveFault : ℕ → List WordLine → ℕ → FileWhat → Type 0
LinesHaveFault n lines number what.RewardScale = HasLinePast (reward_lines n) AreWithin HasTooLarge lines number
LinesHaveFault n lines number other = HasFailingLine (reward_lines n) lines number other

-- the text of a `.rew` file over n states has this fault at the line of this number, and none before
abbrev pub RewFaultAt : List ℕ → ℕ → ℕ → FileWhat → Type 0
RewFaultAt text n number fault = LinesHaveFault n (word_lines_of text) number fault
