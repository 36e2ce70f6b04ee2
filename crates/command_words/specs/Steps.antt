-- What the scan's values say, by the texts that they borrow.
use Rattle.std.specs.Prelude.{List, Option, option_map}
use Rattle.std.specs.Borrow.{Bor}
use Rattle.command_words.specs.declared.place.Part.{Part as BorrowedPart}
use Rattle.command_words.specs.declared.place.Part.TheVariants.{Given, Flag, Plain}
use Rattle.command_words.specs.declared.place.Step.{Step as BorrowedStep}
use Rattle.command_words.specs.Setting.{Text}
use Rattle.command_words.specs.Parts.{Part, flag, given, plain}
use Rattle.command_words.specs.OneWord.{Step}
use Rattle.command_words.specs.Command.{text_in}

abbrev pub part_in : BorrowedPart → Part
part_in (Given s value) = given s value.now
part_in Flag = flag
part_in (Plain word) = plain word.now

abbrev pub step_in : BorrowedStep → Step
step_in step = record { place = step.place; part = option_map part_in step.part }

-- the text that is borrowed, if there is one
abbrev pub borrowed_in : Option (Bor Text) → List Text
borrowed_in text = text_in (option_map (λ t. t.now) text)
