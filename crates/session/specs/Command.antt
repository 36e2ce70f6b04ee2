-- What the words say, and the files that a command names.
use Rattle.std.specs.Prelude.{ℕ, List, [], ◌∷◌, Option, Some, None}
use Rattle.command_words.specs.Command.{Spoken, text_in}
use Rattle.command_words.specs.Words.{AreCommand, WordsSay}

-- the words say this command, or they say none
abbrev pub IsCommandOf : List (List ℕ) → Option Spoken → Type 0
IsCommandOf words None = ¬ AreCommand words
IsCommandOf words (Some command) = WordsSay words command

-- P holds of the command that the words say, or of there being none
pub record Say (words : List (List ℕ)) (P : Option Spoken → Type 0) : Type 0 where
  pub command : Option Spoken
  pub said : IsCommandOf words command
  pub holds : P command

-- the names of a command's files, in their order; none where there is no command
abbrev pub names_of : Option Spoken → List (List ℕ)
names_of None = []
names_of (Some command) = command.tra ∷ command.lab ∷ text_in command.rew
