-- Which words are a command, and which command.
use Rattle.std.specs.Prelude.{◌≡◌, List, is_some, drop}
use Rattle.command_words.specs.declared.setting.Setting.{Setting}
use Rattle.command_words.specs.Setting.{Text, IsChosen}
use Rattle.command_words.specs.Parts.{Part, ReadAs, plain_words, values_of}
use Rattle.command_words.specs.Flag.{flag_count, times}
use Rattle.command_words.specs.Command.{Spoken, has_rewards, model_words, number_of}

-- the words say this command: the first word is the program's name, and isn't read; the plain words among the others are those of the
-- model, each option has its number, and the flag is given once where the command has it, and else not
pub record WordsSay (words : List Text) (c : Spoken) : Type 0 where
  pub parts : List Part
  pub read : ReadAs (drop 1 words) parts
  pub model : plain_words parts ≡ model_words c
  pub rewards : is_some c.rew ≡ has_rewards c.kind
  pub options : (s : Setting) → IsChosen s (values_of s parts) (number_of s c.options)
  pub flag : flag_count parts ≡ times c.options.until_decided

-- the words are a command
abbrev pub AreCommand : List Text → Type 0
AreCommand words = (c : Spoken) × WordsSay words c
