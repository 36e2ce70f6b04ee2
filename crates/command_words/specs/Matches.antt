-- The command that clap's matches hold.
use Rattle.std.specs.Prelude.{◌≡◌, List, Some, is_some, option_map}
use Rattle.clap.specs.Matches.{first_value, matched_of, one_text, raw_values}
use Rattle.clap.specs.Values.{bool_text}
use Rattle.clap.specs.declared.parser.matches.Found.{Found}
use Rattle.command_words.specs.declared.setting.Setting.{Setting}
use Rattle.command_words.specs.Setting.{Text, IsChosen, flag_name, name_of}
use Rattle.command_words.specs.Command.{Spoken, has_rewards, model_words, text_in, number_of}
use Rattle.command_words.specs.Words.{WordsSay}
use Rattle.command_words.specs.ClapCommand.{model_id}

-- the plain words, the options' values and the flag are those of the command
pub record HoldsCommand (f : Found) (c : Spoken) : Type 0 where
  pub model : option_map raw_values (matched_of f model_id) ≡ Some (model_words c)
  pub rewards : is_some c.rew ≡ has_rewards c.kind
  pub options : (s : Setting) → IsChosen s (text_in (first_value f (name_of s))) (number_of s c.options)
  pub flag : one_text f flag_name ≡ Some (bool_text c.options.until_decided)

-- the matches hold the command that the words are
abbrev pub HoldsCommandOf : List Text → Found → Type 0
HoldsCommandOf words f = (c : Spoken) → WordsSay words c → HoldsCommand f c

-- the matches hold some command
abbrev pub HoldsSome : Found → Type 0
HoldsSome f = (c : Spoken) × HoldsCommand f c
