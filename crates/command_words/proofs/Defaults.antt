-- Options that aren't given have their defaults.
use Rattle.std.proofs.Common.{◌-◌, false, [], refl}
use Rattle.command_words.specs.declared.command.Options.{Options}
use Rattle.command_words.specs.declared.setting.Setting.{Setting}
use Rattle.command_words.specs.declared.setting.Setting.TheVariants.{Bits, Jumps, State, Watch, Workers}
use Rattle.command_words.specs.Command.{number_of}
use Rattle.command_words.specs.Setting.{IsChosen, numbers_of}

-- the options where none is given; states are counted from 0, and written from 1
abbrev pub default_options : Options
default_options = record {
  workers = (numbers_of Workers).default;
  bits = (numbers_of Bits).default;
  jumps = (numbers_of Jumps).default;
  watch = (numbers_of Watch).default;
  state = (numbers_of State).default - 1;
  until_decided = false;
}

pub default_is_chosen : (s : Setting) → IsChosen s [] (number_of s default_options)
default_is_chosen Workers = refl
default_is_chosen Bits = refl
default_is_chosen Jumps = refl
default_is_chosen Watch = refl
default_is_chosen State = refl
