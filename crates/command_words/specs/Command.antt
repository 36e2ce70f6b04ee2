-- A command, as its words say it.
use Rattle.std.specs.Prelude.{ℕ, ◌+◌, Bool, true, false, List, [], ◌∷◌, Option, Some, None, option_map, string_bytes}
use Rattle.command_words.specs.declared.setting.Setting.{Setting}
use Rattle.command_words.specs.declared.setting.Setting.TheVariants.{Workers, Bits, Jumps, Watch, State}
use Rattle.command_words.specs.declared.command.TheConstants.{CTMC, CMRM}
use Rattle.command_words.specs.declared.command.Kind.{Kind}
use Rattle.command_words.specs.declared.command.Kind.TheVariants.{Ctmc, Cmrm}
use Rattle.command_words.specs.declared.command.Options.{Options}
use Rattle.command_words.specs.declared.command.Command.{Command}
use Rattle.command_words.specs.Setting.{Text}

-- the kind of a model, the names of its files, and the options
pub record Spoken : Type 0 where
  pub kind : Kind
  pub tra : Text
  pub lab : Text
  pub rew : Option Text
  pub options : Options

-- a command, by its texts
abbrev pub spoken_by : Command → Spoken
spoken_by c = record {
  kind = c.kind;
  tra = string_bytes c.tra;
  lab = string_bytes c.lab;
  rew = option_map string_bytes c.rew;
  options = c.options;
}

abbrev pub kind_word : Kind → Text
kind_word Ctmc = CTMC.now
kind_word Cmrm = CMRM.now

abbrev pub has_rewards : Kind → Bool
has_rewards Ctmc = false
has_rewards Cmrm = true

abbrev pub text_in : Option Text → List Text
text_in None = []
text_in (Some text) = text ∷ []

-- the word of the kind, and the names of the files in their order
abbrev pub model_words : Spoken → List Text
model_words c = kind_word c.kind ∷ c.tra ∷ c.lab ∷ text_in c.rew

-- the number that an option's value writes; states are counted from 0, and written from 1
abbrev pub number_of : Setting → Options → ℕ
number_of Workers o = o.workers
number_of Bits o = o.bits
number_of Jumps o = o.jumps
number_of Watch o = o.watch
number_of State o = o.state + 1
