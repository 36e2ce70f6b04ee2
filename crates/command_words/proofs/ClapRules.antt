-- The arguments that clap's command has once it is built.
use Rattle.std.proofs.Common.{◌≡◌, true, refl, List, Some}
use Rattle.std.specs.Str.{bytes_eq}
use Rattle.std.proofs.lemmas.Slice.Eq.{bytes_eq-Decides}
use Rattle.clap.specs.Walk.{Rule, arg_by_id, arg_by_index, arg_by_long}
use Rattle.clap.specs.Simple.{Shape, built, filled, is_simple, with_index}
use Rattle.command_words.specs.declared.setting.Setting.{Setting}
use Rattle.command_words.specs.declared.setting.Setting.TheVariants.{Bits, Jumps, State, Watch, Workers}
use Rattle.command_words.specs.ClapCommand.{app, flag_rule, model_id, model_rule, option_rule}
use Rattle.command_words.specs.Setting.{name_of}

abbrev pub shape : Shape
shape = (built app).top

abbrev pub rules : List Rule
rules = shape.rules

-- the argument of a setting, that of the flag, and that of the plain words
abbrev pub option_arg : Setting → Rule
option_arg s = filled (option_rule s)

abbrev pub flag_arg : Rule
flag_arg = filled flag_rule

abbrev pub model_arg : Rule
model_arg = with_index 1 (filled model_rule)

pub simple : is_simple app ≡ true
simple = refl

pub by_long : (s : Setting) → arg_by_long rules (name_of s) ≡ Some (option_arg s)
by_long Workers = refl
by_long Bits = refl
by_long Jumps = refl
by_long Watch = refl
by_long State = refl

pub by_id : (s : Setting) → arg_by_id rules (name_of s) ≡ Some (option_arg s)
by_id Workers = refl
by_id Bits = refl
by_id Jumps = refl
by_id Watch = refl
by_id State = refl

pub model_by_id : arg_by_id rules model_id ≡ Some model_arg
model_by_id = refl

pub model_by_index : arg_by_index rules 1 ≡ Some model_arg
model_by_index = refl

pub same_name : (s : Setting) → bytes_eq (name_of s) (name_of s) ≡ true
same_name s = (bytes_eq-Decides (name_of s) (name_of s)).1 refl
