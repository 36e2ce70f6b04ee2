-- What one more word does, at the place where the words before have led.
use Rattle.std.specs.Prelude.{ℕ, Bool, ◌==◌, if◌then◌else◌, Option, Some, None, find, option_map, codes}
use Rattle.std.specs.List.{list_any, before_first, after_first}
use Rattle.std.specs.Str.{bytes_eq}
use Rattle.command_words.specs.declared.setting.Setting.{Setting}
use Rattle.command_words.specs.declared.setting.TheConstants.{SETTINGS}
use Rattle.command_words.specs.declared.place.Place.{Place}
use Rattle.command_words.specs.declared.place.Place.TheVariants.{Open, Value, Closed}
use Rattle.command_words.specs.Setting.{Text, flag_word, word_of}
use Rattle.command_words.specs.Parts.{Part, begins_with_hyphen, flag, given, is_plain, plain}

-- what one more word does: the place after it, and the part that it ends, if any
pub record Step : Type 0 where
  pub place : Place
  pub part : Option Part

abbrev pub goes_to : Place → Step
goes_to place = record { place = place; part = None }

abbrev pub ends : Part → Place → Step
ends part place = record { place = place; part = Some part }

-- the option whose word this is
abbrev pub named_by : Text → Option Setting
named_by word = find (λ s. bytes_eq (word_of s) word) SETTINGS

-- the byte is `=`
abbrev pub is_equals : ℕ → Bool
is_equals c = c == 61

-- an option's word, whose value is the next word
abbrev pub option_step : Option Setting → Option Step
option_step = option_map (λ s. goes_to (Value s))

-- an option's word, `=` and its value
abbrev pub assignment_step : Option Setting → Text → Option Step
assignment_step named value = option_map (λ s. ends (given s value) Open) named

-- before `--`, where no option waits for its value: `--` itself, a plain word, the flag, an option with its value, or an option
abbrev pub open_step : Text → Option Step
open_step word =
    if bytes_eq word (codes "--") then Some (goes_to Closed)
    else if is_plain word then Some (ends (plain word) Open)
    else if bytes_eq word flag_word then Some (ends flag Open)
    else if list_any is_equals word then assignment_step (named_by (before_first is_equals word)) (after_first is_equals word)
    else option_step (named_by word)

-- where an option waits for its value
abbrev pub value_step : Setting → Text → Option Step
value_step s word = if begins_with_hyphen word then None else Some (ends (given s word) Open)

abbrev pub step_of : Place → Text → Option Step
step_of Open word = open_step word
step_of (Value s) word = value_step s word
step_of Closed word = Some (ends (plain word) Closed)
