-- The options of the command line, and its flag.
use Rattle.std.specs.Prelude.{◌≡◌, ℕ, ◌≤◌, List, [], ◌∷◌, ◌++◌}
use Rattle.text_lines.specs.WholeNumber.{IsWholeNumber}
use Rattle.command_words.specs.declared.flag.TheConstants.{UNTIL_DECIDED}
use Rattle.command_words.specs.declared.setting.Setting.{Setting}
use Rattle.command_words.specs.declared.setting.Setting.TheVariants.{Workers, Bits, Jumps, Watch, State}
use Rattle.command_words.specs.declared.setting.Numbers.{Numbers}
use Rattle.command_words.specs.declared.setting.TheConstants.{WORKERS, BITS, JUMPS, WATCH, STATE}
use Rattle.command_words.specs.declared.setting.TheConstants.{WORKERS_NAME, BITS_NAME, JUMPS_NAME, WATCH_NAME, STATE_NAME}

abbrev pub Text : Type 0
Text = List ℕ

-- what the option is called
abbrev pub name_of : Setting → Text
name_of Workers = WORKERS_NAME.now
name_of Bits = BITS_NAME.now
name_of Jumps = JUMPS_NAME.now
name_of Watch = WATCH_NAME.now
name_of State = STATE_NAME.now

-- the option's word: `--`, which is the byte 45 twice, and its name
abbrev pub word_of : Setting → Text
word_of s = 45 ∷ 45 ∷ name_of s

-- the option's word, `=`, which is the byte 61, and a value, in one word
abbrev pub assignment_of : Setting → Text → Text
assignment_of s value = word_of s ++ 61 ∷ value

-- what the flag is called, and its word
abbrev pub flag_name : Text
flag_name = UNTIL_DECIDED.now

abbrev pub flag_word : Text
flag_word = 45 ∷ 45 ∷ flag_name

-- the least and the greatest number that the option may have, and the one that it has where it isn't given
abbrev pub numbers_of : Setting → Numbers
numbers_of Workers = WORKERS
numbers_of Bits = BITS
numbers_of Jumps = JUMPS
numbers_of Watch = WATCH
numbers_of State = STATE

-- the option may have the number
pub record IsInRange (s : Setting) (n : ℕ) : Type 0 where
  pub least : (numbers_of s).least ≤ n
  pub most : n ≤ (numbers_of s).most

-- the value is the whole number n, which the option may have
pub record IsValue (s : Setting) (value : Text) (n : ℕ) : Type 0 where
  pub whole : IsWholeNumber value n
  pub range : IsInRange s n

-- n is the number of an option that is given these values and no others: where there is none the default, and none where there are two
abbrev pub IsChosen : Setting → List Text → ℕ → Type 0
IsChosen s [] n = n ≡ (numbers_of s).default
IsChosen s (value ∷ []) n = IsValue s value n
IsChosen s (value ∷ again ∷ more) n = ⊥
