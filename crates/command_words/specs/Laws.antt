-- What the laws say.
use Rattle.std.specs.Prelude.{◌≡◌, ◌≢◌, ◌+◌, Bool, true, false, ◌⊎◌, List, [], ◌∷◌, ◌++◌, codes}
use Rattle.command_words.specs.declared.setting.Setting.{Setting}
use Rattle.command_words.specs.declared.setting.Setting.TheVariants.{Workers, Bits, Jumps, Watch, State}
use Rattle.command_words.specs.declared.command.Options.{Options}
use Rattle.command_words.specs.Setting.{Text, IsInRange, assignment_of, flag_word, word_of}
use Rattle.command_words.specs.Parts.{Part, ReadAs, begins_with_hyphen, is_plain}
use Rattle.command_words.specs.Command.{Spoken}
use Rattle.command_words.specs.Words.{AreCommand, WordsSay}

-- words say one list of parts at most
abbrev pub WordsAreReadOneWay : Type 0
WordsAreReadOneWay = (words : List Text) (parts others : List Part) → ReadAs words parts → ReadAs words others → parts ≡ others

-- the words say nothing
abbrev pub AreRefused : List Text → Type 0
AreRefused words = (parts : List Part) → ¬ ReadAs words parts

-- an option at the end has no value
abbrev pub LastWordIsNoOption : Type 0
LastWordIsNoOption = (s : Setting) → AreRefused (word_of s ∷ [])

-- where the next word begins with `-`, an option has no value
abbrev pub NoValueBeginsWithHyphen : Type 0
NoValueBeginsWithHyphen =
    (s : Setting) (value : Text) (rest : List Text) → begins_with_hyphen value ≡ true → AreRefused (word_of s ∷ value ∷ rest)

-- the flag has no value in its word
abbrev pub FlagHasNoValue : Type 0
FlagHasNoValue = (value : Text) (rest : List Text) → AreRefused ((flag_word ++ 61 ∷ value) ∷ rest)

-- a word that begins with `-` and is longer than that is `--`, the flag's or has the word of an option, else it is refused
abbrev pub NoOtherWordIsRead : Type 0
NoOtherWordIsRead =
    (word : Text) (rest : List Text) → is_plain word ≡ false → word ≢ codes "--" → word ≢ flag_word
    → ((s : Setting) → word ≢ word_of s)
    → ((s : Setting) (value : Text) → word ≢ assignment_of s value)
    → AreRefused (word ∷ rest)

-- words say one command at most
abbrev pub WordsSayOneCommand : Type 0
WordsSayOneCommand = (words : List Text) (c d : Spoken) → WordsSay words c → WordsSay words d → c ≡ d

-- words are a command, or they are none
abbrev pub WordsAreCommandOrNot : Type 0
WordsAreCommandOrNot = (words : List Text) → AreCommand words ⊎ ¬ AreCommand words

-- each option has a number that it may have; states are counted from 0, and written from 1
pub record AreInRange (options : Options) : Type 0 where
  pub workers : IsInRange Workers options.workers
  pub bits : IsInRange Bits options.bits
  pub jumps : IsInRange Jumps options.jumps
  pub watch : IsInRange Watch options.watch
  pub state : IsInRange State (options.state + 1)

-- the options of a command are in their ranges
abbrev pub OptionsAreInRange : Type 0
OptionsAreInRange = (words : List Text) (c : Spoken) → WordsSay words c → AreInRange c.options

-- the command with the flag
abbrev pub with_flag : Spoken → Spoken
with_flag c = record c { options = record c.options { until_decided = true } }

-- none of the words is `--`
abbrev pub LackTwoHyphens : List Text → Type 0
LackTwoHyphens [] = Unit {0}
LackTwoHyphens (word ∷ words) = (word ≢ codes "--") × LackTwoHyphens words

-- after these words an option may stand: none waits for its value, and none of the words is `--`
abbrev pub AreOpen : List Text → Type 0
AreOpen words = ((parts : List Part) × ReadAs words parts) × LackTwoHyphens words

-- what words with one more flag say, by whether the command has the flag without it
abbrev pub SayWithFlag : Bool → List Text → Spoken → Type 0
SayWithFlag false words c = WordsSay words (with_flag c)
SayWithFlag true words c = ¬ AreCommand words

-- The flag may stand anywhere before `--`, but for an option's value: with it the words say the same command, and that it has the flag;
-- where it has the flag already, they say none.
abbrev pub FlagStandsAnywhere : Type 0
FlagStandsAnywhere =
    (name : Text) (before rest : List Text) (c : Spoken) → AreOpen before → WordsSay (name ∷ (before ++ rest)) c
    → SayWithFlag c.options.until_decided (name ∷ (before ++ flag_word ∷ rest)) c
