-- What the words of a command line say: options with their values, the flag, and plain words.
use Rattle.std.specs.Prelude.{◌≡◌, Bool, true, false, not, ◌==◌, ◌||◌, List, [], ◌∷◌, ◌++◌, map, if◌then◌else◌, codes}
use Rattle.std.specs.Str.{bytes_eq}
use Rattle.command_words.specs.declared.setting.Setting.{Setting}
use Rattle.command_words.specs.Setting.{Text, assignment_of, flag_word, name_of, word_of}

-- an option with its value, the flag, or a plain word
pub data Part : Type 0 where
  given : Setting → Text → Part
  flag : Part
  plain : Text → Part

-- the first byte is `-`, which is 45
abbrev pub begins_with_hyphen : Text → Bool
begins_with_hyphen [] = false
begins_with_hyphen (c ∷ cs) = c == 45

-- a word that doesn't begin with `-`, or the single `-`
abbrev pub is_plain : Text → Bool
is_plain word = not (begins_with_hyphen word) || bytes_eq word (codes "-")

-- Read from left to right, the words say these parts. Words for which there is no rule say nothing.
pub data ReadAs : List Text → List Part → Type 0 where
  no_word : ReadAs [] []
  -- the value of an option is the next word, which doesn't begin with `-`
  next_word : {s : Setting} {value : Text} {rest : List Text} {parts : List Part} → begins_with_hyphen value ≡ false
      → ReadAs rest parts → ReadAs (word_of s ∷ value ∷ rest) (given s value ∷ parts)
  -- an option that is followed directly by `=` has the rest of the word for its value
  same_word : {s : Setting} {value : Text} {rest : List Text} {parts : List Part}
      → ReadAs rest parts → ReadAs (assignment_of s value ∷ rest) (given s value ∷ parts)
  -- the flag has no value: the word behind it is read as any other
  flag_alone : {rest : List Text} {parts : List Part} → ReadAs rest parts → ReadAs (flag_word ∷ rest) (flag ∷ parts)
  plain_word : {word : Text} {rest : List Text} {parts : List Part} → is_plain word ≡ true
      → ReadAs rest parts → ReadAs (word ∷ rest) (plain word ∷ parts)
  -- after the first `--`, which is neither, all words are plain words, whatever they begin with
  two_hyphens : {rest : List Text} → ReadAs (codes "--" ∷ rest) (map plain rest)

-- two options are the same where their names are
abbrev pub is_same : Setting → Setting → Bool
is_same s t = bytes_eq (name_of s) (name_of t)

abbrev pub values_in : Setting → Part → List Text
values_in s (given t value) = if is_same t s then value ∷ [] else []
values_in s flag = []
values_in s (plain word) = []

-- the values that an option is given
abbrev pub values_of : Setting → List Part → List Text
values_of s [] = []
values_of s (part ∷ parts) = values_in s part ++ values_of s parts

abbrev pub plain_in : Part → List Text
plain_in (given s value) = []
plain_in flag = []
plain_in (plain word) = word ∷ []

-- the plain words
abbrev pub plain_words : List Part → List Text
plain_words [] = []
plain_words (part ∷ parts) = plain_in part ++ plain_words parts
