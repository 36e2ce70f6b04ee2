-- What the scan has still to find, where it has seen some of the parts.
use Rattle.std.specs.Prelude.{◌≡◌, ◌↔◌, ◌+◌, ◌≤◌, ℕ, Bool, true, false, List, [], ◌∷◌, length, Option, Some, None, if◌then◌else◌}
use Rattle.std.specs.Str.{bytes_eq}
use Rattle.command_words.specs.declared.setting.Setting.{Setting}
use Rattle.command_words.specs.declared.setting.Setting.TheVariants.{Workers, Bits, Jumps, Watch, State}
use Rattle.command_words.specs.declared.command.Kind.TheVariants.{Ctmc, Cmrm}
use Rattle.command_words.specs.declared.scan.Given.{Given}
use Rattle.command_words.specs.declared.scan.Seen.{Seen}
use Rattle.command_words.specs.Setting.{Text, IsValue}
use Rattle.command_words.specs.Command.{kind_word}
use Rattle.command_words.specs.Parts.{Part, plain_words, values_of}
use Rattle.command_words.specs.Flag.{flag_count, times}
use Rattle.command_words.specs.Reading.{parts_after}

-- how many names of files follow the word of a kind
abbrev pub files_after : Text → Option ℕ
files_after word = if bytes_eq word (kind_word Ctmc) then Some 2 else if bytes_eq word (kind_word Cmrm) then Some 3 else None

abbrev pub AreMissing : Option ℕ → List Text → Type 0
AreMissing None words = ⊥
AreMissing (Some n) words = length words ≡ n

-- the plain words that are still to come, where n names of files are missing; None before the kind
abbrev pub NameFiles : Option ℕ → List Text → Type 0
NameFiles None [] = ⊥
NameFiles None (word ∷ words) = AreMissing (files_after word) words
NameFiles (Some n) words = length words ≡ n

abbrev pub is_given : Given → Setting → Bool
is_given g Workers = g.workers
is_given g Bits = g.bits
is_given g Jumps = g.jumps
is_given g Watch = g.watch
is_given g State = g.state

-- the value writes a number that the option may have
abbrev pub HasNumber : Setting → Text → Type 0
HasNumber s value = (n : ℕ) × IsValue s value n

-- the values that are still to come of an option, where it was given or not: one at most
abbrev pub MayBeGiven : Setting → Bool → List Text → Type 0
MayBeGiven s was_given [] = Unit {0}
MayBeGiven s true (value ∷ more) = ⊥
MayBeGiven s false (value ∷ []) = HasNumber s value
MayBeGiven s false (value ∷ again ∷ more) = ⊥

-- after what was seen, these further parts make a command
pub record Completes (seen : Seen) (parts : List Part) : Type 0 where
  pub files : NameFiles seen.missing (plain_words parts)
  pub options : (s : Setting) → MayBeGiven s (is_given seen.given s) (values_of s parts)
  -- the flag is given once at most, in all
  pub flag : times seen.until_decided + flag_count parts ≤ 1

-- what is seen after one more part, if any: the same parts make a command after it as after both; nothing where none do
abbrev pub IsSeenAfter : Seen → Option Part → Option Seen → Type 0
IsSeenAfter seen part None = (parts : List Part) → ¬ Completes seen (parts_after part parts)
IsSeenAfter seen part (Some after) = (parts : List Part) → Completes seen (parts_after part parts) ↔ Completes after parts
