-- Whether words are a command can be decided.
use Rattle.std.proofs.Common.{◌≡◌, ℕ, false, ◌⊎◌, inl, inr, refl, sym, subst, arith, List, [], ◌∷◌, length, drop, Option, Some, None}
use Rattle.std.proofs.lemmas.Bool.{cases_lt, cases_eq}
use Rattle.decimal_text.proofs.NumberOrNot.{numeral_or_not}
use Rattle.text_lines.specs.WholeNumber.{whole_value}
use Rattle.command_words.specs.declared.place.Place.TheVariants.{Open}
use Rattle.command_words.specs.declared.scan.TheConstants.Given.{NONE}
use Rattle.command_words.specs.declared.scan.TheConstants.Seen.{NOTHING}
use Rattle.command_words.specs.declared.setting.Setting.{Setting}
use Rattle.command_words.specs.declared.setting.Setting.TheVariants.{Bits, Jumps, State, Watch, Workers}
use Rattle.command_words.specs.Flag.{flag_count}
use Rattle.command_words.specs.Laws.{WordsAreCommandOrNot}
use Rattle.command_words.specs.Parts.{Part, plain_words, values_of}
use Rattle.command_words.specs.Reading.{HaveParts, parts_from}
use Rattle.command_words.specs.Scan.{AreMissing, Completes, HasNumber, MayBeGiven, NameFiles, files_after, is_given}
use Rattle.command_words.specs.Setting.{IsInRange, Text, numbers_of}
use Rattle.command_words.specs.Words.{AreCommand}
use Rattle.command_words.proofs.CommandLemmas.{none_given, opening_parts, parts_of_command}

-- the number that a value writes is the one that its digits write
range_of_value : (s : Setting) (value : Text) (v : HasNumber s value) → IsInRange s (whole_value value)
range_of_value s value v = subst (IsInRange s) (sym v.1.whole.value) v.1.range

range_or_not : (s : Setting) (n : ℕ) → IsInRange s n ⊎ ¬ IsInRange s n
range_or_not s n =
    elim (cases_lt n (numbers_of s).least) [
      | inl below ↦ inr (λ r. omega (arith, below, r.least))
      | inr least ↦ elim (cases_lt (numbers_of s).most n) [
        | inl above ↦ inr (λ r. omega (arith, above, r.most))
        | inr most ↦ inl (record { least = least; most = most })
      ]
    ]

number_or_not : (s : Setting) (value : Text) → HasNumber s value ⊎ ¬ HasNumber s value
number_or_not s value =
    elim (numeral_or_not value) [
      | inr none ↦ inr (λ v. none v.1.whole.digits)
      | inl digits ↦ elim (range_or_not s (whole_value value)) [
        | inr out ↦ inr (λ v. out (range_of_value s value v))
        | inl range ↦ inl (whole_value value, record { whole = record { digits = digits; value = refl }; range = range })
      ]
    ]

option_or_not : (s : Setting) (values : List Text) → MayBeGiven s false values ⊎ ¬ MayBeGiven s false values
option_or_not s [] = inl tt
option_or_not s (value ∷ []) = number_or_not s value
option_or_not s (value ∷ again ∷ more) = inr (λ h. h)

missing_or_not : (missing : Option ℕ) (words : List Text) → AreMissing missing words ⊎ ¬ AreMissing missing words
missing_or_not None words = inr (λ h. h)
missing_or_not (Some n) words = cases_eq (length words) n

files_or_not : (words : List Text) → NameFiles None words ⊎ ¬ NameFiles None words
files_or_not [] = inr (λ h. h)
files_or_not (kind ∷ words) = missing_or_not (files_after kind) words

-- what can be decided of each option can be decided of all
all_or_not : (P : Setting → Type 0) → ((s : Setting) → P s ⊎ ¬ P s) → ((s : Setting) → P s) ⊎ ¬ ((s : Setting) → P s)
all_or_not P decide =
    elim (decide Workers) [
      | inr n ↦ inr (λ h. n (h Workers))
      | inl workers ↦ elim (decide Bits) [
        | inr n ↦ inr (λ h. n (h Bits))
        | inl bits ↦ elim (decide Jumps) [
          | inr n ↦ inr (λ h. n (h Jumps))
          | inl jumps ↦ elim (decide Watch) [
            | inr n ↦ inr (λ h. n (h Watch))
            | inl watch ↦ elim (decide State) [
              | inr n ↦ inr (λ h. n (h State))
              | inl state ↦ inl (each workers bits jumps watch state)
            ]
          ]
        ]
      ]
    ]
  where
    each : P Workers → P Bits → P Jumps → P Watch → P State → (s : Setting) → P s
    each w b j v t Workers = w
    each w b j v t Bits = b
    each w b j v t Jumps = j
    each w b j v t Watch = v
    each w b j v t State = t

parts_or_not : (parts : List Part) → Completes NOTHING parts ⊎ ¬ Completes NOTHING parts
parts_or_not parts =
    elim (files_or_not (plain_words parts)) [
      | inr none ↦ inr (λ c. none c.files)
      | inl files ↦ elim (all_or_not (λ s. MayBeGiven s (is_given NONE s) (values_of s parts)) (λ s. given_or_not s)) [
        | inr none ↦ inr (λ c. none c.options)
        | inl options ↦ elim (cases_lt 1 (flag_count parts)) [
          | inl twice ↦ inr (λ c. omega (arith, twice, c.flag))
          | inr once ↦ inl (record { files = files; options = options; flag = omega (arith, once) })
        ]
      ]
    ]
  where
    given_or_not : (s : Setting) → MayBeGiven s (is_given NONE s) (values_of s parts) ⊎ ¬ MayBeGiven s (is_given NONE s) (values_of s parts)
    given_or_not s =
        subst (λ b. MayBeGiven s b (values_of s parts) ⊎ ¬ MayBeGiven s b (values_of s parts)) (sym (none_given s))
        (option_or_not s (values_of s parts))

read_or_not : (o : Option (List Part)) → HaveParts (Completes NOTHING) o ⊎ ¬ HaveParts (Completes NOTHING) o
read_or_not None = inr (λ h. h)
read_or_not (Some parts) = parts_or_not parts

pub command_or_not : WordsAreCommandOrNot
command_or_not words = go (parts_from Open (drop 1 words)) refl (read_or_not (parts_from Open (drop 1 words)))
  where
    go : (o : Option (List Part)) → parts_from Open (drop 1 words) ≡ o → HaveParts (Completes NOTHING) o ⊎ ¬ HaveParts (Completes NOTHING) o
        → AreCommand words ⊎ ¬ AreCommand words
    go o e (inl parts) = inl (opening_parts words (subst (HaveParts (Completes NOTHING)) (sym e) parts))
    go o e (inr none) = inr (λ is. none (subst (HaveParts (Completes NOTHING)) e (parts_of_command words is)))
