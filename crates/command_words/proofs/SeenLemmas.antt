-- What one more part does to what was seen.
use Rattle.std.proofs.Common.{◌≡◌, ◌∙◌, ◌↔◌, ◌||◌, ◌++◌, ℕ, Bool, true, false, refl, sym, ap, subst, arith, List, [], ◌∷◌, length, Some}
use Rattle.std.specs.Prelude.{if◌then◌else◌}
use Rattle.std.proofs.lemmas.Slice.Eq.{bytes_eq-Decides}
use Rattle.command_words.specs.declared.scan.Given.{Given}
use Rattle.command_words.specs.declared.scan.Seen.{Seen}
use Rattle.command_words.specs.declared.setting.Setting.{Setting}
use Rattle.command_words.specs.declared.setting.Setting.TheVariants.{Bits, Jumps, State, Watch, Workers}
use Rattle.command_words.specs.OneWord.{named_by}
use Rattle.command_words.specs.Parts.{Part, flag, given, is_same, plain, plain_words, values_of}
use Rattle.command_words.specs.Flag.{times}
use Rattle.command_words.specs.Scan.{Completes, HasNumber, MayBeGiven, NameFiles, is_given}
use Rattle.command_words.specs.Setting.{Text, name_of, word_of}
use Rattle.command_words.proofs.ClapRules.{same_name}

-- an option is found by its word, so options of one name are the same
named_self : (s : Setting) → named_by (word_of s) ≡ Some s
named_self Workers = refl
named_self Bits = refl
named_self Jumps = refl
named_self Watch = refl
named_self State = refl

pub one_name : (s t : Setting) → is_same s t ≡ true → s ≡ t
one_name s t e =
    let names : name_of s ≡ name_of t = (bytes_eq-Decides (name_of s) (name_of t)).0 e in
    let found : Some s ≡ Some t = sym (named_self s) ∙ ap (λ (name : Text). named_by (45 ∷ 45 ∷ name)) names ∙ named_self t in
    cc

-- ---- a plain word

module _ (seen : Seen) (word : Text) where
  pub plain_goes_on : (n : ℕ) → ((words : List Text) → NameFiles seen.missing (word ∷ words) ↔ (length words ≡ n)) → (parts : List Part)
      → Completes seen (plain word ∷ parts) ↔ Completes (record seen { missing = Some n }) parts
  plain_goes_on n e parts = (
    λ c. record { files = (e (plain_words parts)).0 c.files; options = c.options; flag = omega (arith, c.flag) },
    λ c. record { files = (e (plain_words parts)).1 c.files; options = c.options; flag = omega (arith, c.flag) },
  )

  pub plain_stops : ((words : List Text) → ¬ NameFiles seen.missing (word ∷ words)) → (parts : List Part)
      → ¬ Completes seen (plain word ∷ parts)
  plain_stops e parts c = e (plain_words parts) c.files

-- ---- the flag

module _ (seen : Seen) (parts : List Part) where
  pub flag_goes_on : seen.until_decided ≡ false → Completes seen (flag ∷ parts) ↔ Completes (record seen { until_decided = true }) parts
  flag_goes_on unset =
      let none : times seen.until_decided ≡ 0 = ap times unset in (
        λ c. record { files = c.files; options = c.options; flag = omega (arith, c.flag, none) },
        λ c. record { files = c.files; options = c.options; flag = omega (arith, c.flag, none) },
      )

  pub flag_stops : seen.until_decided ≡ true → ¬ Completes seen (flag ∷ parts)
  flag_stops set c =
      let once : times seen.until_decided ≡ 1 = ap times set in
      absurd (omega (arith, c.flag, once))

-- ---- an option with its value

-- one more value of an option may come where it wasn't given, and writes a number
pub one_more : (s : Setting) (value : Text) (values : List Text) → HasNumber s value
    → MayBeGiven s false (value ∷ values) ↔ MayBeGiven s true values
one_more s value [] n = (λ h. tt, λ h. n)
one_more s value (again ∷ more) n = (λ h. h, λ h. h)

no_number : (s : Setting) (was : Bool) (value : Text) (values : List Text) → MayBeGiven s was (value ∷ values) → HasNumber s value
no_number s true value values h = absurd h
no_number s false value [] h = h
no_number s false value (again ∷ more) h = absurd h

module _ (seen : Seen) (t : Setting) (value : Text) where
  -- the value is the first of those that are still to come
  first_value : (parts : List Part) → Completes seen (given t value ∷ parts)
      → MayBeGiven t (is_given seen.given t) (value ∷ values_of t parts)
  first_value parts c =
      subst (λ b. MayBeGiven t (is_given seen.given t) ((if b then value ∷ [] else []) ++ values_of t parts)) (same_name t) (c.options t)

  pub twice_stops : is_given seen.given t ≡ true → (parts : List Part) → ¬ Completes seen (given t value ∷ parts)
  twice_stops e parts c = subst (λ b. MayBeGiven t b (value ∷ values_of t parts)) e (first_value parts c)

  pub no_number_stops : ¬ HasNumber t value → (parts : List Part) → ¬ Completes seen (given t value ∷ parts)
  no_number_stops none parts c = none (no_number t (is_given seen.given t) value (values_of t parts) (first_value parts c))

  module _ (after : Given) (first : is_given seen.given t ≡ false) (n : HasNumber t value)
      (marks : (s : Setting) → is_given after s ≡ (is_same t s || is_given seen.given s)) where
    one_option : (s : Setting) (values : List Text) (same : Bool) → is_same t s ≡ same
        → MayBeGiven s (is_given seen.given s) ((if same then value ∷ [] else []) ++ values)
        ↔ MayBeGiven s (same || is_given seen.given s) values
    one_option s values false q = (λ h. h, λ h. h)
    one_option s values true q =
        let is : t ≡ s = one_name t s q in
        let unseen : is_given seen.given s ≡ false = subst (λ z. is_given seen.given z ≡ false) is first in
        let number : HasNumber s value = subst (λ z. HasNumber z value) is n in
        rw unseen (one_more s value values number)

    each_option : (parts : List Part) (s : Setting)
        → MayBeGiven s (is_given seen.given s) (values_of s (given t value ∷ parts)) ↔ MayBeGiven s (is_given after s) (values_of s parts)
    each_option parts s =
        subst
        (λ b. MayBeGiven s (is_given seen.given s) (values_of s (given t value ∷ parts)) ↔ MayBeGiven s b (values_of s parts))
        (sym (marks s)) (one_option s (values_of s parts) (is_same t s) refl)

    pub given_goes_on : (parts : List Part) → Completes seen (given t value ∷ parts) ↔ Completes (record seen { given = after }) parts
    given_goes_on parts = (
      λ c. record { files = c.files; options = λ s. (each_option parts s).0 (c.options s); flag = omega (arith, c.flag) },
      λ c. record { files = c.files; options = λ s. (each_option parts s).1 (c.options s); flag = omega (arith, c.flag) },
    )
