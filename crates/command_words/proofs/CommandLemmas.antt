-- The command that words are, by what the scan finds.
use Rattle.std.proofs.Common.{◌≡◌, ◌+◌, ◌-◌, ◌≤◌, ℕ, Bool, cond, true, false, refl, sym, subst, arith, zero, suc, List, [], ◌∷◌, length, drop, take, map, Option, Some, None, true≢false}
use Rattle.std.specs.Prelude.{is_some}
use Rattle.std.specs.Str.{bytes_eq}
use Rattle.std.proofs.Math.Seq.{take-length}
use Rattle.std.proofs.lemmas.Slice.Eq.{bytes_eq-Decides}
use Rattle.command_words.specs.declared.command.Kind.{Kind}
use Rattle.command_words.specs.declared.command.Kind.TheVariants.{Cmrm, Ctmc}
use Rattle.command_words.specs.declared.command.Options.{Options}
use Rattle.command_words.specs.declared.place.Place.TheVariants.{Open}
use Rattle.command_words.specs.declared.scan.TheConstants.Given.{NONE}
use Rattle.command_words.specs.declared.scan.TheConstants.Seen.{NOTHING}
use Rattle.command_words.specs.declared.setting.Setting.{Setting}
use Rattle.command_words.specs.declared.setting.Setting.TheVariants.{Bits, Jumps, State, Watch, Workers}
use Rattle.command_words.specs.Flag.{flag_count, times}
use Rattle.command_words.specs.Command.{Spoken, has_rewards, kind_word, model_words, number_of, text_in}
use Rattle.command_words.specs.Parts.{Part, plain_words, values_of}
use Rattle.command_words.specs.Reading.{HaveParts, parts_from}
use Rattle.command_words.specs.Scan.{AreMissing, Completes, MayBeGiven, NameFiles, is_given}
use Rattle.command_words.specs.Setting.{IsChosen, Text, numbers_of}
use Rattle.command_words.specs.Words.{AreCommand}
use Rattle.command_words.proofs.ReadWords.{parts_read, read_parts}

-- ---- options

chosen : (s : Setting) (values : List Text) → MayBeGiven s false values → (n : ℕ) × IsChosen s values n
chosen s [] h = ((numbers_of s).default, refl)
chosen s (value ∷ []) h = h
chosen s (value ∷ again ∷ more) h = absurd h

may_be_given : (s : Setting) (values : List Text) (n : ℕ) → IsChosen s values n → MayBeGiven s false values
may_be_given s [] n h = tt
may_be_given s (value ∷ []) n h = (n, h)
may_be_given s (value ∷ again ∷ more) n h = absurd h

state_is_counted : (values : List Text) (n : ℕ) → IsChosen State values n → 1 ≤ n
state_is_counted [] n h = omega (arith, h)
state_is_counted (value ∷ []) n h = h.range.least
state_is_counted (value ∷ again ∷ more) n h = absurd h

-- the options that these parts choose
pub record AreChosen (parts : List Part) : Type 0 where
  pub options : Options
  pub numbers : (s : Setting) → IsChosen s (values_of s parts) (number_of s options)
  pub flag : flag_count parts ≡ times options.until_decided

flag_chosen : (n : ℕ) → n ≤ 1 → (b : Bool) × (n ≡ times b)
flag_chosen zero h = (false, refl)
flag_chosen (suc zero) h = (true, refl)
flag_chosen (suc (suc n)) h = absurd (omega (arith, h))

options_chosen : (parts : List Part) → ((s : Setting) → MayBeGiven s false (values_of s parts)) → flag_count parts ≤ 1 → AreChosen parts
options_chosen parts may once = record { options = numbers; numbers = each; flag = (flag_chosen (flag_count parts) once).1 }
  where
    of : (s : Setting) → (n : ℕ) × IsChosen s (values_of s parts) n
    of s = chosen s (values_of s parts) (may s)

    numbers : Options
    numbers = record {
      workers = (of Workers).0;
      bits = (of Bits).0;
      jumps = (of Jumps).0;
      watch = (of Watch).0;
      state = (of State).0 - 1;
      until_decided = (flag_chosen (flag_count parts) once).0;
    }

    each : (s : Setting) → IsChosen s (values_of s parts) (number_of s numbers)
    each Workers = (of Workers).1
    each Bits = (of Bits).1
    each Jumps = (of Jumps).1
    each Watch = (of Watch).1
    each State =
        let counted = state_is_counted (values_of State parts) (of State).0 (of State).1 in
        let same : (of State).0 ≡ (of State).0 - 1 + 1 = omega arith in
        subst (IsChosen State (values_of State parts)) same (of State).1

-- ---- the model

-- the words are those of a model
pub record IsModel (words : List Text) : Type 0 where
  pub kind : Kind
  pub tra : Text
  pub lab : Text
  pub rew : Option Text
  pub is : words ≡ kind_word kind ∷ tra ∷ lab ∷ text_in rew
  pub rewards : is_some rew ≡ has_rewards kind

two_names : (words : List Text) → length words ≡ 2 → IsModel (kind_word Ctmc ∷ words)
two_names [] e = absurd (omega (arith, e))
two_names (a ∷ []) e = absurd (omega (arith, e))
two_names (a ∷ b ∷ []) e = record { kind = Ctmc; tra = a; lab = b; rew = None; is = refl; rewards = refl }
two_names (a ∷ b ∷ c ∷ more) e = absurd (omega (arith, e))

three_names : (words : List Text) → length words ≡ 3 → IsModel (kind_word Cmrm ∷ words)
three_names [] e = absurd (omega (arith, e))
three_names (a ∷ []) e = absurd (omega (arith, e))
three_names (a ∷ b ∷ []) e = absurd (omega (arith, e))
three_names (a ∷ b ∷ c ∷ []) e = record { kind = Cmrm; tra = a; lab = b; rew = Some c; is = refl; rewards = refl }
three_names (a ∷ b ∷ c ∷ d ∷ more) e = absurd (omega (arith, e))

model_named : (words : List Text) → NameFiles None words → IsModel words
model_named [] h = absurd h
model_named (kind ∷ words) h = ctmc (bytes_eq kind (kind_word Ctmc)) refl h
  where
    cmrm : (b : Bool) → bytes_eq kind (kind_word Cmrm) ≡ b → AreMissing (cond b (Some 3) None) words → IsModel (kind ∷ words)
    cmrm true q h = subst (λ k. IsModel (k ∷ words)) (sym ((bytes_eq-Decides kind (kind_word Cmrm)).0 q)) (three_names words h)
    cmrm false q h = absurd h

    ctmc : (b : Bool) → bytes_eq kind (kind_word Ctmc) ≡ b
        → AreMissing (cond b (Some 2) (cond (bytes_eq kind (kind_word Cmrm)) (Some 3) None)) words → IsModel (kind ∷ words)
    ctmc true q h = subst (λ k. IsModel (k ∷ words)) (sym ((bytes_eq-Decides kind (kind_word Ctmc)).0 q)) (two_names words h)
    ctmc false q h = cmrm (bytes_eq kind (kind_word Cmrm)) refl h

names_files : (kind : Kind) (tra lab : Text) (rew : Option Text) → is_some rew ≡ has_rewards kind
    → NameFiles None (kind_word kind ∷ tra ∷ lab ∷ text_in rew)
names_files Ctmc tra lab None e = refl
names_files Ctmc tra lab (Some name) e = absurd (true≢false e)
names_files Cmrm tra lab None e = absurd (true≢false (sym e))
names_files Cmrm tra lab (Some name) e = refl

-- ---- the command

-- nothing is given yet
pub none_given : (s : Setting) → is_given NONE s ≡ false
none_given Workers = refl
none_given Bits = refl
none_given Jumps = refl
none_given Watch = refl
none_given State = refl

-- all parts of a command are still to come
pub opening_parts : (words : List Text) → HaveParts (Completes NOTHING) (parts_from Open (drop 1 words)) → AreCommand words
opening_parts words h = go (parts_from Open (drop 1 words)) refl h
  where
    go : (o : Option (List Part)) → parts_from Open (drop 1 words) ≡ o → HaveParts (Completes NOTHING) o → AreCommand words
    go None e h = absurd h
    go (Some parts) e h =
        let m = model_named (plain_words parts) h.files in
        let once : flag_count parts ≤ 1 = omega (arith, h.flag) in
        let o = options_chosen parts (λ s. subst (λ b. MayBeGiven s b (values_of s parts)) (none_given s) (h.options s)) once in (
          record { kind = m.kind; tra = m.tra; lab = m.lab; rew = m.rew; options = o.options },
          record {
            parts = parts;
            read = parts_read (drop 1 words) parts e;
            model = m.is;
            rewards = m.rewards;
            options = o.numbers;
            flag = o.flag;
          },
        )

pub once_at_most : (b : Bool) → times b ≤ 1
once_at_most true = omega arith
once_at_most false = omega arith

completed : (parts : List Part) (c : Spoken) → plain_words parts ≡ model_words c → is_some c.rew ≡ has_rewards c.kind
    → ((s : Setting) → IsChosen s (values_of s parts) (number_of s c.options))
    → flag_count parts ≡ times c.options.until_decided → Completes NOTHING parts
completed parts c model rewards options given_once = record {
  files = subst (NameFiles None) (sym model) (names_files c.kind c.tra c.lab c.rew rewards);
  options = λ s.
      subst (λ b. MayBeGiven s b (values_of s parts)) (sym (none_given s))
      (may_be_given s (values_of s parts) (number_of s c.options) (options s));
  flag = omega (arith, given_once, once_at_most c.options.until_decided);
}

pub parts_of_command : (words : List Text) → AreCommand words → HaveParts (Completes NOTHING) (parts_from Open (drop 1 words))
parts_of_command words (c, is) =
    subst (HaveParts (Completes NOTHING)) (sym (read_parts is.read)) (completed is.parts c is.model is.rewards is.options is.flag)

-- ---- the words after the program's name

pub after_first_word : {X : Type 0} (text : X → Text) (words : List X)
    → map text (take (length words - 1) (drop 1 words)) ≡ drop 1 (map text words)
after_first_word text [] = refl
after_first_word text (x ∷ xs) =
    let e : suc (length xs) - 1 ≡ length xs = omega arith in
    rw (e, take-length xs) refl
