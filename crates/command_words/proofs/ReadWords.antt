-- Words are read as parts exactly where the places lead through them.
use Rattle.std.proofs.Common.{◌≡◌, ◌≢◌, ◌∙◌, Bool, cond, true, false, refl, sym, ap, subst, List, [], ◌∷◌, ◌++◌, Option, Some, None, map, codes, true≢false}
use Rattle.std.specs.Prelude.{option_and_then}
use Rattle.std.specs.Option.{option_map}
use Rattle.std.specs.Str.{bytes_eq}
use Rattle.std.proofs.lemmas.Slice.Eq.{bytes_eq-Decides}
use Rattle.command_words.specs.declared.place.Place.{Place}
use Rattle.command_words.specs.declared.place.Place.TheVariants.{Closed, Open, Value}
use Rattle.command_words.specs.declared.setting.Setting.{Setting}
use Rattle.command_words.specs.declared.setting.Setting.TheVariants.{Bits, Jumps, State, Watch, Workers}
use Rattle.command_words.specs.Laws.{AreRefused, FlagHasNoValue, LastWordIsNoOption, NoOtherWordIsRead, NoValueBeginsWithHyphen, WordsAreReadOneWay}
use Rattle.command_words.specs.OneWord.{Step, ends, goes_to, open_step, step_of}
use Rattle.command_words.specs.Parts.{Part, ReadAs, begins_with_hyphen, flag, flag_alone, given, is_plain, next_word, no_word, plain, plain_word, same_word, two_hyphens}
use Rattle.command_words.specs.Reading.{parts_after, parts_from}
use Rattle.command_words.specs.Setting.{Text, assignment_of, flag_word, word_of}
use Rattle.command_words.proofs.Openings.{Opens, assignment, divider, flag_one, opens, option_name, plain_one}

-- ---- what is read has its parts

pub option_opens : (s : Setting) → open_step (word_of s) ≡ Some (goes_to (Value s))
option_opens Workers = refl
option_opens Bits = refl
option_opens Jumps = refl
option_opens Watch = refl
option_opens State = refl

pub assignment_opens : (s : Setting) (value : Text) → open_step (assignment_of s value) ≡ Some (ends (given s value) Open)
assignment_opens Workers value = refl
assignment_opens Bits value = refl
assignment_opens Jumps value = refl
assignment_opens Watch value = refl
assignment_opens State value = refl

pub flag_opens : open_step flag_word ≡ Some (ends flag Open)
flag_opens = refl

-- a plain word isn't `--`
pub plain_is_no_divider : (word : Text) → is_plain word ≡ true → bytes_eq word (codes "--") ≡ false
plain_is_no_divider word e = go (bytes_eq word (codes "--")) refl
  where
    go : (b : Bool) → bytes_eq word (codes "--") ≡ b → b ≡ false
    go false h = refl
    go true h =
        let same : is_plain word ≡ false = ap is_plain ((bytes_eq-Decides word (codes "--")).0 h) in
        sym e ∙ same

closed_words : (rest : List Text) → parts_from Closed rest ≡ Some (map plain rest)
closed_words [] = refl
closed_words (word ∷ rest) = ap (option_map (λ parts. plain word ∷ parts)) (closed_words rest)

-- the parts after a step
abbrev pub later : List Text → Option Step → Option (List Part)
later rest = option_and_then (λ (step : Step). option_map (parts_after step.part) (parts_from step.place rest))

pub read_parts : {words : List Text} {parts : List Part} → ReadAs words parts → parts_from Open words ≡ Some parts
read_parts no_word = refl
read_parts (next_word {s} {value} {rest} {parts} e r) =
    let h = read_parts r in ap (later (value ∷ rest)) (option_opens s) ∙ rw (e, h) refl
read_parts (same_word {s} {value} {rest} {parts} r) =
    let h = read_parts r in ap (later rest) (assignment_opens s value) ∙ rw h refl
read_parts (flag_alone {rest} {parts} r) = let h = read_parts r in ap (later rest) flag_opens ∙ rw h refl
read_parts (plain_word {word} {rest} {parts} e r) =
    let d = plain_is_no_divider word e in let h = read_parts r in rw (d, e, h) refl
read_parts (two_hyphens {rest}) = let e = closed_words rest in rw e refl

-- ---- what has parts is read

-- the words from a place on say the parts
abbrev SayFrom : Place → List Text → List Part → Type 0
SayFrom Open words parts = ReadAs words parts
SayFrom (Value s) words parts = ReadAs (word_of s ∷ words) parts
SayFrom Closed words parts = parts ≡ map plain words

opened : {word : Text} {step : Step} → Opens word step → (rest : List Text) (parts : List Part) → SayFrom step.place rest parts
    → ReadAs (word ∷ rest) (parts_after step.part parts)
opened divider rest parts h = subst (λ ps. ReadAs (codes "--" ∷ rest) ps) (sym h) two_hyphens
opened (plain_one word q) rest parts h = plain_word q h
opened flag_one rest parts h = flag_alone h
opened (assignment s value) rest parts h = same_word h
opened (option_name s) rest parts h = h

one_word : (place : Place) (word : Text) (step : Step) → step_of place word ≡ Some step → (rest : List Text) (parts : List Part)
    → SayFrom step.place rest parts → SayFrom place (word ∷ rest) (parts_after step.part parts)
one_word Open word step e rest parts h = opened (opens word step e) rest parts h
one_word (Value s) word step e rest parts h = go (begins_with_hyphen word) refl e
  where
    go : (b : Bool) → begins_with_hyphen word ≡ b → cond b None (Some (ends (given s word) Open)) ≡ Some step
        → ReadAs (word_of s ∷ word ∷ rest) (parts_after step.part parts)
    go true q g = cc
    go false q g =
        let same : ends (given s word) Open ≡ step = cc in
        subst (λ (z : Step). ReadAs (word_of s ∷ word ∷ rest) (parts_after z.part parts)) same
        (next_word q (subst (λ (z : Step). SayFrom z.place rest parts) (sym same) h))
one_word Closed word step e rest parts h =
    let same : ends (plain word) Closed ≡ step = cc in
    subst (λ (z : Step). parts_after z.part parts ≡ map plain (word ∷ rest)) same
    (ap (λ ps. plain word ∷ ps) (subst (λ (z : Step). SayFrom z.place rest parts) (sym same) h))

abbrev SayAnywhere : List Text → Type 0
SayAnywhere words = (place : Place) (parts : List Part) → parts_from place words ≡ Some parts → SayFrom place words parts

say_nothing : SayAnywhere []
say_nothing Open parts e = let none : [] ≡ parts = cc in subst (λ ps. ReadAs [] ps) none no_word
say_nothing (Value s) parts e = cc
say_nothing Closed parts e = cc

say_more : (word : Text) (rest : List Text) → SayAnywhere rest → SayAnywhere (word ∷ rest)
say_more word rest more place parts e = stepped (step_of place word) refl e
  where
    read : (step : Step) (found : Option (List Part)) → step_of place word ≡ Some step → parts_from step.place rest ≡ found
        → option_map (parts_after step.part) found ≡ Some parts → SayFrom place (word ∷ rest) parts
    read step None q p g = cc
    read step (Some ps) q p g =
        let same : parts_after step.part ps ≡ parts = cc in
        subst (λ z. SayFrom place (word ∷ rest) z) same (one_word place word step q rest ps (more step.place ps p))

    stepped : (found : Option Step) → step_of place word ≡ found
        → option_and_then (λ (step : Step). option_map (parts_after step.part) (parts_from step.place rest)) found ≡ Some parts
        → SayFrom place (word ∷ rest) parts
    stepped None q g = cc
    stepped (Some step) q g = read step (parts_from step.place rest) q refl g

say_anywhere : (words : List Text) → SayAnywhere words
say_anywhere [] = say_nothing
say_anywhere (word ∷ rest) = say_more word rest (say_anywhere rest)

pub parts_read : (words : List Text) (parts : List Part) → parts_from Open words ≡ Some parts → ReadAs words parts
parts_read words parts e = say_anywhere words Open parts e

-- ---- the laws

pub words_are_read_one_way : WordsAreReadOneWay
words_are_read_one_way words parts others r q = let e = read_parts r in let f = read_parts q in cc

-- words without parts say nothing
none_read : (words : List Text) → parts_from Open words ≡ None → AreRefused words
none_read words e parts r = let f = read_parts r in cc

pub last_word_is_no_option : LastWordIsNoOption
last_word_is_no_option s = none_read (word_of s ∷ []) (ap (later []) (option_opens s))

pub no_value_begins_with_hyphen : NoValueBeginsWithHyphen
no_value_begins_with_hyphen s value rest e =
    none_read (word_of s ∷ value ∷ rest) (ap (later (value ∷ rest)) (option_opens s) ∙ rw e refl)

flag_value_opens : (value : Text) → open_step (flag_word ++ 61 ∷ value) ≡ None
flag_value_opens value = refl

pub flag_has_no_value : FlagHasNoValue
flag_has_no_value value rest = none_read ((flag_word ++ 61 ∷ value) ∷ rest) (ap (later rest) (flag_value_opens value))

other_word : {word : Text} {rest : List Text} {parts : List Part} → ReadAs (word ∷ rest) parts → is_plain word ≡ false
    → word ≢ codes "--" → word ≢ flag_word → ((s : Setting) → word ≢ word_of s)
    → ((s : Setting) (value : Text) → word ≢ assignment_of s value) → ⊥
other_word (next_word {s} h r) e no_hyphens no_flag no_option no_assignment = no_option s refl
other_word (same_word {s} {value} r) e no_hyphens no_flag no_option no_assignment = no_assignment s value refl
other_word (flag_alone r) e no_hyphens no_flag no_option no_assignment = no_flag refl
other_word (plain_word h r) e no_hyphens no_flag no_option no_assignment = true≢false (sym h ∙ e)
other_word two_hyphens e no_hyphens no_flag no_option no_assignment = no_hyphens refl

pub no_other_word_is_read : NoOtherWordIsRead
no_other_word_is_read word rest e no_hyphens no_flag no_option no_assignment parts r =
    other_word r e no_hyphens no_flag no_option no_assignment
