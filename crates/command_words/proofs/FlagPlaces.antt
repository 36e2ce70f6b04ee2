-- Where the flag may stand.
use Rattle.std.proofs.Common.{◌≡◌, ◌∙◌, ◌+◌, Bool, true, false, refl, sym, ap, subst, arith, List, [], ◌∷◌, ◌++◌, Option, Some, None}
use Rattle.std.specs.Option.{option_map}
use Rattle.command_words.specs.declared.place.Place.TheVariants.{Open}
use Rattle.command_words.specs.declared.setting.Setting.{Setting}
use Rattle.command_words.specs.declared.setting.Setting.TheVariants.{Bits, Jumps, State, Watch, Workers}
use Rattle.command_words.specs.Command.{Spoken, number_of}
use Rattle.command_words.specs.Flag.{flag_count, times}
use Rattle.command_words.specs.Laws.{AreOpen, FlagStandsAnywhere, LackTwoHyphens, SayWithFlag, with_flag}
use Rattle.command_words.specs.Parts.{Part, ReadAs, flag, flag_alone, given, next_word, no_word, plain, plain_in, plain_word, plain_words, same_word, two_hyphens, values_in, values_of}
use Rattle.command_words.specs.Reading.{parts_after, parts_from}
use Rattle.command_words.specs.Setting.{IsChosen, Text, flag_word}
use Rattle.command_words.specs.Words.{AreCommand, WordsSay}
use Rattle.command_words.proofs.CommandLemmas.{once_at_most}
use Rattle.command_words.proofs.ReadWords.{assignment_opens, flag_opens, later, option_opens, parts_read, plain_is_no_divider, read_parts, words_are_read_one_way}

-- ---- the words before the flag, and the rest

-- these parts, and those of the rest, if it has any
abbrev joined : List Part → Option (List Part) → Option (List Part)
joined parts rest = option_map (λ more. parts ++ more) rest

joined-none : (rest : Option (List Part)) → rest ≡ joined [] rest
joined-none None = refl
joined-none (Some more) = refl

joined-more : (part : Part) (parts : List Part) (rest : Option (List Part))
    → option_map (parts_after (Some part)) (joined parts rest) ≡ joined (part ∷ parts) rest
joined-more part parts None = refl
joined-more part parts (Some more) = refl

no_part : (rest : Option (List Part)) → option_map (parts_after None) rest ≡ rest
no_part None = refl
no_part (Some more) = refl

read_on : {before : List Text} {parts : List Part} → ReadAs before parts → LackTwoHyphens before → (rest : List Text)
    → parts_from Open (before ++ rest) ≡ joined parts (parts_from Open rest)
read_on no_word lack rest = joined-none (parts_from Open rest)
read_on (next_word {s} {value} {rest = before} {parts} e r) lack rest =
    let h = read_on r lack.1.1 rest in
    ap (later (value ∷ (before ++ rest))) (option_opens s)
    ∙ rw (e, h) (no_part _ ∙ joined-more (given s value) parts (parts_from Open rest))
read_on (same_word {s} {value} {rest = before} {parts} r) lack rest =
    let h = read_on r lack.1 rest in
    ap (later (before ++ rest)) (assignment_opens s value) ∙ rw h (joined-more (given s value) parts (parts_from Open rest))
read_on (flag_alone {rest = before} {parts} r) lack rest =
    let h = read_on r lack.1 rest in
    ap (later (before ++ rest)) flag_opens ∙ rw h (joined-more flag parts (parts_from Open rest))
read_on (plain_word {word} {rest = before} {parts} e r) lack rest =
    let d = plain_is_no_divider word e in let h = read_on r lack.1 rest in
    rw (d, e, h) (joined-more (plain word) parts (parts_from Open rest))
read_on two_hyphens lack rest = absurd (lack.0 refl)

-- the parts of the words with the flag between
record Between (before rest : List Text) (parts : List Part) : Type 0 where
  first : List Part
  more : List Part
  is : parts ≡ first ++ more
  read : ReadAs (before ++ flag_word ∷ rest) (first ++ flag ∷ more)

between : (before rest : List Text) (parts : List Part) → AreOpen before → ReadAs (before ++ rest) parts → Between before rest parts
between before rest parts opened r = go (parts_from Open rest) refl
  where
    first : List Part
    first = opened.0.0

    whole : joined first (parts_from Open rest) ≡ Some parts
    whole = sym (read_on opened.0.1 opened.1 rest) ∙ read_parts r

    go : (found : Option (List Part)) → parts_from Open rest ≡ found → Between before rest parts
    go None e = let none : joined first None ≡ Some parts = ap (joined first) (sym e) ∙ whole in cc
    go (Some more) e =
        let both : Some (first ++ more) ≡ Some parts = ap (joined first) (sym e) ∙ whole in
        let after : parts_from Open (flag_word ∷ rest) ≡ Some (flag ∷ more) = ap (later rest) flag_opens ∙ rw e refl in
        record {
          first = first;
          more = more;
          is = cc;
          read =
              parts_read (before ++ flag_word ∷ rest) (first ++ flag ∷ more)
              (read_on opened.0.1 opened.1 (flag_word ∷ rest) ∙ ap (joined first) after);
        }

-- ---- what the flag changes

values_between : (s : Setting) (first more : List Part) → values_of s (first ++ flag ∷ more) ≡ values_of s (first ++ more)
values_between s [] more = refl
values_between s (part ∷ first) more = ap (λ values. values_in s part ++ values) (values_between s first more)

words_between : (first more : List Part) → plain_words (first ++ flag ∷ more) ≡ plain_words (first ++ more)
words_between [] more = refl
words_between (part ∷ first) more = ap (λ words. plain_in part ++ words) (words_between first more)

count_between : (first more : List Part) → flag_count (first ++ flag ∷ more) ≡ 1 + flag_count (first ++ more)
count_between [] more = refl
count_between (part ∷ first) more = omega (arith, count_between first more)

same_number : (s : Setting) (c : Spoken) → number_of s c.options ≡ number_of s (with_flag c).options
same_number Workers c = refl
same_number Bits c = refl
same_number Jumps c = refl
same_number Watch c = refl
same_number State c = refl

-- ---- the law

module _ (name : Text) (before rest : List Text) (c : Spoken) (opened : AreOpen before) (say : WordsSay (name ∷ (before ++ rest)) c) where
  all : Between before rest say.parts
  all = between before rest say.parts opened say.read

  once_more : flag_count (all.first ++ flag ∷ all.more) ≡ 1 + times c.options.until_decided
  once_more = count_between all.first all.more ∙ ap (λ n. 1 + n) (ap flag_count (sym all.is) ∙ say.flag)

  say_with_flag : c.options.until_decided ≡ false → WordsSay (name ∷ (before ++ flag_word ∷ rest)) (with_flag c)
  say_with_flag unset = record {
    parts = all.first ++ flag ∷ all.more;
    read = all.read;
    model = words_between all.first all.more ∙ ap plain_words (sym all.is) ∙ say.model;
    rewards = say.rewards;
    options = λ s.
        let values : values_of s say.parts ≡ values_of s (all.first ++ flag ∷ all.more) =
        ap (values_of s) all.is ∙ sym (values_between s all.first all.more) in
        subst (λ vs. IsChosen s vs (number_of s (with_flag c).options)) values
        (subst (IsChosen s (values_of s say.parts)) (same_number s c) (say.options s));
    flag = once_more ∙ ap (λ b. 1 + times b) unset;
  }

  say_no_more : c.options.until_decided ≡ true → ¬ AreCommand (name ∷ (before ++ flag_word ∷ rest))
  say_no_more set command =
      let one_way : command.1.parts ≡ all.first ++ flag ∷ all.more = words_are_read_one_way _ _ _ command.1.read all.read in
      let twice : flag_count command.1.parts ≡ 1 + times true =
      ap flag_count one_way ∙ once_more ∙ ap (λ b. 1 + times b) set in
      absurd (omega (arith, twice, command.1.flag, once_at_most command.0.options.until_decided))

  by_flag : (set : Bool) → c.options.until_decided ≡ set → SayWithFlag set (name ∷ (before ++ flag_word ∷ rest)) c
  by_flag false unset = say_with_flag unset
  by_flag true set = say_no_more set

pub flag_stands_anywhere : FlagStandsAnywhere
flag_stands_anywhere name before rest c opened say = by_flag name before rest c opened say c.options.until_decided refl
