-- What clap's matches hold of words that are a command.
use Rattle.std.proofs.Common.{◌≡◌, ◌∙◌, ◌≤◌, ℕ, Bool, true, false, refl, sym, ap, subst, arith, List, [], ◌∷◌, length, Option, Some, None}
use Rattle.std.specs.Prelude.{slice_get, unwrap_or}
use Rattle.clap.specs.Walk.{Row, Text, all_of, one_of, rows_of}
use Rattle.clap.specs.Matches.{first_value, found_of, one_text}
use Rattle.clap.specs.Values.{bool_text}
use Rattle.clap.specs.Simple.{App, HasMatchesOf, is_simple, matches_of}
use Rattle.clap.specs.Takes.{takes}
use Rattle.clap.specs.declared.parser.matches.ArgMatches.{ArgMatches}
use Rattle.clap.specs.declared.parser.matches.Found.{Found}
use Rattle.clap.proofs.WalkLemmas.{first_value-rows, one_text-rows, raw_values-rows}
use Rattle.command_words.specs.declared.setting.Setting.{Setting}
use Rattle.command_words.specs.ClapCommand.{app, model_id}
use Rattle.command_words.specs.Command.{Spoken, model_words, number_of, text_in}
use Rattle.command_words.specs.Flag.{times}
use Rattle.command_words.specs.Matches.{HoldsCommand, HoldsCommandOf}
use Rattle.command_words.specs.Parts.{values_of}
use Rattle.command_words.specs.Setting.{IsChosen, flag_name, name_of}
use Rattle.command_words.specs.Words.{AreCommand, WordsSay}
use Rattle.command_words.proofs.ClapRows.{ended}
use Rattle.command_words.proofs.ClapRules.{simple}
use Rattle.command_words.proofs.ClapValues.{AreSingle, first_of-found, flag_apart, flag_texts, found, found-ended, found-put_parts, fresh_where_single, option_texts, plain_texts, set_texts, texts_of}
use Rattle.command_words.proofs.FlagValue.{flag_text}
use Rattle.command_words.proofs.ClapWalk.{matches_words, put_parts, takes_words}

-- an option that has a number has one value at most
chosen_single : (s : Setting) (values : List Text) (n : ℕ) → IsChosen s values n → length values ≤ 1
chosen_single s [] n h = omega arith
chosen_single s (value ∷ []) n h = omega arith
chosen_single s (value ∷ again ∷ more) n h = absurd h

one_text_at_most : (b : Bool) → length (set_texts (times b)) ≤ 1
one_text_at_most true = omega arith
one_text_at_most false = omega arith

command_single : (words : List Text) (c : Spoken) → (is : WordsSay words c) → AreSingle is.parts
command_single words c is (Some s) =
    let texts = option_texts s is.parts in
    subst (λ vs. length vs ≤ 1) (sym texts) (chosen_single s (values_of s is.parts) (number_of s c.options) (is.options s))
command_single words c is None =
    let texts : texts_of flag_name is.parts ≡ set_texts (times c.options.until_decided) = flag_texts is.parts ∙ ap set_texts is.flag in
    subst (λ vs. length vs ≤ 1) (sym texts) (one_text_at_most c.options.until_decided)

-- clap takes the words of a command
pub takes_command : (words : List Text) → AreCommand words → takes app words ≡ true
takes_command words (c, is) = takes_words words is.parts is.read (fresh_where_single is.parts (command_single words c is))

-- one value at most is the first value
one_value : (s : Setting) (values : List Text) (n : ℕ) → IsChosen s values n → text_in (slice_get values 0) ≡ values
one_value s [] n h = refl
one_value s (value ∷ []) n h = refl
one_value s (value ∷ again ∷ more) n h = absurd h

all_found : (id : Text) (rows : List Row) (value : Text) (values : List Text) → found id rows ≡ value ∷ values
    → all_of id rows ≡ Some (value ∷ values)
all_found id rows value values e = go (all_of id rows) e
  where
    go : (o : Option (List Text)) → unwrap_or o [] ≡ value ∷ values → o ≡ Some (value ∷ values)
    go None e = cc
    go (Some vs) e = ap Some e

module _ (words : List Text) (c : Spoken) (is : WordsSay words c) (f : Found) (e : rows_of f ≡ matches_of app words) where
  rows_are : rows_of f ≡ ended (put_parts is.parts [])
  rows_are = e ∙ matches_words words is.parts is.read (fresh_where_single is.parts (command_single words c is))

  model_found : found model_id (rows_of f) ≡ model_words c
  model_found =
      ap (found model_id) rows_are ∙ found-ended model_id (put_parts is.parts []) refl ∙ found-put_parts model_id is.parts []
      ∙ plain_texts is.parts ∙ is.model

  option_found : (s : Setting) → first_value f (name_of s) ≡ slice_get (values_of s is.parts) 0
  option_found s =
      first_value-rows f (name_of s) ∙ first_of-found (name_of s) (rows_of f)
      ∙ ap (λ vs. slice_get vs 0) (ap (found (name_of s)) rows_are ∙ found-ended (name_of s) (put_parts is.parts []) (flag_apart s)
      ∙ found-put_parts (name_of s) is.parts [] ∙ option_texts s is.parts)

  flag_found : one_text f flag_name ≡ Some (bool_text c.options.until_decided)
  flag_found = one_text-rows f flag_name ∙ ap (one_of flag_name) rows_are ∙ flag_text is.parts c.options.until_decided is.flag

  held : HoldsCommand f c
  held = record {
    model = raw_values-rows f model_id ∙ all_found model_id (rows_of f) _ _ model_found;
    rewards = is.rewards;
    options = λ s.
        subst (λ vs. IsChosen s vs (number_of s c.options))
        (sym (ap text_in (option_found s) ∙ one_value s (values_of s is.parts) (number_of s c.options) (is.options s))) (is.options s);
    flag = flag_found;
  }

pub holds_command : (a : App) (words : List Text) (m : ArgMatches) → a ≡ app → HasMatchesOf a words m → HoldsCommandOf words (found_of m)
holds_command a words m same h c is =
    let matches = h (ap is_simple same ∙ simple) in
    held words c is (found_of m) (matches.0 ∙ ap (λ z. matches_of z words) same)
