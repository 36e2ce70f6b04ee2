-- The text that stands for the flag at the end.
use Rattle.std.proofs.Common.{◌≡◌, ◌∙◌, ◌||◌, ◌++◌, Bool, true, false, refl, sym, ap, List, [], ◌∷◌, Some}
use Rattle.std.specs.Prelude.{if◌then◌else◌, option_and_then, option_map, slice_get}
use Rattle.std.specs.List.{find}
use Rattle.std.specs.Str.{bytes_eq}
use Rattle.clap.specs.Values.{bool_text, read_as}
use Rattle.clap.specs.Walk.{Row, Text, has_row, one_of, row_text}
use Rattle.clap.specs.declared.parser.matches.ValueSource.{ValueSource}
use Rattle.clap.specs.declared.parser.matches.ValueSource.TheVariants.{CommandLine, DefaultValue}
use Rattle.clap.specs.declared.builder.value_parser.Reading.TheVariants.{AsWritten}
use Rattle.command_words.specs.Flag.{flag_count, times}
use Rattle.command_words.specs.Parts.{Part}
use Rattle.command_words.specs.Setting.{flag_name}
use Rattle.command_words.proofs.ClapRows.{ended, id_of, put, put_from, text_of, unset_text}
use Rattle.command_words.proofs.ClapValues.{flag_texts, found, found-cons, found-put_from, found-put_parts, has_row-put, more_row, set_texts, texts_of, value_if}
use Rattle.command_words.proofs.ClapWalk.{put_parts}

-- ---- whether there is a row

abbrev has_text : List Text → Bool
has_text [] = false
has_text (text ∷ texts) = true

has_row-put_parts : (id : Text) (parts : List Part) (rows : List Row)
    → has_row id (put_parts parts rows) ≡ (has_row id rows || has_text (texts_of id parts))
has_row-put_parts id [] rows = go (has_row id rows)
  where
    go : (b : Bool) → b ≡ (b || false)
    go true = refl
    go false = refl
has_row-put_parts id (part ∷ parts) rows =
    has_row-put_parts id parts (put (id_of part) (text_of part) rows)
    ∙ ap (λ b. b || has_text (texts_of id parts)) (has_row-put id (id_of part) (text_of part) rows)
    ∙ go (has_row id rows) (bytes_eq (id_of part) id)
  where
    go : (had same : Bool) → (had || same || has_text (texts_of id parts))
        ≡ (had || has_text (value_if same (text_of part) ++ texts_of id parts))
    go true same = refl
    go false true = refl
    go false false = refl

-- ---- all values are read as they are written

abbrev AreWritten : List Row → Type 0
AreWritten [] = Unit {0}
AreWritten (r ∷ rs) = (r.reading ≡ AsWritten) × AreWritten rs

written-put : (source : ValueSource) (id value : Text) (rows : List Row) → AreWritten rows → AreWritten (put_from source id value rows)
written-put source id value [] written = (refl, tt)
written-put source id value (r ∷ rs) written = go (bytes_eq r.id id) (written-put source id value rs written.1)
  where
    go : (b : Bool) → AreWritten (put_from source id value rs)
        → AreWritten (if b then more_row source r value ∷ rs else r ∷ put_from source id value rs)
    go true later = (written.0, written.1)
    go false later = (written.0, later)

written-put_parts : (parts : List Part) (rows : List Row) → AreWritten rows → AreWritten (put_parts parts rows)
written-put_parts [] rows written = written
written-put_parts (part ∷ parts) rows written =
    written-put_parts parts (put (id_of part) (text_of part) rows) (written-put CommandLine (id_of part) (text_of part) rows written)

written-ended : (rows : List Row) → AreWritten rows → AreWritten (ended rows)
written-ended rows written = go (has_row flag_name rows)
  where
    go : (b : Bool) → AreWritten (if b then rows else put_from DefaultValue flag_name unset_text rows)
    go true = written
    go false = written-put DefaultValue flag_name unset_text rows written

one_of-found : (id : Text) (rows : List Row) → AreWritten rows → one_of id rows ≡ slice_get (found id rows) 0
one_of-found id [] written = refl
one_of-found id (r ∷ rs) written =
    go (bytes_eq r.id id) (one_of-found id rs written.1) ∙ ap (λ vs. slice_get vs 0) (sym (found-cons id r rs))
  where
    text : (values : List Text) → option_map (read_as AsWritten) (slice_get values 0) ≡ slice_get values 0
    text [] = refl
    text (value ∷ values) = refl

    here : row_text r ≡ slice_get r.values 0
    here = let e = written.0 in rw e (text r.values)

    go : (b : Bool) → one_of id rs ≡ slice_get (found id rs) 0
        → option_and_then row_text (if b then Some r else find (λ (q : Row). bytes_eq q.id id) rs)
        ≡ slice_get (if b then r.values else found id rs) 0
    go true later = here
    go false later = later

-- ---- the flag

module _ (parts : List Part) (b : Bool) (count : flag_count parts ≡ times b) where
  flag_given : texts_of flag_name parts ≡ set_texts (times b)
  flag_given = flag_texts parts ∙ ap set_texts count

  has_flag : has_row flag_name (put_parts parts []) ≡ b
  has_flag = has_row-put_parts flag_name parts [] ∙ ap has_text flag_given ∙ given_or_not b
    where
      given_or_not : (b : Bool) → has_text (set_texts (times b)) ≡ b
      given_or_not true = refl
      given_or_not false = refl

  flag_found : found flag_name (put_parts parts []) ≡ set_texts (times b)
  flag_found = found-put_parts flag_name parts [] ∙ flag_given

  flag_ended : found flag_name (ended (put_parts parts [])) ≡ bool_text b ∷ []
  flag_ended = let has = has_flag in rw has (go b flag_found)
    where
      go : (b : Bool) → found flag_name (put_parts parts []) ≡ set_texts (times b)
          → found flag_name (if b then put_parts parts [] else put_from DefaultValue flag_name unset_text (put_parts parts []))
          ≡ bool_text b ∷ []
      go true e = e
      go false e = found-put_from DefaultValue flag_name flag_name unset_text (put_parts parts []) ∙ ap (λ vs. vs ++ unset_text ∷ []) e

  pub flag_text : one_of flag_name (ended (put_parts parts [])) ≡ Some (bool_text b)
  flag_text =
      one_of-found flag_name (ended (put_parts parts [])) (written-ended (put_parts parts []) (written-put_parts parts [] tt))
      ∙ ap (λ vs. slice_get vs 0) flag_ended
