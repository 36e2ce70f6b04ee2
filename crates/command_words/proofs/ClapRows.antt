-- The rows of clap's matches, a value at a time.
use Rattle.std.proofs.Common.{◌≡◌, ◌||◌, Bool, true, false, refl, ap, List, [], ◌∷◌, codes, true≢false}
use Rattle.std.specs.Prelude.{if◌then◌else◌}
use Rattle.std.specs.Str.{bytes_eq}
use Rattle.clap.specs.Walk.{Row, Text, has_row, used, with_values, without}
use Rattle.clap.specs.declared.parser.matches.ValueSource.{ValueSource}
use Rattle.clap.specs.declared.parser.matches.ValueSource.TheVariants.{CommandLine, DefaultValue}
use Rattle.clap.specs.declared.builder.value_parser.Reading.TheVariants.{AsWritten}
use Rattle.command_words.specs.declared.setting.Setting.{Setting}
use Rattle.command_words.specs.ClapCommand.{model_id}
use Rattle.command_words.specs.Parts.{Part, flag, given, plain}
use Rattle.command_words.specs.Setting.{flag_name, name_of}
use Rattle.command_words.proofs.ClapRules.{flag_arg, option_arg}

-- the rows with one more value of an argument
abbrev pub put_from : ValueSource → Text → Text → List Row → List Row
put_from source id value rows = with_values id AsWritten source (value ∷ []) rows

abbrev pub put : Text → Text → List Row → List Row
put = put_from CommandLine

-- what stands for the flag where it is given, and where it isn't
abbrev pub set_text : Text
set_text = codes "true"

abbrev pub unset_text : Text
unset_text = codes "false"

-- the rows at the end
abbrev pub ended : List Row → List Row
ended rows = if has_row flag_name rows then rows else put_from DefaultValue flag_name unset_text rows

abbrev pub id_of : Part → Text
id_of (given s value) = name_of s
id_of flag = flag_name
id_of (plain word) = model_id

abbrev pub text_of : Part → Text
text_of (given s value) = value
text_of flag = set_text
text_of (plain word) = word

-- an option that is given has no row yet, nor has the flag
abbrev pub IsFresh : Part → List Row → Type 0
IsFresh (given s value) rows = has_row (name_of s) rows ≡ false
IsFresh flag rows = has_row flag_name rows ≡ false
IsFresh (plain word) rows = Unit {0}

pub or_false : (a b : Bool) → (a || b) ≡ false → (a ≡ false) × (b ≡ false)
or_false true b e = absurd (true≢false e)
or_false false b e = (refl, e)

pub without_none : (id : Text) (rows : List Row) → has_row id rows ≡ false → without id rows ≡ rows
without_none id [] e = refl
without_none id (r ∷ rs) e =
    let both = or_false (bytes_eq r.id id) (has_row id rs) e in
    let here : bytes_eq r.id id ≡ false = both.0 in
    rw here (ap (λ rows. r ∷ rows) (without_none id rs both.1))

-- the first use of an option puts its value
pub used_first : (s : Setting) (value : Text) (rows : List Row) → has_row (name_of s) rows ≡ false
    → used (option_arg s) (value ∷ []) rows ≡ put (name_of s) value rows
used_first s value rows e = ap (put (name_of s) value) (without_none (name_of s) rows e)

pub used_flag : (rows : List Row) → has_row flag_name rows ≡ false → used flag_arg [] rows ≡ put flag_name set_text rows
used_flag rows e = ap (put flag_name set_text) (without_none flag_name rows e)
