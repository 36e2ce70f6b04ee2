-- The values that the rows have of an argument.
use Rattle.std.proofs.Common.{◌≡◌, ◌∙◌, ◌+◌, ◌≤◌, ◌||◌, ℕ, Bool, true, false, refl, sym, ap, subst, arith, zero, suc, List, [], ◌∷◌, ◌++◌, length, append-nil, append_assoc, Option, Some, None, true≢false}
use Rattle.std.specs.Str.{bytes_eq}
use Rattle.std.specs.List.{find}
use Rattle.std.specs.Prelude.{if◌then◌else◌, option_and_then, option_map, slice_get, unwrap_or}
use Rattle.std.proofs.Math.Bool.{or-false}
use Rattle.std.proofs.lemmas.Slice.Eq.{bytes_eq-Decides}
use Rattle.clap.specs.Walk.{Row, Text, all_of, first_of, has_row, stronger}
use Rattle.clap.specs.declared.parser.matches.ValueSource.{ValueSource}
use Rattle.clap.specs.declared.parser.matches.ValueSource.TheVariants.{CommandLine, DefaultValue}
use Rattle.clap.specs.declared.builder.value_parser.Reading.TheVariants.{AsWritten}
use Rattle.command_words.specs.declared.setting.Setting.{Setting}
use Rattle.command_words.specs.declared.setting.Setting.TheVariants.{Bits, Jumps, State, Watch, Workers}
use Rattle.command_words.specs.ClapCommand.{model_id}
use Rattle.command_words.specs.Flag.{flag_count}
use Rattle.command_words.specs.Parts.{Part, flag, given, is_same, plain, plain_words, values_of}
use Rattle.command_words.specs.Setting.{flag_name, name_of}
use Rattle.command_words.proofs.ClapRows.{ended, id_of, put, put_from, set_text, text_of, unset_text}
use Rattle.command_words.proofs.ClapWalk.{AreFresh, put_parts}

-- x is not y where a name is x and not y
not_both : (a x y : Text) → bytes_eq a y ≡ true → bytes_eq a x ≡ false → bytes_eq x y ≡ false
not_both a x y q h = go (bytes_eq x y) refl
  where
    go : (b : Bool) → bytes_eq x y ≡ b → b ≡ false
    go false r = refl
    go true r =
        let e : a ≡ x = (bytes_eq-Decides a y).0 q ∙ sym ((bytes_eq-Decides x y).0 r) in
        absurd (true≢false (sym ((bytes_eq-Decides a x).1 e) ∙ h))

-- the values of an argument
abbrev pub found : Text → List Row → List Text
found id rows = unwrap_or (all_of id rows) []

abbrev pub value_if : Bool → Text → List Text
value_if b value = if b then value ∷ [] else []

abbrev values_in : Option Row → List Text
values_in row = unwrap_or (option_map (λ (r : Row). r.values) row) []

-- the row that is found for id, by its first row and the others
pub found-cons : (id : Text) (r : Row) (rs : List Row) → found id (r ∷ rs) ≡ (if bytes_eq r.id id then r.values else found id rs)
found-cons id r rs = go (bytes_eq r.id id)
  where
    go : (b : Bool) → values_in (if b then Some r else find (λ (q : Row). bytes_eq q.id id) rs) ≡ (if b then r.values else found id rs)
    go true = refl
    go false = refl

-- the row of an argument's first value
abbrev first_row : ValueSource → Text → Text → Row
first_row source id value = record { id = id; values = value ∷ []; count = None; source = Some source; reading = AsWritten }

-- the row with one more value
abbrev pub more_row : ValueSource → Row → Text → Row
more_row source r value = record r { values = r.values ++ value ∷ []; source = Some (stronger r.source source) }

pub found-put_from : (source : ValueSource) (id other value : Text) (rows : List Row)
    → found id (put_from source other value rows) ≡ found id rows ++ value_if (bytes_eq other id) value
found-put_from source id other value [] = go (bytes_eq other id)
  where
    go : (b : Bool) → values_in (if b then Some (first_row source other value) else None) ≡ value_if b value
    go true = refl
    go false = refl
found-put_from source id other value (r ∷ rs) = here (bytes_eq r.id other) refl (found-put_from source id other value rs)
  where
    same : (b : Bool) → (if b then r.values ++ value ∷ [] else found id rs) ≡ (if b then r.values else found id rs) ++ value_if b value
    same true = refl
    same false = sym (append-nil (found id rs))

    kept : (b : Bool) → bytes_eq r.id id ≡ b → bytes_eq r.id other ≡ false
        → found id (put_from source other value rs) ≡ found id rs ++ value_if (bytes_eq other id) value
        → (if b then r.values else found id (put_from source other value rs))
        ≡ (if b then r.values else found id rs) ++ value_if (bytes_eq other id) value
    kept false q h more = more
    kept true q h more =
        let apart : bytes_eq other id ≡ false = not_both r.id other id q h in
        rw apart (sym (append-nil r.values))

    here : (b : Bool) → bytes_eq r.id other ≡ b
        → found id (put_from source other value rs) ≡ found id rs ++ value_if (bytes_eq other id) value
        → found id (if b then more_row source r value ∷ rs else r ∷ put_from source other value rs)
        ≡ found id (r ∷ rs) ++ value_if (bytes_eq other id) value
    here true h more =
        let e : r.id ≡ other = (bytes_eq-Decides r.id other).0 h in
        found-cons id (more_row source r value) rs
        ∙ same (bytes_eq r.id id)
        ∙ ap (λ z. z ++ value_if (bytes_eq r.id id) value) (sym (found-cons id r rs))
        ∙ ap (λ z. found id (r ∷ rs) ++ value_if (bytes_eq z id) value) e
    here false h more =
        found-cons id r (put_from source other value rs) ∙ kept (bytes_eq r.id id) refl h more
        ∙ ap (λ z. z ++ value_if (bytes_eq other id) value) (sym (found-cons id r rs))

found-put : (id other value : Text) (rows : List Row)
    → found id (put other value rows) ≡ found id rows ++ value_if (bytes_eq other id) value
found-put = found-put_from CommandLine

pub has_row-put : (id other value : Text) (rows : List Row) → has_row id (put other value rows) ≡ (has_row id rows || bytes_eq other id)
has_row-put id other value [] = or-false (bytes_eq other id)
has_row-put id other value (r ∷ rs) = here (bytes_eq r.id other) refl (has_row-put id other value rs)
  where
    absorbed : (a b : Bool) → (a || b) ≡ (a || b || a)
    absorbed true b = refl
    absorbed false true = refl
    absorbed false false = refl

    grouped : (a b c : Bool) → (a || (b || c)) ≡ (a || b || c)
    grouped true b c = refl
    grouped false b c = refl

    here : (b : Bool) → bytes_eq r.id other ≡ b → has_row id (put other value rs) ≡ (has_row id rs || bytes_eq other id)
        → has_row id (if b then more_row CommandLine r value ∷ rs else r ∷ put other value rs)
        ≡ (bytes_eq r.id id || has_row id rs || bytes_eq other id)
    here true h more =
        let e : r.id ≡ other = (bytes_eq-Decides r.id other).0 h in
        absorbed (bytes_eq r.id id) (has_row id rs) ∙ ap (λ z. bytes_eq r.id id || has_row id rs || bytes_eq z id) e
    here false h more = ap (λ z. bytes_eq r.id id || z) more ∙ grouped (bytes_eq r.id id) (has_row id rs) (bytes_eq other id)

-- ---- the values of the parts

abbrev pub texts_of : Text → List Part → List Text
texts_of id [] = []
texts_of id (part ∷ parts) = value_if (bytes_eq (id_of part) id) (text_of part) ++ texts_of id parts

pub found-put_parts : (id : Text) (parts : List Part) (rows : List Row)
    → found id (put_parts parts rows) ≡ found id rows ++ texts_of id parts
found-put_parts id [] rows = sym (append-nil (found id rows))
found-put_parts id (part ∷ parts) rows =
    found-put_parts id parts (put (id_of part) (text_of part) rows)
    ∙ ap (λ z. z ++ texts_of id parts) (found-put id (id_of part) (text_of part) rows)
    ∙ append_assoc (found id rows) (value_if (bytes_eq (id_of part) id) (text_of part)) (texts_of id parts)

pub model_apart : (s : Setting) → bytes_eq model_id (name_of s) ≡ false
model_apart Workers = refl
model_apart Bits = refl
model_apart Jumps = refl
model_apart Watch = refl
model_apart State = refl

pub name_apart : (s : Setting) → bytes_eq (name_of s) model_id ≡ false
name_apart Workers = refl
name_apart Bits = refl
name_apart Jumps = refl
name_apart Watch = refl
name_apart State = refl

pub flag_apart : (s : Setting) → bytes_eq flag_name (name_of s) ≡ false
flag_apart Workers = refl
flag_apart Bits = refl
flag_apart Jumps = refl
flag_apart Watch = refl
flag_apart State = refl

pub name_no_flag : (s : Setting) → bytes_eq (name_of s) flag_name ≡ false
name_no_flag Workers = refl
name_no_flag Bits = refl
name_no_flag Jumps = refl
name_no_flag Watch = refl
name_no_flag State = refl

pub option_texts : (s : Setting) (parts : List Part) → texts_of (name_of s) parts ≡ values_of s parts
option_texts s [] = refl
option_texts s (given t value ∷ parts) = ap (λ z. value_if (is_same t s) value ++ z) (option_texts s parts)
option_texts s (flag ∷ parts) = let e = flag_apart s in rw e (option_texts s parts)
option_texts s (plain word ∷ parts) = let e = model_apart s in rw e (option_texts s parts)

pub plain_texts : (parts : List Part) → texts_of model_id parts ≡ plain_words parts
plain_texts [] = refl
plain_texts (given t value ∷ parts) = let e = name_apart t in rw e (plain_texts parts)
plain_texts (flag ∷ parts) = plain_texts parts
plain_texts (plain word ∷ parts) = ap (λ z. word ∷ z) (plain_texts parts)

-- the text of the flag, n times
abbrev pub set_texts : ℕ → List Text
set_texts zero = []
set_texts (suc n) = set_text ∷ set_texts n

pub flag_texts : (parts : List Part) → texts_of flag_name parts ≡ set_texts (flag_count parts)
flag_texts [] = refl
flag_texts (given t value ∷ parts) =
    let e = name_no_flag t in
    let n : 0 + flag_count parts ≡ flag_count parts = omega arith in
    rw e (flag_texts parts ∙ ap set_texts (sym n))
flag_texts (flag ∷ parts) =
    let n : suc (flag_count parts) ≡ 1 + flag_count parts = omega arith in
    ap (λ z. set_text ∷ z) (flag_texts parts) ∙ ap set_texts n
flag_texts (plain word ∷ parts) =
    let n : 0 + flag_count parts ≡ flag_count parts = omega arith in
    flag_texts parts ∙ ap set_texts (sym n)

-- ---- no option is given twice, nor is the flag

-- the name of a setting, or that of the flag
abbrev pub key_of : Option Setting → Text
key_of (Some s) = name_of s
key_of None = flag_name

model_no_key : (k : Option Setting) → bytes_eq model_id (key_of k) ≡ false
model_no_key (Some s) = model_apart s
model_no_key None = refl

abbrev count_if : Bool → ℕ
count_if b = if b then 1 else 0

abbrev pub AreSingle : List Part → Type 0
AreSingle parts = (k : Option Setting) → length (texts_of (key_of k) parts) ≤ 1

abbrev HaveRoom : List Part → List Row → Type 0
HaveRoom parts rows = (k : Option Setting) → length (texts_of (key_of k) parts) + count_if (has_row (key_of k) rows) ≤ 1

no_room_before : (value : Text) (values : List Text) (had : Bool) → length (value ∷ values) + count_if had ≤ 1 → had ≡ false
no_room_before value values true room = absurd (omega arith)
no_room_before value values false room = refl

no_room_after : (same had : Bool) (value : Text) (values : List Text) → length (value_if same value ++ values) + count_if had ≤ 1
    → length values + count_if (had || same) ≤ 1
no_room_after true true value values room = absurd (omega arith)
no_room_after true false value values room = omega arith
no_room_after false true value values room = room
no_room_after false false value values room = room

same_key : (k : Option Setting) → bytes_eq (key_of k) (key_of k) ≡ true
same_key k = (bytes_eq-Decides (key_of k) (key_of k)).1 refl

-- a part of this key, with this text, comes first
module _ (key : Option Setting) (text : Text) (parts : List Part) (rows : List Row)
    (room : (k : Option Setting) → length (value_if (bytes_eq (key_of key) (key_of k)) text ++ texts_of (key_of k) parts)
    + count_if (has_row (key_of k) rows) ≤ 1) where
  none_yet : has_row (key_of key) rows ≡ false
  none_yet =
      let had = has_row (key_of key) rows in
      let later = texts_of (key_of key) parts in
      no_room_before text later had (subst (λ b. length (value_if b text ++ later) + count_if had ≤ 1) (same_key key) (room key))

  room_after : HaveRoom parts (put (key_of key) text rows)
  room_after k =
      let more = has_row-put (key_of k) (key_of key) text rows in
      subst (λ b. length (texts_of (key_of k) parts) + count_if b ≤ 1) (sym more)
      (no_room_after (bytes_eq (key_of key) (key_of k)) (has_row (key_of k) rows) text (texts_of (key_of k) parts) (room k))

fresh_with_room : (parts : List Part) (rows : List Row) → HaveRoom parts rows → AreFresh parts rows
fresh_with_room [] rows room = tt
fresh_with_room (given t value ∷ parts) rows room = (
  none_yet (Some t) value parts rows room,
  fresh_with_room parts (put (name_of t) value rows) (room_after (Some t) value parts rows room),
)
fresh_with_room (flag ∷ parts) rows room = (
  none_yet None set_text parts rows room,
  fresh_with_room parts (put flag_name set_text rows) (room_after None set_text parts rows room),
)
fresh_with_room (plain word ∷ parts) rows room = (tt, fresh_with_room parts (put model_id word rows) later)
  where
    later : HaveRoom parts (put model_id word rows)
    later k =
        let apart = model_no_key k in
        let same : has_row (key_of k) (put model_id word rows) ≡ has_row (key_of k) rows =
        has_row-put (key_of k) model_id word rows ∙ ap (λ z. has_row (key_of k) rows || z) apart ∙ or-false (has_row (key_of k) rows) in
        let texts : texts_of (key_of k) (plain word ∷ parts) ≡ texts_of (key_of k) parts = rw apart refl in
        subst (λ b. length (texts_of (key_of k) parts) + count_if b ≤ 1) (sym same)
        (subst (λ ts. length ts + count_if (has_row (key_of k) rows) ≤ 1) texts (room k))

pub fresh_where_single : (parts : List Part) → AreSingle parts → AreFresh parts []
fresh_where_single parts single = fresh_with_room parts [] (λ k. omega (arith, single k))

-- ---- what the getters read

pub first_of-found : (id : Text) (rows : List Row) → first_of id rows ≡ slice_get (found id rows) 0
first_of-found id rows = go (find (λ (r : Row). bytes_eq r.id id) rows)
  where
    go : (o : Option Row) → option_and_then (λ (r : Row). slice_get r.values 0) o ≡ slice_get (values_in o) 0
    go None = refl
    go (Some r) = refl

-- ---- the rows at the end

-- the default of the flag changes no other values
pub found-ended : (id : Text) (rows : List Row) → bytes_eq flag_name id ≡ false → found id (ended rows) ≡ found id rows
found-ended id rows apart = go (has_row flag_name rows)
  where
    go : (b : Bool) → found id (if b then rows else put_from DefaultValue flag_name unset_text rows) ≡ found id rows
    go true = refl
    go false = found-put_from DefaultValue id flag_name unset_text rows ∙ rw apart (append-nil (found id rows))
