-- Clap's walk over words that are read as parts.
use Rattle.std.proofs.Common.{◌≡◌, ◌∙◌, Bool, cond, true, false, refl, sym, ap, subst, List, [], ◌∷◌, drop, map, None}
use Rattle.std.specs.List.{fold}
use Rattle.clap.specs.Walk.{Rule, Row, Held, Waiting, Walk, Text, default_rows, has_row, idle, nothing_held, positional, reading_by, settled, walk, walked}
use Rattle.clap.specs.Walk.{with_default}
use Rattle.clap.specs.Simple.{matches_of}
use Rattle.clap.specs.Takes.{takes, walk_passes}
use Rattle.command_words.specs.declared.setting.Setting.{Setting}
use Rattle.command_words.specs.declared.setting.Setting.TheVariants.{Bits, Jumps, State, Watch, Workers}
use Rattle.command_words.specs.ClapCommand.{app, model_id}
use Rattle.command_words.specs.Parts.{Part, ReadAs, flag_alone, next_word, no_word, plain, plain_word, same_word, two_hyphens}
use Rattle.command_words.specs.Setting.{flag_name, name_of}
use Rattle.command_words.proofs.ClapFlagWord.{flag_leads, flag_settles, flagged}
use Rattle.command_words.proofs.ClapFlags.{no_hyphen, plain_no_flag}
use Rattle.command_words.proofs.ClapOptions.{assigned, assigned_settles, assignment_leads, name_leads, value_leads, valued, valued_settles}
use Rattle.command_words.proofs.ClapPlainWords.{closed_leads, divider_leads, plain_leads, with_word, with_word_settles}
use Rattle.command_words.proofs.ClapRows.{IsFresh, ended, id_of, put, set_text, text_of}
use Rattle.command_words.proofs.ClapRules.{flag_arg, model_arg, option_arg, rules, shape}
use Rattle.command_words.proofs.ClapTurns.{IsFree, Leads, Settles, at}

abbrev pub put_parts : List Part → List Row → List Row
put_parts [] rows = rows
put_parts (part ∷ parts) rows = put_parts parts (put (id_of part) (text_of part) rows)

-- no option is given twice, nor once where it has a row already
abbrev pub AreFresh : List Part → List Row → Type 0
AreFresh [] rows = Unit {0}
AreFresh (part ∷ parts) rows = IsFresh part rows × AreFresh parts (put (id_of part) (text_of part) rows)

-- the walk passes all the words, and comes to these rows
pub record Reaches (w : Walk) (words : List Text) (rows : List Row) : Type 0 where
  pub passes : walk_passes shape [] w words ≡ true
  pub stopped : (fold (walked rules []) w words).stopped ≡ None
  pub settles : Settles (fold (walked rules []) w words).held rows

at_the_end : (is_trailing : Bool) (h : Held) (waiting : Waiting) (rows : List Row) → Settles h rows
    → Reaches (at is_trailing h waiting) [] rows
unfolding walk_passes
at_the_end is_trailing h waiting rows t = record { passes = refl; stopped = refl; settles = t }

one_more : {before : Walk} {word : Text} {after : Walk} → Leads before word after → (rest : List Text) (rows : List Row)
    → Reaches after rest rows → Reaches before (word ∷ rest) rows
unfolding walk_passes
one_more {before} {word} {after} l rest rows r =
    let next = sym l.walks in
    let turn = l.passes in
    let passes : walk_passes shape [] (walked rules [] before word) rest ≡ true =
    subst (λ (w : Walk). walk_passes shape [] w rest ≡ true) next r.passes in
    record {
      passes = rw (turn, passes) refl;
      stopped = subst (λ (w : Walk). (fold (walked rules []) w rest).stopped ≡ None) next r.stopped;
      settles = subst (λ (w : Walk). Settles (fold (walked rules []) w rest).held rows) next r.settles;
    }

-- after `--`
closed_walks : (words : List Text) (h : Held) (waiting : Waiting) (rows : List Row) → Settles h rows
    → Reaches (at true h waiting) words (put_parts (map plain words) rows)
closed_walks [] h waiting rows t = at_the_end true h waiting rows t
closed_walks (word ∷ rest) h waiting rows t =
    one_more (closed_leads h waiting word t.passes) rest (put_parts (map plain rest) (put model_id word rows))
    (closed_walks rest (with_word word h) positional (put model_id word rows) (with_word_settles word h rows t))

-- what is held once an option has its value in the next word
next_settles : (s : Setting) (value : Text) (h : Held) (rows : List Row) → Settles h rows → has_row (name_of s) rows ≡ false
    → Settles (valued s value (settled rules h).rows h.skip) (put (name_of s) value rows)
next_settles s value h rows t none =
    subst (λ rs. Settles (valued s value (settled rules h).rows h.skip) (put (name_of s) value rs)) t.settles
    (valued_settles s value (settled rules h).rows h.skip (ap (has_row (name_of s)) t.settles ∙ none))

walks : {words : List Text} {parts : List Part} → ReadAs words parts → (h : Held) (waiting : Waiting) (rows : List Row) → IsFree waiting
    → Settles h rows → AreFresh parts rows → Reaches (at false h waiting) words (put_parts parts rows)
walks no_word h waiting rows f t fresh = at_the_end false h waiting rows t
walks (next_word {s} {value} {rest} {parts} e r) h waiting rows f t fresh =
    let after = put (name_of s) value rows in
    one_more (name_leads s h waiting f t.passes) (value ∷ rest) (put_parts parts after)
    (one_more (value_leads s value (settled rules h).rows h.skip (no_hyphen value e)) rest (put_parts parts after)
    (walks r (valued s value (settled rules h).rows h.skip) idle after tt (next_settles s value h rows t fresh.0) fresh.1))
walks (same_word {s} {value} {rest} {parts} r) h waiting rows f t fresh =
    let after = put (name_of s) value rows in
    one_more (assignment_leads s value h waiting f t.passes (ap (has_row (name_of s)) t.settles ∙ fresh.0)) rest (put_parts parts after)
    (walks r (assigned s value h) idle after tt (assigned_settles s value h rows t fresh.0) fresh.1)
walks (flag_alone {rest} {parts} r) h waiting rows f t fresh =
    let after = put flag_name set_text rows in
    one_more (flag_leads h waiting f t.passes (ap (has_row flag_name) t.settles ∙ fresh.0)) rest (put_parts parts after)
    (walks r (flagged h) idle after tt (flag_settles h rows t fresh.0) fresh.1)
walks (plain_word {word} {rest} {parts} e r) h waiting rows f t fresh =
    let after = put model_id word rows in
    one_more (plain_leads h waiting word f (plain_no_flag word e) t.passes) rest (put_parts parts after)
    (walks r (with_word word h) positional after tt (with_word_settles word h rows t) fresh.1)
walks (two_hyphens {rest}) h waiting rows f t fresh =
    one_more (divider_leads h waiting f) rest (put_parts (map plain rest) rows) (closed_walks rest h waiting rows t)

-- an argument without a default
no_default : (a : Rule) (rows : List Row) → a.defaults ≡ [] → with_default rows a ≡ rows
no_default a rows e = go (has_row a.id rows)
  where
    go : (b : Bool) → cond b rows (default_rows a.id (reading_by a) a.defaults rows) ≡ rows
    go true = refl
    go false = rw e refl

abbrev HaveNoDefaults : List Rule → Type 0
HaveNoDefaults [] = Unit {0}
HaveNoDefaults (a ∷ rs) = (a.defaults ≡ []) × HaveNoDefaults rs

no_defaults : (rows : List Row) (rs : List Rule) → HaveNoDefaults rs → fold with_default rows rs ≡ rows
no_defaults rows [] none = refl
no_defaults rows (a ∷ rs) none = ap (λ z. fold with_default z rs) (no_default a rows none.0) ∙ no_defaults rows rs none.1

abbrev option_args : List Rule
option_args = option_arg Workers ∷ option_arg Bits ∷ option_arg Jumps ∷ option_arg Watch ∷ option_arg State ∷ []

options_no_defaults : HaveNoDefaults option_args
options_no_defaults = (refl, (refl, (refl, (refl, (refl, tt)))))

-- the flag alone has a default
flag_default : (rows : List Row) → fold with_default rows rules ≡ ended rows
flag_default rows =
    ap (λ z. with_default (with_default z flag_arg) model_arg) (no_defaults rows option_args options_no_defaults)
    ∙ no_default model_arg (with_default rows flag_arg) refl

-- ---- the whole command

module _ (words : List Text) (parts : List Part) (read : ReadAs (drop 1 words) parts) (fresh : AreFresh parts []) where
  whole_walk : Reaches (at false nothing_held idle) (drop 1 words) (put_parts parts [])
  whole_walk = walks read nothing_held idle [] tt (record { passes = refl; settles = refl }) fresh

  pub takes_words : takes app words ≡ true
  takes_words =
      let stopped : (walk rules [] nothing_held (drop 1 words)).stopped ≡ None = whole_walk.stopped in
      let passes = whole_walk.passes in
      let settles = whole_walk.settles.passes in
      rw (stopped, passes, settles) refl

  pub matches_words : matches_of app words ≡ ended (put_parts parts [])
  matches_words =
      ap (λ z. fold with_default z rules) whole_walk.settles.settles ∙ flag_default (put_parts parts [])
