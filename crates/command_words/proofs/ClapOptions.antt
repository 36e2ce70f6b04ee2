-- Where the word of an option and its value lead clap's walk.
use Rattle.std.proofs.Common.{◌≡◌, ◌∙◌, ◌&&◌, ℕ, Bool, true, false, refl, ap, List, [], ◌∷◌, Some, None}
use Rattle.clap.specs.Walk.{Row, Held, Waiting, Text, idle, option, positional, has_row, reacted, settled, used, walked}
use Rattle.clap.specs.Takes.{settle_passes, turn_passes}
use Rattle.command_words.specs.declared.setting.Setting.{Setting}
use Rattle.command_words.specs.Setting.{assignment_of, name_of, word_of}
use Rattle.command_words.proofs.ClapFlags.{IsFlag, IsNoFlag, assignment_flag, name_flag}
use Rattle.command_words.proofs.ClapRows.{put, used_first}
use Rattle.command_words.proofs.ClapRules.{by_id, by_long, option_arg, rules, same_name, shape}
use Rattle.command_words.proofs.ClapTurns.{IsFree, Leads, Settles, at}

-- ---- an option's word

-- the option waits for its value
abbrev pub awaiting : Setting → List Row → ℕ → Held
awaiting s rows skip = record { rows = rows; pending = Some (name_of s, []); skip = skip }

abbrev pub after_name : Setting → Held → Held
after_name s h = awaiting s (settled rules h).rows h.skip

name_walked : (s : Setting) (h : Held) (waiting : Waiting) (word : Text) → IsFree waiting → IsFlag word (name_of s) None
    → walked rules [] (at false h waiting) word ≡ at false (after_name s h) (option (name_of s))
unfolding walked
name_walked s h idle word f n =
    let d = n.divides in let l = n.long in let e = by_long s in
    rw (d, l, e) refl
name_walked s h positional word f n =
    let d = n.divides in let l = n.long in let e = by_long s in
    rw (d, l, e) refl
name_walked s h (option id) word f n = absurd f

and_true : (b : Bool) → b ≡ true → (b && true) ≡ true
and_true b e = rw e refl

name_passes : (s : Setting) (h : Held) (waiting : Waiting) (word : Text) → IsFree waiting → IsFlag word (name_of s) None
    → settle_passes rules false h ≡ true → turn_passes shape [] (at false h waiting) word ≡ true
name_passes s h idle word f n p =
    let d = n.divides in let l = n.long in let e = by_long s in
    rw (d, l, e) (and_true _ p)
name_passes s h positional word f n p =
    let d = n.divides in let l = n.long in let e = by_long s in
    rw (d, l, e) (and_true _ p)
name_passes s h (option id) word f n p = absurd f

pub name_leads : (s : Setting) (h : Held) (waiting : Waiting) → IsFree waiting → settle_passes rules false h ≡ true
    → Leads (at false h waiting) (word_of s) (at false (after_name s h) (option (name_of s)))
name_leads s h waiting f p = record {
  passes = name_passes s h waiting (word_of s) f (name_flag s) p;
  walks = name_walked s h waiting (word_of s) f (name_flag s);
}

-- ---- its value in the next word

-- the option has its value
abbrev pub valued : Setting → Text → List Row → ℕ → Held
valued s value rows skip = record { rows = rows; pending = Some (name_of s, value ∷ []); skip = skip }

value_walked : (s : Setting) (value : Text) (rows : List Row) (skip : ℕ) → IsNoFlag value
    → walked rules [] (at false (awaiting s rows skip) (option (name_of s))) value ≡ at false (valued s value rows skip) idle
unfolding walked
value_walked s value rows skip n =
    let d = n.divides in let l = n.long in let t = n.short in let e = by_id s in let m = same_name s in
    rw (d, l, t, e, m) refl

value_passes : (s : Setting) (value : Text) (rows : List Row) (skip : ℕ) → IsNoFlag value
    → turn_passes shape [] (at false (awaiting s rows skip) (option (name_of s))) value ≡ true
value_passes s value rows skip n =
    let d = n.divides in let l = n.long in let t = n.short in
    rw (d, l, t) refl

pub value_leads : (s : Setting) (value : Text) (rows : List Row) (skip : ℕ) → IsNoFlag value
    → Leads (at false (awaiting s rows skip) (option (name_of s))) value (at false (valued s value rows skip) idle)
value_leads s value rows skip n = record {
  passes = value_passes s value rows skip n;
  walks = value_walked s value rows skip n;
}

pub valued_settles : (s : Setting) (value : Text) (rows : List Row) (skip : ℕ) → has_row (name_of s) rows ≡ false
    → Settles (valued s value rows skip) (put (name_of s) value rows)
valued_settles s value rows skip none =
    let e = by_id s in
    record {
      passes = rw (e, none) refl;
      settles = rw e (used_first s value rows none);
    }

-- ---- its value in the same word

assignment_walked : (s : Setting) (value : Text) (h : Held) (waiting : Waiting) (word : Text) → IsFree waiting
    → IsFlag word (name_of s) (Some value)
    → walked rules [] (at false h waiting) word ≡ at false (reacted rules (option_arg s) (value ∷ []) h) idle
unfolding walked
assignment_walked s value h idle word f n =
    let d = n.divides in let l = n.long in let e = by_long s in
    rw (d, l, e) refl
assignment_walked s value h positional word f n =
    let d = n.divides in let l = n.long in let e = by_long s in
    rw (d, l, e) refl
assignment_walked s value h (option id) word f n = absurd f

assignment_passes : (s : Setting) (value : Text) (h : Held) (waiting : Waiting) (word : Text) → IsFree waiting
    → IsFlag word (name_of s) (Some value) → settle_passes rules false h ≡ true → has_row (name_of s) (settled rules h).rows ≡ false
    → turn_passes shape [] (at false h waiting) word ≡ true
assignment_passes s value h idle word f n p none =
    let d = n.divides in let l = n.long in let e = by_long s in
    rw (d, l, e, p, none) refl
assignment_passes s value h positional word f n p none =
    let d = n.divides in let l = n.long in let e = by_long s in
    rw (d, l, e, p, none) refl
assignment_passes s value h (option id) word f n p none = absurd f

-- what is held after an assignment
abbrev pub assigned : Setting → Text → Held → Held
assigned s value h = reacted rules (option_arg s) (value ∷ []) h

pub assignment_leads : (s : Setting) (value : Text) (h : Held) (waiting : Waiting) → IsFree waiting → settle_passes rules false h ≡ true
    → has_row (name_of s) (settled rules h).rows ≡ false
    → Leads (at false h waiting) (assignment_of s value) (at false (assigned s value h) idle)
assignment_leads s value h waiting f p none = record {
  passes = assignment_passes s value h waiting (assignment_of s value) f (assignment_flag s value) p none;
  walks = assignment_walked s value h waiting (assignment_of s value) f (assignment_flag s value);
}

pub assigned_settles : (s : Setting) (value : Text) (h : Held) (rows : List Row) → Settles h rows → has_row (name_of s) rows ≡ false
    → Settles (assigned s value h) (put (name_of s) value rows)
assigned_settles s value h rows t none = record {
  passes = refl;
  settles = ap (used (option_arg s) (value ∷ [])) t.settles ∙ used_first s value rows none;
}
