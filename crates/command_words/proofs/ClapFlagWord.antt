-- Where the word of the flag leads clap's walk.
use Rattle.std.proofs.Common.{◌≡◌, ◌∙◌, false, true, refl, ap, List, [], None}
use Rattle.clap.specs.Walk.{Row, Held, Waiting, Text, idle, option, positional, has_row, reacted, settled, used, walked}
use Rattle.clap.specs.Takes.{settle_passes, turn_passes}
use Rattle.command_words.specs.Setting.{flag_name, flag_word}
use Rattle.command_words.proofs.ClapFlags.{IsFlag, flag_flag}
use Rattle.command_words.proofs.ClapRows.{put, set_text, used_flag}
use Rattle.command_words.proofs.ClapRules.{flag_arg, rules, shape}
use Rattle.command_words.proofs.ClapTurns.{IsFree, Leads, Settles, at}

-- what is held after the flag
abbrev pub flagged : Held → Held
flagged h = reacted rules flag_arg [] h

flag_walked : (h : Held) (waiting : Waiting) (word : Text) → IsFree waiting → IsFlag word flag_name None
    → walked rules [] (at false h waiting) word ≡ at false (flagged h) idle
unfolding walked
flag_walked h idle word f n =
    let d = n.divides in let l = n.long in
    rw (d, l) refl
flag_walked h positional word f n =
    let d = n.divides in let l = n.long in
    rw (d, l) refl
flag_walked h (option id) word f n = absurd f

flag_passes : (h : Held) (waiting : Waiting) (word : Text) → IsFree waiting → IsFlag word flag_name None
    → settle_passes rules false h ≡ true → has_row flag_name (settled rules h).rows ≡ false
    → turn_passes shape [] (at false h waiting) word ≡ true
flag_passes h idle word f n p none =
    let d = n.divides in let l = n.long in
    rw (d, l, p, none) refl
flag_passes h positional word f n p none =
    let d = n.divides in let l = n.long in
    rw (d, l, p, none) refl
flag_passes h (option id) word f n p none = absurd f

pub flag_leads : (h : Held) (waiting : Waiting) → IsFree waiting → settle_passes rules false h ≡ true
    → has_row flag_name (settled rules h).rows ≡ false → Leads (at false h waiting) flag_word (at false (flagged h) idle)
flag_leads h waiting f p none = record {
  passes = flag_passes h waiting flag_word f flag_flag p none;
  walks = flag_walked h waiting flag_word f flag_flag;
}

pub flag_settles : (h : Held) (rows : List Row) → Settles h rows → has_row flag_name rows ≡ false
    → Settles (flagged h) (put flag_name set_text rows)
flag_settles h rows t none = record {
  passes = refl;
  settles = ap (used flag_arg []) t.settles ∙ used_flag rows none;
}
