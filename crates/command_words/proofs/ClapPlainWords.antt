-- Where a plain word and `--` lead clap's walk.
use Rattle.std.proofs.Common.{◌≡◌, ◌&&◌, ◌||◌, Bool, cond, true, false, refl, ap, List, [], codes}
use Rattle.clap.specs.Walk.{Row, Held, Waiting, Text, idle, option, positional, is_pending, positional_held, pushed, settled, walked}
use Rattle.clap.specs.Takes.{positional_passes, settle_passes, turn_passes}
use Rattle.command_words.specs.ClapCommand.{model_id}
use Rattle.command_words.proofs.ClapFlags.{IsNoFlag}
use Rattle.command_words.proofs.ClapRows.{put}
use Rattle.command_words.proofs.ClapRules.{model_arg, rules, shape}
use Rattle.command_words.proofs.ClapTurns.{IsFree, Leads, Settles, at}

positional_held-model : (word : Text) (h : Held) → positional_held rules model_arg word h ≡ pushed model_id word (settled rules h)
positional_held-model word h = go (is_pending model_arg h.pending)
  where
    go : (b : Bool) → pushed model_id word (cond (b && false) h (settled rules h)) ≡ pushed model_id word (settled rules h)
    go true = refl
    go false = refl

positional_passes-model : (h : Held) → settle_passes rules false h ≡ true → positional_passes rules false model_arg h ≡ true
positional_passes-model h e = go (is_pending model_arg h.pending)
  where
    go : (b : Bool) → ((b && false) || settle_passes rules false h) ≡ true
    go true = e
    go false = e

-- what is held after a plain word
abbrev pub with_word : Text → Held → Held
with_word word h = pushed model_id word (settled rules h)

pub with_word_settles : (word : Text) (h : Held) (rows : List Row) → Settles h rows → Settles (with_word word h) (put model_id word rows)
with_word_settles word h rows s = record { passes = refl; settles = ap (put model_id word) s.settles }

closed_walked : (h : Held) (waiting : Waiting) (word : Text)
    → walked rules [] (at true h waiting) word ≡ at true (with_word word h) positional
unfolding walked
closed_walked h waiting word = ap (λ (k : Held). at true k positional) (positional_held-model word h)

pub closed_leads : (h : Held) (waiting : Waiting) (word : Text) → settle_passes rules false h ≡ true
    → Leads (at true h waiting) word (at true (with_word word h) positional)
closed_leads h waiting word e = record { passes = positional_passes-model h e; walks = closed_walked h waiting word }

plain_walked : (h : Held) (waiting : Waiting) (word : Text) → IsFree waiting → IsNoFlag word
    → walked rules [] (at false h waiting) word ≡ at false (with_word word h) positional
unfolding walked
plain_walked h idle word f n =
    let d = n.divides in let l = n.long in let s = n.short in
    rw (d, l, s) (ap (λ (k : Held). at false k positional) (positional_held-model word h))
plain_walked h positional word f n =
    let d = n.divides in let l = n.long in let s = n.short in
    rw (d, l, s) (ap (λ (k : Held). at false k positional) (positional_held-model word h))
plain_walked h (option id) word f n = absurd f

plain_passes : (h : Held) (waiting : Waiting) (word : Text) → IsFree waiting → IsNoFlag word → settle_passes rules false h ≡ true
    → turn_passes shape [] (at false h waiting) word ≡ true
plain_passes h idle word f n e =
    let d = n.divides in let l = n.long in let s = n.short in
    rw (d, l, s) (positional_passes-model h e)
plain_passes h positional word f n e =
    let d = n.divides in let l = n.long in let s = n.short in
    rw (d, l, s) (positional_passes-model h e)
plain_passes h (option id) word f n e = absurd f

pub plain_leads : (h : Held) (waiting : Waiting) (word : Text) → IsFree waiting → IsNoFlag word → settle_passes rules false h ≡ true
    → Leads (at false h waiting) word (at false (with_word word h) positional)
plain_leads h waiting word f n e = record { passes = plain_passes h waiting word f n e; walks = plain_walked h waiting word f n }

divider_walked : (h : Held) (waiting : Waiting) → IsFree waiting
    → walked rules [] (at false h waiting) (codes "--") ≡ at true h waiting
unfolding walked
divider_walked h idle f = refl
divider_walked h positional f = refl
divider_walked h (option id) f = absurd f

divider_passes : (h : Held) (waiting : Waiting) → IsFree waiting → turn_passes shape [] (at false h waiting) (codes "--") ≡ true
divider_passes h idle f = refl
divider_passes h positional f = refl
divider_passes h (option id) f = absurd f

pub divider_leads : (h : Held) (waiting : Waiting) → IsFree waiting → Leads (at false h waiting) (codes "--") (at true h waiting)
divider_leads h waiting f = record { passes = divider_passes h waiting f; walks = divider_walked h waiting f }
