-- One turn of clap's walk.
use Rattle.std.proofs.Common.{◌≡◌, Bool, true, false, List, [], None}
use Rattle.clap.specs.Walk.{Row, Held, Waiting, Walk, Text, idle, option, positional, settled, walked}
use Rattle.clap.specs.Takes.{settle_passes, turn_passes}
use Rattle.command_words.proofs.ClapRules.{rules, shape}

-- the walk before a word, before or after `--`
abbrev pub at : Bool → Held → Waiting → Walk
at is_trailing h waiting = record { held = h; waiting = waiting; position = 1; is_trailing = is_trailing; stopped = None }

-- no option waits for a value
abbrev pub IsFree : Waiting → Type 0
IsFree idle = Unit {0}
IsFree (option id) = ⊥
IsFree positional = Unit {0}

-- what is held comes to these rows once what is pending is used
pub record Settles (h : Held) (rows : List Row) : Type 0 where
  pub passes : settle_passes rules false h ≡ true
  pub settles : (settled rules h).rows ≡ rows

-- one word leads the walk on
pub record Leads (before : Walk) (word : Text) (after : Walk) : Type 0 where
  pub passes : turn_passes shape [] before word ≡ true
  pub walks : walked rules [] before word ≡ after
