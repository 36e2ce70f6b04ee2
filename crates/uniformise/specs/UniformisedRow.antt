-- The entries that a row of the uniformised chain has for a transition and for the loop's share.
use Rattle.std.specs.Prelude.{ℕ, ◌+◌, ◌==◌, if◌then◌else◌, List, [], ◌∷◌, ◌++◌, nat_lt}
use Rattle.model_core.specs.declared.rate.Rate.{Rate}
use Rattle.round_out.specs.declared.entry.Entry.{Entry}

-- the entry of the loop's share, none where it is 0
abbrev pub share_entry : ℕ → ℕ → List Entry
share_entry s share = if nat_lt 0 share then record { to = s; num = share } ∷ [] else []

-- a transition's entry, with the share where it is the loop, and the share's entry before it where it is past the loop
abbrev pub transition_entries : ℕ → ℕ → Rate → List Entry
transition_entries s share r =
    (if nat_lt s r.to then share_entry s share else []) ++ record { to = r.to; num = r.rate + (if s == r.to then share else 0) } ∷ []
