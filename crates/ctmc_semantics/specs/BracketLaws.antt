-- What the brackets of words promise.
use Rattle.std.specs.Prelude.{ℕ, ◌+◌, ◌<◌, ◌≤◌, Bool}
use Rattle.ctmc_semantics.specs.Fraction.{Fraction}
use Rattle.ctmc_semantics.specs.Jumps.{Jumps}
use Rattle.ctmc_semantics.specs.JumpValue.{jump_fraction}
use Rattle.ctmc_semantics.specs.Poisson.{until_average}
use Rattle.ctmc_semantics.specs.Bracket.{ContainsFrom, ContainsLimit}
use Rattle.ctmc_semantics.specs.Rows.{Rows, IsRowsOf}
use Rattle.ctmc_semantics.specs.Reach.{ReachesBack}
use Rattle.ctmc_semantics.specs.Horizon.{horizon, greatest_width}
use Rattle.ctmc_semantics.specs.Sets.{KnownSets, LieBetween, known_exactly}
use Rattle.ctmc_semantics.specs.WordBracket.{word_bracket, settle, until_words, last_words}

-- the mix of a state contains its bounded until, for every live states and goal that lie between the known sets
abbrev pub BracketContains : Type 0
BracketContains =
    (r : Rows) (j : Jumps) (load : Fraction) (bits : ℕ) (sets : KnownSets) (live goal : ℕ → Bool) (s : ℕ)
    → IsRowsOf r j → 0 < j.total → 0 < load.den → bits ≤ 62 → s < j.states → LieBetween sets live goal
    → ContainsFrom (word_bracket (until_words r load bits sets s)) (horizon load bits) (until_average j load live goal s)

-- so does the settled bracket
abbrev pub SettledBracketContains : Type 0
SettledBracketContains =
    (r : Rows) (j : Jumps) (load : Fraction) (bits : ℕ) (sets : KnownSets) (live goal reach : ℕ → Bool) (s : ℕ)
    → IsRowsOf r j → 0 < j.total → 0 < load.den → bits ≤ 62 → s < j.states
    → LieBetween sets live goal → ReachesBack r sets.live_may sets.goal_may reach
    → ContainsFrom (word_bracket (settle (sets.goal_must s) (reach s) (until_words r load bits sets s)))
    (horizon load bits) (until_average j load live goal s)

-- where the sets are known exactly, the mix of a state is narrow
abbrev pub BracketIsNarrow : Type 0
BracketIsNarrow =
    (r : Rows) (j : Jumps) (load : Fraction) (bits : ℕ) (live goal : ℕ → Bool) (s : ℕ)
    → IsRowsOf r j → 0 < j.total → 0 < load.den → bits ≤ 48 → horizon load bits ≤ 16384 → s < j.states
    → let words = until_words r load bits (known_exactly live goal) s in
    words.upper ≤ words.lower + greatest_width (horizon load bits) bits

-- so is the settled bracket
abbrev pub SettledBracketIsNarrow : Type 0
SettledBracketIsNarrow =
    (r : Rows) (j : Jumps) (load : Fraction) (bits : ℕ) (live goal reach : ℕ → Bool) (s : ℕ)
    → IsRowsOf r j → 0 < j.total → 0 < load.den → bits ≤ 48 → horizon load bits ≤ 16384 → s < j.states
    → let words = settle (goal s) (reach s) (until_words r load bits (known_exactly live goal) s) in
    words.upper ≤ words.lower + greatest_width (horizon load bits) bits

-- after any number of layers, the last words of a state contain its unbounded until
abbrev pub LastContains : Type 0
LastContains =
    (r : Rows) (j : Jumps) (last : ℕ) (sets : KnownSets) (live goal reach : ℕ → Bool) (s : ℕ)
    → IsRowsOf r j → 0 < j.total → s < j.states → LieBetween sets live goal → ReachesBack r sets.live_may sets.goal_may reach
    → ContainsLimit (word_bracket (last_words r last sets reach s)) last (jump_fraction j live goal s)

-- so does the settled bracket
abbrev pub SettledLastContains : Type 0
SettledLastContains =
    (r : Rows) (j : Jumps) (last : ℕ) (sets : KnownSets) (live goal reach : ℕ → Bool) (s : ℕ)
    → IsRowsOf r j → 0 < j.total → s < j.states → LieBetween sets live goal → ReachesBack r sets.live_may sets.goal_may reach
    → ContainsLimit (word_bracket (settle (sets.goal_must s) (reach s) (last_words r last sets reach s))) last
    (jump_fraction j live goal s)
