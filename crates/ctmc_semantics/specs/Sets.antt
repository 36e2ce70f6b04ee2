-- Sets of states, as functions from states to truth values.
use Rattle.std.specs.Prelude.{ℕ, Bool, true, false, IsTrue, List, slice_index_or}

-- the set that a list of truth values holds, one for each state
abbrev pub holds_at : List Bool → ℕ → Bool
holds_at xs s = slice_index_or xs s false

-- the set of all states
abbrev pub every_state : ℕ → Bool
every_state s = true

-- each state of the first set is one of the second
abbrev pub IsSubset : (ℕ → Bool) → (ℕ → Bool) → Type 0
IsSubset xs ys = (s : ℕ) → IsTrue (xs s) → IsTrue (ys s)

-- what is known of an until's live states and of its goal: the states that they surely have, and those that they may have
pub record KnownSets : Type 0 where
  pub live_must : ℕ → Bool
  pub live_may : ℕ → Bool
  pub goal_must : ℕ → Bool
  pub goal_may : ℕ → Bool

-- both sets are known exactly
abbrev pub known_exactly : (ℕ → Bool) → (ℕ → Bool) → KnownSets
known_exactly live goal = record { live_must = live; live_may = live; goal_must = goal; goal_may = goal }

-- the live states and the goal lie between the states that they surely have and those that they may have
pub record LieBetween (sets : KnownSets) (live goal : ℕ → Bool) : Type 0 where
  pub live_has : IsSubset sets.live_must live
  pub live_fits : IsSubset live sets.live_may
  pub goal_has : IsSubset sets.goal_must goal
  pub goal_fits : IsSubset goal sets.goal_may
