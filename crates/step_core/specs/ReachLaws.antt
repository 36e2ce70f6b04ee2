-- What is promised of walks.
use Rattle.std.specs.Prelude.{ℕ, ◌↔◌, Bool, IsTrue}
use Rattle.step_core.specs.Walk.{Walk}
use Rattle.step_core.specs.WalkFound.{can_reach}

-- a walk is found exactly where one leads to the goal
abbrev pub WalksAreFound : Type 0
WalksAreFound =
    (n : ℕ) (weight : ℕ → ℕ → ℕ) (live goal : ℕ → Bool) (s : ℕ)
    → IsTrue (can_reach n weight live goal s) ↔ Walk n weight live goal s
