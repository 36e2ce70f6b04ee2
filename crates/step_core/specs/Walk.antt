-- Walks to a goal.
use Rattle.std.specs.Prelude.{ℕ, ◌<◌, Bool, IsTrue}

-- a walk through live states leads from a state to the goal: the state is of the goal, or it is live and has a jump, of a weight that isn't
-- 0, to one of the n states, and a walk leads from there
pub data Walk (n : ℕ) (weight : ℕ → ℕ → ℕ) (live goal : ℕ → Bool) : ℕ → Type 0 where
  arrives : {s : ℕ} → IsTrue (goal s) → Walk n weight live goal s
  goes : {s t : ℕ} → IsTrue (live s) → t < n → 0 < weight s t → Walk n weight live goal t → Walk n weight live goal s
