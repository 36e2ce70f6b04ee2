-- How it is decided whether a walk leads to a goal: state after state is let in between. (Warshall 1962)
use Rattle.std.specs.Prelude.{ℕ, zero, suc, Bool, ◌&&◌, ◌||◌, nat_lt}
use Rattle.std.specs.List.{list_any, range_with_len}

-- whether jumps from live states lead from s to t, with none but the first k states between
unfoldable pub leads : (ℕ → ℕ → ℕ) → (ℕ → Bool) → ℕ → ℕ → ℕ → Bool
leads weight live zero s t = live s && nat_lt 0 (weight s t)
leads weight live (suc k) s t = leads weight live k s t || (leads weight live k s k && leads weight live k k t)

-- whether a walk leads from the state to the goal
unfoldable pub can_reach : ℕ → (ℕ → ℕ → ℕ) → (ℕ → Bool) → (ℕ → Bool) → ℕ → Bool
can_reach n weight live goal s = goal s || list_any (λ t. leads weight live n s t && goal t) (range_with_len 0 n)
