-- Tickets that one pass draws, one after another, each above those before.
use Rattle.std.proofs.Common.{ℕ, ◌<◌, ◌≤◌, List, [], ◌∷◌, ◌++◌, length, refl, Some, arith, length-append}
use Rattle.std.specs.List.{All}
use Rattle.std.proofs.lemmas.List.Elements.{All-pop}

-- there are no more of them than numbers below a bound that is above each
abbrev pub AreRising : List ℕ → Type 0
AreRising drawn = (bound : ℕ) → All (λ t. t < bound) drawn → length drawn ≤ bound

pub rising_none : AreRising []
rising_none bound below = omega arith

pub rising_more : (drawn : List ℕ) (t : ℕ) → AreRising drawn → All (λ u. u < t) drawn → AreRising (drawn ++ t ∷ [])
rising_more drawn t rising below bound all =
    let here : t < bound = (All-pop (λ (u : ℕ). u < bound) (drawn ++ t ∷ []) drawn (Some t) refl all).1 in
    let few : length drawn ≤ t = rising t below in
    omega (arith, few, here, length-append {A = ℕ} drawn (t ∷ []))
