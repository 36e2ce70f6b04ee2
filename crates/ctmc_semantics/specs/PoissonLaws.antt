-- What Poisson averages promise.
use Rattle.std.specs.Prelude.{ℕ, suc, ◌+◌, ◌*◌, ◌^◌, ◌<◌, ◌≤◌, Bool}
use Rattle.ctmc_semantics.specs.Sum.{sum_below}
use Rattle.ctmc_semantics.specs.Fraction.{Fraction, fraction, ◌≼◌, ◌≈◌}
use Rattle.ctmc_semantics.specs.Jumps.{Jumps, IsStochastic}
use Rattle.ctmc_semantics.specs.Sets.{IsSubset}
use Rattle.ctmc_semantics.specs.Rows.{Rows, IsRowsOf}
use Rattle.ctmc_semantics.specs.Poisson.{poisson_weight, until_average}
use Rattle.ctmc_semantics.specs.Horizon.{horizon}
use Rattle.ctmc_semantics.specs.Value.{NeverFalls, AreFractions}

-- a longer cut never lowers the average
abbrev pub AveragesRise : Type 0
AveragesRise = (j : Jumps) (load : Fraction) (live goal : ℕ → Bool) (s : ℕ) → NeverFalls (until_average j load live goal s)

-- the averages have positive divisors
abbrev pub AveragesAreFractions : Type 0
AveragesAreFractions =
    (j : Jumps) (load : Fraction) (live goal : ℕ → Bool) (s : ℕ) → 0 < j.total → 0 < load.den
    → AreFractions (until_average j load live goal s)

-- an average is at most 1
abbrev pub AveragesAreAtMostOne : Type 0
AveragesAreAtMostOne =
    (j : Jumps) (load : Fraction) (live goal : ℕ → Bool) (n s : ℕ) → IsStochastic j → s < j.states
    → until_average j load live goal s n ≼ fraction 1 1

-- the averages depend on the rows alone, and not on the weights that have these rows
abbrev pub AveragesAreOfTheRows : Type 0
AveragesAreOfTheRows =
    (r : Rows) (i j : Jumps) (load : Fraction) (live goal : ℕ → Bool) (n s : ℕ) → IsRowsOf r i → IsRowsOf r j → s < r.states
    → until_average i load live goal s n ≈ until_average j load live goal s n

-- an average never falls when the sets grow
abbrev pub AveragesGrow : Type 0
AveragesGrow =
    (j : Jumps) (load : Fraction) (live live' goal goal' : ℕ → Bool) (n s : ℕ) → IsStochastic j → s < j.states
    → IsSubset live live' → IsSubset goal goal' → until_average j load live goal s n ≼ until_average j load live' goal' s n

-- the weights past the horizon, up to any n, add up to at most `2^-bits` times the sum of those up to it
abbrev pub TailIsSmall : Type 0
TailIsSmall =
    (load : Fraction) (bits more : ℕ) → 0 < load.den
    → let last = horizon load bits in
    let weight = poisson_weight load.num load.den (last + more) in
    sum_below (suc (last + more)) weight * 2 ^ bits ≤ sum_below (suc last) weight * (2 ^ bits + 1)

-- past the horizon an average is at most the one at it and `2^-bits`
abbrev pub AveragesStayNear : Type 0
AveragesStayNear =
    (j : Jumps) (load : Fraction) (live goal : ℕ → Bool) (bits more s : ℕ) → IsStochastic j → s < j.states → 0 < load.den
    → let last = horizon load bits in
    let here = until_average j load live goal s last in
    until_average j load live goal s (last + more) ≼ fraction (here.num * 2 ^ bits + here.den) (here.den * 2 ^ bits)
