-- What the rounded weights promise.
use Rattle.std.specs.Prelude.{◌≡◌, ℕ, suc, ◌+◌, ◌*◌, ◌^◌, ◌<◌, ◌≤◌}
use Rattle.ctmc_semantics.specs.Sum.{sum_below}
use Rattle.ctmc_semantics.specs.Fraction.{Fraction}
use Rattle.ctmc_semantics.specs.Poisson.{poisson_weight}
use Rattle.ctmc_semantics.specs.RoundedTables.{one_word}
use Rattle.ctmc_semantics.specs.Weights.{mode, low_weight, high_weight}
use Rattle.ctmc_semantics.specs.Horizon.{horizon}

-- over the mode's weight, the exact weight of k jumps lies between the rounded ones
pub record LiesBetween (load : Fraction) (n k : ℕ) : Type 0 where
  pub low :
      low_weight load k * poisson_weight load.num load.den n (mode load)
      ≤ one_word * poisson_weight load.num load.den n k
  pub high :
      one_word * poisson_weight load.num load.den n k
      ≤ high_weight load k * poisson_weight load.num load.den n (mode load)

-- the rounded weights enclose the exact ones
abbrev pub WeightsEnclose : Type 0
WeightsEnclose = (load : Fraction) (n k : ℕ) → 0 < load.den → k ≤ n → mode load ≤ n → LiesBetween load n k

-- the mode lies within the horizon
abbrev pub ModeIsWithin : Type 0
ModeIsWithin = (load : Fraction) (bits : ℕ) → 0 < load.den → mode load ≤ horizon load bits

-- both weights of the mode are 1
abbrev pub ModeWeighsOne : Type 0
ModeWeighsOne = (load : Fraction) → (low_weight load (mode load) ≡ one_word) × (high_weight load (mode load) ≡ one_word)

-- so the low weights up to the horizon add up to at least 1
abbrev pub WeightsAddUp : Type 0
WeightsAddUp = (load : Fraction) (bits : ℕ) → 0 < load.den → one_word ≤ sum_below (suc (horizon load bits)) (low_weight load)

-- no low weight is above its high one
abbrev pub WeightsAreOrdered : Type 0
WeightsAreOrdered = (load : Fraction) (k : ℕ) → 0 < load.den → low_weight load k ≤ high_weight load k

-- no weight is above 1
abbrev pub WeightsAreAtMostOne : Type 0
WeightsAreAtMostOne = (load : Fraction) (k : ℕ) → 0 < load.den → high_weight load k ≤ one_word

-- up to the horizon the two weights of a number of jumps are near each other
abbrev pub WeightsAreNear : Type 0
WeightsAreNear =
    (load : Fraction) (bits k : ℕ) → 0 < load.den → k ≤ horizon load bits
    → high_weight load k ≤ low_weight load k + (2 ^ 12 * (bits + 2) + 2 * horizon load bits)
