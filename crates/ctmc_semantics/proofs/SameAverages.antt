-- The averages are the same fractions for all weights that have the same rows.
use Rattle.std.proofs.Common.{◌≡◌, ℕ, suc, ◌-◌, ◌*◌, ◌^◌, ◌<◌, Bool, ap, arith}
use Rattle.ctmc_semantics.specs.Sum.{sum_below}
use Rattle.ctmc_semantics.specs.Fraction.{Fraction, ◌≈◌}
use Rattle.ctmc_semantics.specs.Jumps.{Jumps}
use Rattle.ctmc_semantics.specs.Rows.{Rows, IsRowsOf}
use Rattle.ctmc_semantics.specs.JumpValue.{jump_value}
use Rattle.ctmc_semantics.specs.Poisson.{poisson_weight, until_average}
use Rattle.ctmc_semantics.proofs.Powers.{power_split}
use Rattle.ctmc_semantics.proofs.Sums.{same_sum}
use Rattle.ctmc_semantics.proofs.SameRows.{same_values}

-- one term: p, q the powers of the two totals for k jumps, p', q' those for the rest
same_term : (w v v' p q p' q' pn qn : ℕ) → pn ≡ p * p' → qn ≡ q * q' → v * q ≡ v' * p → w * v * p' * qn ≡ w * v' * q' * pn
same_term w v v' p q p' q' pn qn e f h = rw (e, f) (omega (arith, ap (λ z. w * p' * q' * z) h))

same_whole : (t t' p q s : ℕ) → t * q ≡ t' * p → t * (q * s) ≡ t' * (p * s)
same_whole t t' p q s h = omega (arith, ap (λ z. z * s) h)

pub rows_fix_averages : (r : Rows) (i j : Jumps) (load : Fraction) (live goal : ℕ → Bool) (n s : ℕ) → IsRowsOf r i → IsRowsOf r j
    → s < r.states
    → until_average i load live goal s n ≈ until_average j load live goal s n
rows_fix_averages r i j load live goal n s first second l =
    same_whole (until_average i load live goal s n).num (until_average j load live goal s n).num (i.total ^ n) (j.total ^ n)
    (sum_below (suc n) (poisson_weight load.num load.den n))
    (same_sum (suc n) (j.total ^ n) (i.total ^ n)
    (λ k. poisson_weight load.num load.den n k * jump_value i live goal k s * i.total ^ (n - k))
    (λ k. poisson_weight load.num load.den n k * jump_value j live goal k s * j.total ^ (n - k))
    (λ k m. same_term (poisson_weight load.num load.den n k) (jump_value i live goal k s) (jump_value j live goal k s)
    (i.total ^ k) (j.total ^ k) (i.total ^ (n - k)) (j.total ^ (n - k)) (i.total ^ n) (j.total ^ n)
    (power_split i.total k n (omega arith)) (power_split j.total k n (omega arith))
    (same_values r i j live goal first second k s l)))
