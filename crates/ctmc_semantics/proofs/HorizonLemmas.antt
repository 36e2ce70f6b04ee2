-- An average past the horizon is at most the average at it and 2 ^ -bits.
use Rattle.std.proofs.Common.{◌≡◌, ℕ, zero, suc, ◌+◌, ◌*◌, ◌^◌, ◌≤◌, ◌<◌, ap, sym, ◌∙◌, arith}
use Rattle.std.proofs.Math.Nat.{mul-le-mul_left, mul-le-mul_right, pow-suc, pow-zero, add-suc, add-zero, mul_assoc}
use Rattle.std.proofs.lemmas.Nat.{pow-add}
use Rattle.ctmc_semantics.specs.Sum.{sum_below}
use Rattle.ctmc_semantics.specs.Fraction.{◌≼◌, fraction}
use Rattle.ctmc_semantics.specs.Poisson.{poisson_weight, poisson_average}
use Rattle.ctmc_semantics.proofs.AverageLemmas.{weight_more, top, weights, top_more, weights_more}
use Rattle.ctmc_semantics.proofs.Sums.{sum_below-same, sum_below-mul}
use Rattle.ctmc_semantics.proofs.TailLemmas.{poisson_tail}

-- one step
step_weights : (s' s k g c r x : ℕ) → s' ≡ c * s + x → s ≡ g * k + r → s' ≡ c * g * k + (c * r + x)
step_weights s' s k g c r x h e = omega (arith, ap (λ z. c * z) e)

step_top' : (t' t f pI k r c x m p q v : ℕ) → t' ≡ c * m * t + x * v → t ≤ f * pI * k + r * p → v ≤ q → q ≡ p * m
    → t' ≤ c * f * (pI * m) * k + (c * r + x) * q
step_top' t' t f pI k r c x m p q v e h l d = rw d (omega (arith, mul-le-mul_left (c * m) h, mul-le-mul_left x l, ap (λ z. x * z) d))

small_past : (s o g r two : ℕ) → s ≡ g + r → o ≡ g → s * two ≤ o * (two + 1) → r * two ≤ g
small_past s o g r two e d h = omega (arith, ap (λ z. z * two) e, ap (λ z. z * (two + 1)) d)

-- the end: the longer cut's sum s is c times the shorter one's and what lies past it
end_le : (t tK sK c r s pK pI two : ℕ) → s ≡ c * sK + r → r * two ≤ c * sK → t ≤ c * pI * tK + r * (pK * pI)
    → t * (pK * sK * two) ≤ (tK * two + pK * sK) * (pK * pI * s)
end_le t tK sK c r s pK pI two e small h =
    rw e (omega (arith, mul-le-mul_right (pK * sK * two) h, mul-le-mul_left (pK * pI * pK * sK) small))

module _ (a b total : ℕ) (value : ℕ → ℕ) (capped : (k : ℕ) → value k ≤ total ^ k) (n : ℕ) where
  -- by what a weight grows in a cut i jumps longer
  abbrev grown : ℕ → ℕ
  grown zero = 1
  grown (suc i) = b * suc (n + i) * grown i

  -- what lies past n
  abbrev past : ℕ → ℕ
  past zero = 0
  past (suc i) = b * suc (n + i) * past i + a ^ suc (n + i)

  weight_grown : (i k : ℕ) → k ≤ n → poisson_weight a b (n + i) k ≡ grown i * poisson_weight a b n k
  weight_grown zero k l = rw (add-zero n) (omega arith)
  weight_grown (suc i) k l =
      rw (add-suc n i)
      (weight_more a b (n + i) k (omega arith) ∙ ap (λ z. b * suc (n + i) * z) (weight_grown i k l)
      ∙ sym (mul_assoc (b * suc (n + i)) (grown i) (poisson_weight a b n k)))

  older_weights : (i : ℕ) → sum_below (suc n) (poisson_weight a b (n + i)) ≡ grown i * weights a b total value n
  older_weights i =
      sum_below-same (suc n) (poisson_weight a b (n + i)) (λ k. grown i * poisson_weight a b n k) (λ k l. weight_grown i k (omega arith))
      ∙ sum_below-mul (suc n) (grown i) (poisson_weight a b n)

  weights_split : (i : ℕ) → weights a b total value (n + i) ≡ grown i * weights a b total value n + past i
  weights_split zero = rw (add-zero n) (omega arith)
  weights_split (suc i) =
      rw (add-suc n i)
      (step_weights _ (weights a b total value (n + i)) _ (grown i) (b * suc (n + i)) (past i) _
      (weights_more a b total value (n + i)) (weights_split i))

  top_split : (i : ℕ) → top a b total value (n + i) ≤ grown i * total ^ i * top a b total value n + past i * total ^ (n + i)
  top_split zero = rw (add-zero n, pow-zero total) (omega arith)
  top_split (suc i) =
      rw (add-suc n i, pow-suc total i)
      (step_top' _ (top a b total value (n + i)) (grown i) (total ^ i) _ (past i) (b * suc (n + i)) _ total (total ^ (n + i)) _ _
      (top_more a b total value (n + i)) (top_split i) (capped (suc (n + i))) (pow-suc total (n + i)))

-- the average in a longer cut is at most the one at the horizon m + j and 2 ^ -j
pub average_tail : (a b total : ℕ) (value : ℕ → ℕ) → ((k : ℕ) → value k ≤ total ^ k) → (m j i : ℕ) → 0 < b → 2 * a ≤ b * m
    → let here = poisson_average (fraction a b) total value (m + j) in
    poisson_average (fraction a b) total value (m + j + i) ≼ fraction (here.num * 2 ^ j + here.den) (here.den * 2 ^ j)
average_tail a b total value capped m j i pos h =
    rw (pow-add total (m + j) i)
    (end_le _ (top a b total value (m + j)) (weights a b total value (m + j)) (grown a b total value capped (m + j) i)
    (past a b total value capped (m + j) i) _ (total ^ (m + j)) (total ^ i) (2 ^ j)
    (weights_split a b total value capped (m + j) i)
    (small_past _ _ _ _ (2 ^ j) (weights_split a b total value capped (m + j) i) (older_weights a b total value capped (m + j) i)
    (poisson_tail a b m j i pos h))
    (rw (pow-add total (m + j) i) at (top_split a b total value capped (m + j) i)))
