-- The jump values are the same fractions for all weights that have the same rows, and never fall when a set grows.
use Rattle.std.proofs.Common.{◌≡◌, ℕ, zero, suc, ◌*◌, ◌^◌, ◌≤◌, ◌<◌, Bool, true, false, cond, IsTrue, refl, ap, subst, arith}
use Rattle.std.proofs.lemmas.Bool.{false≢true}
use Rattle.std.proofs.Math.Nat.{pow-suc, pow-zero, mul-le-mul_left, le_of_mul-le-mul_right}
use Rattle.ctmc_semantics.specs.Sum.{sum_below}
use Rattle.ctmc_semantics.specs.Fraction.{◌≈◌}
use Rattle.ctmc_semantics.specs.Rows.{Rows, IsRowsOf}
use Rattle.ctmc_semantics.specs.Jumps.{Jumps, IsStochastic}
use Rattle.ctmc_semantics.specs.JumpValue.{jump_fraction, jump_value}
use Rattle.ctmc_semantics.specs.Sets.{IsSubset}
use Rattle.ctmc_semantics.proofs.JumpsRise.{weighted-at_most, jump_value_capped}

same_scaled : (n b b' p p' : ℕ) (w w' v v' : ℕ → ℕ)
    → ((t : ℕ) → t < n → w t * b' ≡ w' t * b) → ((t : ℕ) → t < n → v t * p' ≡ v' t * p)
    → sum_below n (λ t. w t * v t) * (p' * b') ≡ sum_below n (λ t. w' t * v' t) * (p * b)
same_scaled zero b b' p p' w w' v v' h k = omega arith
same_scaled (suc n) b b' p p' w w' v v' h k =
    omega (
      arith,
      same_scaled n b b' p p' w w' v v' (λ t l. h t (omega arith)) (λ t l. k t (omega arith)),
      ap (λ x. x * (v n * p')) (h n (omega arith)),
      ap (λ x. w' n * b * x) (k n (omega arith)),
    )

cases_same : (g l : Bool) (q q' x x' : ℕ) → x * q' ≡ x' * q → cond g q (cond l x 0) * q' ≡ cond g q' (cond l x' 0) * q
cases_same true l q q' x x' h = omega arith
cases_same false true q q' x x' h = h
cases_same false false q q' x x' h = omega arith

same_weight : (w w' d n b b' : ℕ) → 0 < d → w * d ≡ n * b → w' * d ≡ n * b' → w * b' ≡ w' * b
same_weight w w' d n b b' pos e f =
    let up : w * b' ≤ w' * b = le_of_mul-le-mul_right {k = d} (omega (arith, ap (λ z. z * b') e, ap (λ z. z * b) f)) pos in
    let down : w' * b ≤ w * b' = le_of_mul-le-mul_right {k = d} (omega (arith, ap (λ z. z * b') e, ap (λ z. z * b) f)) pos in
    omega (arith, up, down)

-- two weightings of one table of rows
module _ (r : Rows) (i j : Jumps) (live goal : ℕ → Bool) (first : IsRowsOf r i) (second : IsRowsOf r j) where
  weights_same : (s t : ℕ) → s < r.states → t < r.states → i.weight s t * j.total ≡ j.weight s t * i.total
  weights_same s t l m =
      same_weight (i.weight s t) (j.weight s t) (r.den s) (r.num s t) i.total j.total
      (first.positive s l) (first.same_fractions s t l m) (second.same_fractions s t l m)

  abbrev one : ℕ → ℕ → ℕ
  one = jump_value i live goal

  abbrev other : ℕ → ℕ → ℕ
  other = jump_value j live goal

  states_same : (k s p q : ℕ)
      → sum_below r.states (λ t. i.weight s t * one k t) * p ≡ sum_below r.states (λ t. j.weight s t * other k t) * q
      → sum_below i.states (λ t. i.weight s t * one k t) * p ≡ sum_below j.states (λ t. j.weight s t * other k t) * q
  states_same k s p q e =
      subst (λ (n : ℕ). sum_below i.states (λ t. i.weight s t * one k t) * p ≡ sum_below n (λ t. j.weight s t * other k t) * q)
      second.same_states
      (subst (λ (n : ℕ). sum_below n (λ t. i.weight s t * one k t) * p ≡ sum_below r.states (λ t. j.weight s t * other k t) * q)
      first.same_states e)

  pub same_values : (k s : ℕ) → s < r.states → one k s * j.total ^ k ≡ other k s * i.total ^ k
  same_values zero s l = rw (pow-zero i.total, pow-zero j.total)
  same_values (suc k) s l =
      cases_same (goal s) (live s) (i.total ^ suc k) (j.total ^ suc k) _ _
      (rw (pow-suc i.total k, pow-suc j.total k)
      (states_same k s (j.total ^ k * j.total) (i.total ^ k * i.total)
      (same_scaled r.states i.total j.total (i.total ^ k) (j.total ^ k) (i.weight s) (j.weight s) (one k) (other k)
      (λ t m. weights_same s t l m) (λ t m. same_values k t m))))

pub rows_fix_values : (r : Rows) (i j : Jumps) (live goal : ℕ → Bool) (k s : ℕ) → IsRowsOf r i → IsRowsOf r j → s < r.states
    → jump_fraction i live goal s k ≈ jump_fraction j live goal s k
rows_fix_values r i j live goal k s first second l = same_values r i j live goal first second k s l

-- ---- growing sets
weighted_le : (n : ℕ) (w f g : ℕ → ℕ) → ((t : ℕ) → t < n → f t ≤ g t) → sum_below n (λ t. w t * f t) ≤ sum_below n (λ t. w t * g t)
weighted_le zero w f g h = omega arith
weighted_le (suc n) w f g h = omega (arith, weighted_le n w f g (λ t l. h t (omega arith)), mul-le-mul_left (w n) (h n (omega arith)))

cases_grow : (g g' l l' : Bool) (q x x' : ℕ) → (IsTrue g → IsTrue g') → (IsTrue l → IsTrue l') → x ≤ q → x ≤ x'
    → cond g q (cond l x 0) ≤ cond g' q (cond l' x' 0)
cases_grow true true l l' q x x' u v h k = omega arith
cases_grow true false l l' q x x' u v h k = absurd (false≢true (u refl))
cases_grow false true true l' q x x' u v h k = h
cases_grow false true false l' q x x' u v h k = omega arith
cases_grow false false true true q x x' u v h k = k
cases_grow false false true false q x x' u v h k = absurd (false≢true (v refl))
cases_grow false false false l' q x x' u v h k = omega arith

pub values_grow : (j : Jumps) → IsStochastic j → (live live' goal goal' : ℕ → Bool) → IsSubset live live' → IsSubset goal goal'
    → (k s : ℕ) → s < j.states → jump_value j live goal k s ≤ jump_value j live' goal' k s
values_grow j h live live' goal goal' u v zero s l = start_grow (goal s) (goal' s) (v s)
  where
    start_grow : (g g' : Bool) → (IsTrue g → IsTrue g') → cond g 1 0 ≤ cond g' 1 0
    start_grow true true e = omega arith
    start_grow true false e = absurd (false≢true (e refl))
    start_grow false g' e = omega arith
values_grow j h live live' goal goal' u v (suc k) s l =
    cases_grow (goal s) (goal' s) (live s) (live' s) (j.total ^ suc k) _ _ (v s) (u s)
    (omega (
      arith,
      pow-suc j.total k,
      ap (λ x. x * j.total ^ k) (h s l),
      weighted-at_most j.states (j.total ^ k) (j.weight s) _ (λ t i. jump_value_capped j h live goal k t i),
    ))
    (weighted_le j.states (j.weight s) _ _ (λ t i. values_grow j h live live' goal goal' u v k t i))
