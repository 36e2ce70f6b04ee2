-- The lower table against the jump values: never above, and below by at most a unit a layer.
use Rattle.std.proofs.Common.{◌≡◌, ℕ, zero, suc, ◌+◌, ◌*◌, ◌/◌, ◌^◌, ◌≤◌, ◌<◌, Bool, true, false, cond, refl, ap, subst, arith}
use Rattle.std.proofs.Math.Nat.{mul-le-mul_left, mul-le-mul_right, pow-suc, pow-zero, div-mul-le_self, lt-div-mul-add}
use Rattle.std.proofs.Math.Nat.{le_of_mul-le-mul_right}
use Rattle.ctmc_semantics.specs.Sum.{sum_below}
use Rattle.ctmc_semantics.specs.Jumps.{Jumps}
use Rattle.ctmc_semantics.specs.JumpValue.{jump_value}
use Rattle.ctmc_semantics.specs.RoundedTables.{one_word, low_table}
use Rattle.ctmc_semantics.specs.Rows.{Rows, IsRowsOf}

-- ---- the sums of a row
pub same_rows : (n b d : ℕ) (w u v : ℕ → ℕ) → ((t : ℕ) → t < n → w t * d ≡ u t * b)
    → sum_below n (λ t. w t * v t) * d ≡ sum_below n (λ t. u t * v t) * b
same_rows zero b d w u v h = omega arith
same_rows (suc n) b d w u v h =
    omega (arith, same_rows n b d w u v (λ t l. h t (omega arith)), ap (λ x. x * v n) (h n (omega arith)))

below_sum : (n p one : ℕ) (u x v : ℕ → ℕ) → ((t : ℕ) → t < n → x t * p ≤ one * v t)
    → sum_below n (λ t. u t * x t) * p ≤ one * sum_below n (λ t. u t * v t)
below_sum zero p one u x v h = omega arith
below_sum (suc n) p one u x v h =
    omega (arith, below_sum n p one u x v (λ t l. h t (omega arith)), mul-le-mul_left (u n) (h n (omega arith)))

above_sum : (n p k one : ℕ) (u x v : ℕ → ℕ) → ((t : ℕ) → t < n → one * v t ≤ (x t + k) * p)
    → one * sum_below n (λ t. u t * v t) ≤ (sum_below n (λ t. u t * x t) + k * sum_below n u) * p
above_sum zero p k one u x v h = omega arith
above_sum (suc n) p k one u x v h =
    omega (arith, above_sum n p k one u x v (λ t l. h t (omega arith)), mul-le-mul_left (u n) (h n (omega arith)))

-- ---- one row, over plain numbers: d the divisor, b the total, p its power, s and v the sums, x the weighted sum
row_below : (d b p one s v x : ℕ) → 0 < d → x * d ≡ v * b → s * p ≤ one * v → s / d * (p * b) ≤ one * x
row_below d b p one s v x pos e h =
    le_of_mul-le-mul_right {k = d}
    (omega (arith, mul-le-mul_right (p * b) (div-mul-le_self s d), mul-le-mul_right b h, ap (λ z. one * z) e)) pos

row_above : (d b p k one s v x : ℕ) → 0 < d → x * d ≡ v * b → one * v ≤ (s + k * d) * p → one * x ≤ (s / d + suc k) * (p * b)
row_above d b p k one s v x pos e h =
    let up : s < s / d * d + d = lt-div-mul-add pos in
    let up' : s ≤ s / d * d + d = omega arith in
    le_of_mul-le-mul_right {k = d}
    (omega (arith, mul-le-mul_right (p * b) up', mul-le-mul_right b h, ap (λ z. one * z) e)) pos

-- ---- the cases of a state
cases_below : (g l : Bool) (one p x y q : ℕ) → p ≡ q → x * p ≤ one * y → cond g one (cond l x 0) * p ≤ one * cond g q (cond l y 0)
cases_below true l one p x y q e h = omega (arith, ap (λ z. one * z) e)
cases_below false true one p x y q e h = h
cases_below false false one p x y q e h = omega arith

cases_above : (g l : Bool) (one k p x y q : ℕ) → p ≡ q → one * y ≤ (x + k) * p
    → one * cond g q (cond l y 0) ≤ (cond g one (cond l x 0) + k) * p
cases_above true l one k p x y q e h = omega (arith, ap (λ z. one * z) e)
cases_above false true one k p x y q e h = h
cases_above false false one k p x y q e h = omega arith

start_below : (g : Bool) (one p : ℕ) → p ≡ 1 → cond g one 0 * p ≤ one * cond g 1 0
start_below true one p e = rw e (omega arith)
start_below false one p e = omega arith

start_above : (g : Bool) (one p : ℕ) → p ≡ 1 → one * cond g 1 0 ≤ (cond g one 0 + 0) * p
start_above true one p e = rw e (omega arith)
start_above false one p e = omega arith

module _ (r : Rows) (j : Jumps) (is : IsRowsOf r j) (live goal : ℕ → Bool) where
  abbrev value : ℕ → ℕ → ℕ
  value = jump_value j live goal

  abbrev word : ℕ → ℕ → ℕ
  word = low_table r live goal

  row_same : (k s : ℕ) → s < r.states
      → sum_below j.states (λ t. j.weight s t * value k t) * r.den s ≡ sum_below r.states (λ t. r.num s t * value k t) * j.total
  row_same k s l =
      subst (λ (n : ℕ). sum_below n (λ t. j.weight s t * value k t) * r.den s ≡ sum_below r.states (λ t. r.num s t * value k t) * j.total)
      is.same_states
      (same_rows r.states j.total (r.den s) (j.weight s) (r.num s) (value k) (λ t i. is.same_fractions s t l i))

  pub low_below : (k s : ℕ) → s < r.states → word k s * j.total ^ k ≤ one_word * value k s
  low_below zero s l = start_below (goal s) one_word _ (pow-zero j.total)
  low_below (suc k) s l =
      rw (pow-suc j.total k)
      (cases_below (goal s) (live s) one_word _ _ _ _ refl
      (row_below (r.den s) j.total (j.total ^ k) one_word _ _ _ (is.positive s l) (row_same k s l)
      (below_sum r.states (j.total ^ k) one_word (r.num s) (word k) (value k) (λ t i. low_below k t i))))

  pub low_above : (k s : ℕ) → s < r.states → one_word * value k s ≤ (word k s + k) * j.total ^ k
  low_above zero s l = start_above (goal s) one_word _ (pow-zero j.total)
  low_above (suc k) s l =
      let sums : one_word * sum_below r.states (λ t. r.num s t * value k t)
      ≤ (sum_below r.states (λ t. r.num s t * word k t) + k * r.den s) * j.total ^ k =
      rw (is.whole s l) at (above_sum r.states (j.total ^ k) k one_word (r.num s) (word k) (value k) (λ t i. low_above k t i)) in
      rw (pow-suc j.total k)
      (cases_above (goal s) (live s) one_word (suc k) _ _ _ _ refl
      (row_above (r.den s) j.total (j.total ^ k) k one_word _ _ _ (is.positive s l) (row_same k s l) sums))
