-- The upper table against the exact values of its start: never below, and above by at most a unit a layer.
use Rattle.std.proofs.Common.{◌≡◌, ℕ, zero, suc, ◌+◌, ◌*◌, ◌^◌, ◌≤◌, ◌<◌, Bool, true, false, cond, refl, ap, ◌∙◌, subst, arith}
use Rattle.std.proofs.Math.Nat.{mul-le-mul_left, mul-le-mul_right, pow-suc, pow-zero, le_of_mul-le-mul_right, zero-add}
use Rattle.std.proofs.lemmas.Nat.{pow-add}
use Rattle.std.proofs.lemmas.Grind.{div_ceil_times}
use Rattle.std.specs.Int.{div_ceil}
use Rattle.ctmc_semantics.specs.Sum.{sum_below}
use Rattle.ctmc_semantics.specs.Jumps.{Jumps}
use Rattle.ctmc_semantics.specs.JumpValue.{jump_value}
use Rattle.ctmc_semantics.specs.RoundedTables.{one_word, high_table, set_words, exact_word}
use Rattle.ctmc_semantics.specs.Rows.{Rows, IsRowsOf}
use Rattle.ctmc_semantics.proofs.LowTables.{same_rows}

-- ---- the sums of a row: v the exact values, x the words
over_sum : (n p : ℕ) (u x v : ℕ → ℕ) → ((t : ℕ) → t < n → v t ≤ x t * p)
    → sum_below n (λ t. u t * v t) ≤ sum_below n (λ t. u t * x t) * p
over_sum zero p u x v h = omega arith
over_sum (suc n) p u x v h =
    omega (arith, over_sum n p u x v (λ t l. h t (omega arith)), mul-le-mul_left (u n) (h n (omega arith)))

under_sum : (n p k : ℕ) (u x v : ℕ → ℕ) → ((t : ℕ) → t < n → x t * p ≤ v t + k * p)
    → sum_below n (λ t. u t * x t) * p ≤ sum_below n (λ t. u t * v t) + k * sum_below n u * p
under_sum zero p k u x v h = omega arith
under_sum (suc n) p k u x v h =
    omega (arith, under_sum n p k u x v (λ t l. h t (omega arith)), mul-le-mul_left (u n) (h n (omega arith)))

-- ---- one row, over plain numbers: d the divisor, b the total, p its power, s the words' sum, v and x the exact sums
row_over : (d b p s v x : ℕ) → 0 < d → x * d ≡ v * b → v ≤ s * p → x ≤ div_ceil s d * (p * b)
row_over d b p s v x pos e h =
    le_of_mul-le-mul_right {k = d}
    (omega (arith, mul-le-mul_right (p * b) (div_ceil_times s d pos).0, mul-le-mul_right b h, e)) pos

row_under : (d b p k s v x : ℕ) → 0 < d → x * d ≡ v * b → s * p ≤ v + k * d * p → div_ceil s d * (p * b) ≤ x + suc k * (p * b)
row_under d b p k s v x pos e h =
    let up : div_ceil s d * d < s + d = (div_ceil_times s d pos).1 in
    let up' : div_ceil s d * d ≤ s + d = omega arith in
    le_of_mul-le-mul_right {k = d}
    (omega (arith, mul-le-mul_right (p * b) up', mul-le-mul_right b h, e)) pos

-- ---- the cases of a state
cases_over : (g l : Bool) (one p x y q : ℕ) → p ≡ q → y ≤ x * p → cond g (one * q) (cond l y 0) ≤ cond g one (cond l x 0) * p
cases_over true l one p x y q e h = omega (arith, ap (λ z. one * z) e)
cases_over false true one p x y q e h = h
cases_over false false one p x y q e h = omega arith

cases_under : (g l : Bool) (one k p x y q : ℕ) → p ≡ q → x * p ≤ y + k * p
    → cond g one (cond l x 0) * p ≤ cond g (one * q) (cond l y 0) + k * p
cases_under true l one k p x y q e h = omega (arith, ap (λ z. one * z) e)
cases_under false true one k p x y q e h = h
cases_under false false one k p x y q e h = omega arith

module _ (r : Rows) (j : Jumps) (is : IsRowsOf r j) (live goal : ℕ → Bool) (start : ℕ → ℕ) where
  abbrev value : ℕ → ℕ → ℕ
  value = exact_word j live goal start

  abbrev word : ℕ → ℕ → ℕ
  word = high_table r live goal start

  row_same : (k s : ℕ) → s < r.states
      → sum_below j.states (λ t. j.weight s t * value k t) * r.den s ≡ sum_below r.states (λ t. r.num s t * value k t) * j.total
  row_same k s l =
      subst (λ (n : ℕ). sum_below n (λ t. j.weight s t * value k t) * r.den s ≡ sum_below r.states (λ t. r.num s t * value k t) * j.total)
      is.same_states
      (same_rows r.states j.total (r.den s) (j.weight s) (r.num s) (value k) (λ t i. is.same_fractions s t l i))

  pub high_over : (k s : ℕ) → s < r.states → value k s ≤ word k s * j.total ^ k
  high_over zero s l = rw pow-zero (omega arith)
  high_over (suc k) s l =
      rw (pow-suc j.total k)
      (cases_over (goal s) (live s) one_word _ _ _ _ refl
      (row_over (r.den s) j.total (j.total ^ k) _ _ _ (is.positive s l) (row_same k s l)
      (over_sum r.states (j.total ^ k) (r.num s) (word k) (value k) (λ t i. high_over k t i))))

  pub high_under : (k s : ℕ) → s < r.states → word k s * j.total ^ k ≤ value k s + k * j.total ^ k
  high_under zero s l = rw pow-zero (omega arith)
  high_under (suc k) s l =
      let sums : sum_below r.states (λ t. r.num s t * word k t) * j.total ^ k
      ≤ sum_below r.states (λ t. r.num s t * value k t) + k * r.den s * j.total ^ k =
      rw (is.whole s l) at (under_sum r.states (j.total ^ k) k (r.num s) (word k) (value k) (λ t i. high_under k t i)) in
      rw (pow-suc j.total k)
      (cases_under (goal s) (live s) one_word (suc k) _ _ _ _ refl
      (row_under (r.den s) j.total (j.total ^ k) k _ _ _ (is.positive s l) (row_same k s l) sums))

-- ---- the goal's own words
same_cases : (g l : Bool) (one p x y : ℕ) → x ≡ one * y → cond g (one * p) (cond l x 0) ≡ one * cond g p (cond l y 0)
same_cases true l one p x y e = refl
same_cases false true one p x y e = e
same_cases false false one p x y e = omega arith

same_sum : (n one : ℕ) (w x y : ℕ → ℕ) → ((t : ℕ) → x t ≡ one * y t) → sum_below n (λ t. w t * x t) ≡ one * sum_below n (λ t. w t * y t)
same_sum zero one w x y h = omega arith
same_sum (suc n) one w x y h = omega (arith, same_sum n one w x y h, ap (λ z. w n * z) (h n))

same_start : (g : Bool) (one : ℕ) → cond g one 0 ≡ one * cond g 1 0
same_start true one = omega arith
same_start false one = omega arith

pub goal_starts : (j : Jumps) (live goal : ℕ → Bool) (k s : ℕ)
    → exact_word j live goal (set_words goal) k s ≡ one_word * jump_value j live goal k s
goal_starts j live goal zero s = same_start (goal s) one_word
goal_starts j live goal (suc k) s =
    same_cases (goal s) (live s) one_word _ _ _
    (same_sum j.states one_word (j.weight s) _ _ (λ t. goal_starts j live goal k t))

-- ---- a start above all jump values
cases_stay : (g l : Bool) (one p q q' x y : ℕ) → q ≡ q' * p → one * y ≤ x * p
    → one * cond g q (cond l y 0) ≤ cond g (one * q') (cond l x 0) * p
cases_stay true l one p q q' x y e h = omega (arith, ap (λ z. one * z) e)
cases_stay false true one p q q' x y e h = h
cases_stay false false one p q q' x y e h = omega arith

sum_stay : (n one p : ℕ) (w x y : ℕ → ℕ) → ((t : ℕ) → t < n → one * y t ≤ x t * p)
    → one * sum_below n (λ t. w t * y t) ≤ sum_below n (λ t. w t * x t) * p
sum_stay zero one p w x y h = omega arith
sum_stay (suc n) one p w x y h =
    omega (arith, sum_stay n one p w x y (λ t l. h t (omega arith)), mul-le-mul_left (w n) (h n (omega arith)))

pub stays_above : (j : Jumps) (live goal : ℕ → Bool) (start : ℕ → ℕ) (k i s : ℕ)
    → ((t n : ℕ) → t < j.states → one_word * jump_value j live goal n t ≤ start t * j.total ^ n) → s < j.states
    → one_word * jump_value j live goal (k + i) s ≤ exact_word j live goal start k s * j.total ^ i
stays_above j live goal start zero i s h l = rw (zero-add i) (h s i l)
stays_above j live goal start (suc k) i s h l =
    let e : suc k + i ≡ suc (k + i) = omega arith in
    rw e
    (cases_stay (goal s) (live s) one_word (j.total ^ i) _ _ _ _
    (ap (λ z. j.total ^ z) (omega arith) ∙ pow-add j.total (suc k) i)
    (sum_stay j.states one_word (j.total ^ i) (j.weight s) _ _ (λ t m. stays_above j live goal start k i t h m)))
