-- Rows with the same fractions have the same rounded tables, over sets with the same states.
use Rattle.std.proofs.Common.{◌≡◌, ℕ, zero, suc, ◌*◌, ◌/◌, ◌≤◌, ◌<◌, Bool, cond, sym, ap, ◌∙◌, arith}
use Rattle.std.specs.Int.{div_ceil}
use Rattle.std.proofs.Math.Nat.{div-mul-le_self, le_of_mul-le-mul_right, mul-le-mul_right}
use Rattle.std.proofs.lemmas.Nat.{le-div}
use Rattle.ctmc_semantics.specs.Jumps.{Jumps}
use Rattle.ctmc_semantics.specs.RoundedTables.{one_word, low_table, high_table}
use Rattle.ctmc_semantics.specs.Rows.{Rows, IsRowsOf, rows_of}
use Rattle.ctmc_semantics.specs.Sum.{sum_below}
use Rattle.ctmc_semantics.proofs.OneStep.{le_ceil, ceil_le}

-- ---- quotients of the same number are the same
module _ (a d b e : ℕ) (some : 0 < d) (other : 0 < e) (same : a * e ≡ b * d) where
  floor_le : a / d ≤ b / e
  floor_le =
      le-div (a / d) b e other
      (le_of_mul-le-mul_right {k = d} (omega (arith, mul-le-mul_right e (div-mul-le_self a d), same)) some)

  ceiling_le : div_ceil a d ≤ div_ceil b e
  ceiling_le =
      ceil_le a d (div_ceil b e) some
      (le_of_mul-le-mul_right {k = e} (omega (arith, mul-le-mul_right d (le_ceil b e other), same)) other)

floor_same : (a d b e : ℕ) → 0 < d → 0 < e → a * e ≡ b * d → a / d ≡ b / e
floor_same a d b e some other same = omega (arith, floor_le a d b e some other same, floor_le b e a d other some (sym same))

ceiling_same : (a d b e : ℕ) → 0 < d → 0 < e → a * e ≡ b * d → div_ceil a d ≡ div_ceil b e
ceiling_same a d b e some other same = omega (arith, ceiling_le a d b e some other same, ceiling_le b e a d other some (sym same))

-- ---- one row
sums_same : (n d e : ℕ) (w v x y : ℕ → ℕ) → ((t : ℕ) → t < n → w t * e ≡ v t * d) → ((t : ℕ) → t < n → x t ≡ y t)
    → sum_below n (λ t. w t * x t) * e ≡ sum_below n (λ t. v t * y t) * d
sums_same zero d e w v x y h k = omega arith
sums_same (suc n) d e w v x y h k =
    omega (
      arith,
      sums_same n d e w v x y (λ t l. h t (omega arith)) (λ t l. k t (omega arith)),
      ap (λ z. z * x n) (h n (omega arith)),
      ap (λ z. v n * d * z) (k n (omega arith)),
    )

cases_same : (g g' l l' : Bool) (one a b : ℕ) → g ≡ g' → l ≡ l' → a ≡ b → cond g one (cond l a 0) ≡ cond g' one (cond l' b 0)
cases_same g g' l l' one a b e f h =
    ap (λ z. cond g one (cond l z 0)) h ∙ ap (λ z. cond g one (cond z b 0)) f ∙ ap (λ z. cond z one (cond l' b 0)) e

-- ---- two tables of rows of n states, and sets that have the same states
module _ (n : ℕ) (num num' : ℕ → ℕ → ℕ) (den den' : ℕ → ℕ) (live live' goal goal' : ℕ → Bool)
    (fractions : (s t : ℕ) → s < n → t < n → num s t * den' s ≡ num' s t * den s) (positive : (s : ℕ) → s < n → 0 < den s)
    (positive' : (s : ℕ) → s < n → 0 < den' s)
    (same_live : (s : ℕ) → s < n → live s ≡ live' s) (same_goal : (s : ℕ) → s < n → goal s ≡ goal' s) where
  abbrev r : Rows
  r = record { states = n; num = num; den = den }

  abbrev q : Rows
  q = record { states = n; num = num'; den = den' }

  low_same : (k s : ℕ) → s < n → low_table r live goal k s ≡ low_table q live' goal' k s
  low_same zero s l = ap (λ z. cond z one_word 0) (same_goal s l)
  low_same (suc k) s l =
      cases_same (goal s) (goal' s) (live s) (live' s) _ _ _ (same_goal s l) (same_live s l)
      (floor_same _ (den s) _ (den' s) (positive s l) (positive' s l)
      (sums_same n (den s) (den' s) (num s) (num' s) (low_table r live goal k) (low_table q live' goal' k) (λ t m. fractions s t l m)
      (λ t m. low_same k t m)))

  high_same : (start start' : ℕ → ℕ) → ((s : ℕ) → s < n → start s ≡ start' s)
      → (k s : ℕ) → s < n → high_table r live goal start k s ≡ high_table q live' goal' start' k s
  high_same start start' e zero s l = e s l
  high_same start start' e (suc k) s l =
      cases_same (goal s) (goal' s) (live s) (live' s) _ _ _ (same_goal s l) (same_live s l)
      (ceiling_same _ (den s) _ (den' s) (positive s l) (positive' s l)
      (sums_same n (den s) (den' s) (num s) (num' s) (high_table r live goal start k) (high_table q live' goal' start' k)
      (λ t m. fractions s t l m)
      (λ t m. high_same start start' e k t m)))

-- ---- rows that stand for weights have the tables of the weights
module _ (r : Rows) (j : Jumps) (is : IsRowsOf r j) (some : 0 < j.total) (live live' goal goal' : ℕ → Bool)
    (same_live : (s : ℕ) → s < r.states → live s ≡ live' s) (same_goal : (s : ℕ) → s < r.states → goal s ≡ goal' s) where
  fractions_of : (s t : ℕ) → s < r.states → t < r.states → r.num s t * j.total ≡ j.weight s t * r.den s
  fractions_of s t l m = sym (is.same_fractions s t l m)

  pub low_of_rows : (k s : ℕ) → s < r.states → low_table r live goal k s ≡ low_table (rows_of j) live' goal' k s
  low_of_rows k s l =
      low_same r.states r.num j.weight r.den (λ t. j.total) live live' goal goal' fractions_of is.positive (λ t m. some) same_live
      same_goal k s l
      ∙ ap (λ n. low_table (record { states = n; num = j.weight; den = λ t. j.total }) live' goal' k s) is.same_states

  pub high_of_rows : (start start' : ℕ → ℕ) → ((s : ℕ) → s < r.states → start s ≡ start' s)
      → (k s : ℕ) → s < r.states → high_table r live goal start k s ≡ high_table (rows_of j) live' goal' start' k s
  high_of_rows start start' e k s l =
      high_same r.states r.num j.weight r.den (λ t. j.total) live live' goal goal' fractions_of is.positive (λ t m. some) same_live
      same_goal start start' e k s l
      ∙ ap (λ n. high_table (record { states = n; num = j.weight; den = λ t. j.total }) live' goal' start' k s) is.same_states
