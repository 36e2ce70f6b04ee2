-- A row's value rises with its words and is never above 1, and so are the tables.
use Rattle.std.proofs.Common.{◌≡◌, ℕ, zero, suc, ◌-◌, ◌*◌, ◌/◌, ◌<◌, ◌≤◌, Bool, true, false, length, sym, ap, subst, le_refl, le_trans, zero-le, arith}
use Rattle.std.proofs.Math.Nat.{mul-le-mul_left, div-mul-le_self, le_of_mul-le-mul_right}
use Rattle.std.proofs.lemmas.Nat.{le-div}
use Rattle.std.specs.Prelude.{slice_index, if◌then◌else◌}
use Rattle.std.specs.Int.{div_ceil}
use Rattle.ctmc_semantics.specs.RoundedTables.{one_word}
use Rattle.ctmc_semantics.specs.Rows.{Rows}
use Rattle.ctmc_semantics.specs.Sets.{holds_at}
use Rattle.ctmc_semantics.specs.Sum.{sum_below}
use Rattle.ctmc_semantics.proofs.OneStep.{le_ceil, ceil_le}
use Rattle.ctmc_semantics.proofs.Sums.{sum_below-le, sum_below-mul}
use Rattle.step_core.specs.Events.{plan_row_low, plan_row_high}
use Rattle.step_core.specs.FrameRows.{frame_rows}
use Rattle.step_core.specs.PlanLaws.{IsWholeRow}
use Rattle.step_core.specs.PlanLists.{PlanLists}
use Rattle.step_core.specs.PlanTables.{plan_low, plan_high}
use Rattle.step_core.specs.SoundPlan.{IsSoundPlan, starts_at_one}
use Rattle.step_core.proofs.Layers.{set_word_le}
use Rattle.step_core.proofs.PlanTableLemmas.{whole_row}

-- ---- the three cases of a row's value
choice_le : (g l : Bool) (a b : ℕ) → a ≤ b → (if g then one_word else (if l then a else 0)) ≤ (if g then one_word else (if l then b else 0))
choice_le true l a b h = le_refl one_word
choice_le false true a b h = h
choice_le false false a b h = zero-le

choice_le_one : (g l : Bool) (a : ℕ) → a ≤ one_word → (if g then one_word else (if l then a else 0)) ≤ one_word
choice_le_one true l a h = le_refl one_word
choice_le_one false true a h = h
choice_le_one false false a h = zero-le

-- ---- quotients
div_rises : (x y d : ℕ) → 0 < d → x ≤ y → x / d ≤ y / d
div_rises x y d pos h = le-div (x / d) y d pos (le_trans (div-mul-le_self x d) h)

ceil_rises : (x y d : ℕ) → 0 < d → x ≤ y → div_ceil x d ≤ div_ceil y d
ceil_rises x y d pos h = ceil_le x d (div_ceil y d) pos (le_trans h (le_ceil y d pos))

div_le_one : (x d : ℕ) → 0 < d → x ≤ one_word * d → x / d ≤ one_word
div_le_one x d pos h = le_of_mul-le-mul_right {k = d} (le_trans (div-mul-le_self x d) h) pos

module _ (plan : PlanLists) (sound : IsSoundPlan plan) where
  abbrev r : Rows
  r = frame_rows plan.frame.rows

  abbrev n : ℕ
  n = length plan.frame.rows

  abbrev products : (ℕ → ℕ) → ℕ → ℕ
  products x s = sum_below n (λ t. r.num s t * x t)

  products_rise : (x y : ℕ → ℕ) → ((t : ℕ) → t < n → x t ≤ y t) → (s : ℕ) → products x s ≤ products y s
  products_rise x y h s = sum_below-le n (λ t. r.num s t * x t) (λ t. r.num s t * y t) (λ t l. mul-le-mul_left (r.num s t) (h t l))

  whole : (s : ℕ) → s < n → IsWholeRow r s
  whole s lt = whole_row plan.frame s sound.frame lt

  products_le : (x : ℕ → ℕ) → ((t : ℕ) → t < n → x t ≤ one_word) → (s : ℕ) → s < n → products x s ≤ one_word * r.den s
  products_le x h s lt =
      let all = sum_below-le n (λ t. r.num s t * x t) (λ t. one_word * r.num s t)
      (λ t l. let m = mul-le-mul_left (r.num s t) (h t l) in omega (arith, m)) in
      let w = whole s lt in
      let e = w.whole in
      subst (λ (d : ℕ). products x s ≤ one_word * d) e (le_trans all (omega (arith, sum_below-mul n one_word (r.num s))))

  module _ (s : ℕ) (lt : s < n) where
    positive : 0 < r.den s
    positive = (whole s lt).positive

    pub row_low_rises : (x y : ℕ → ℕ) → ((t : ℕ) → t < n → x t ≤ y t) → plan_row_low plan x s ≤ plan_row_low plan y s
    row_low_rises x y h =
        choice_le (holds_at plan.frame.sets.goal_must s) (holds_at plan.frame.sets.live_must s) (products x s / r.den s)
        (products y s / r.den s)
        (div_rises (products x s) (products y s) (r.den s) positive (products_rise x y h s))

    pub row_high_rises : (x y : ℕ → ℕ) → ((t : ℕ) → t < n → x t ≤ y t) → plan_row_high plan x s ≤ plan_row_high plan y s
    row_high_rises x y h =
        choice_le (holds_at plan.frame.sets.goal_may s) (holds_at plan.frame.sets.live_may s) (div_ceil (products x s) (r.den s))
        (div_ceil (products y s) (r.den s))
        (ceil_rises (products x s) (products y s) (r.den s) positive (products_rise x y h s))

    row_low_le : (x : ℕ → ℕ) → ((t : ℕ) → t < n → x t ≤ one_word) → plan_row_low plan x s ≤ one_word
    row_low_le x h =
        choice_le_one (holds_at plan.frame.sets.goal_must s) (holds_at plan.frame.sets.live_must s) (products x s / r.den s)
        (div_le_one (products x s) (r.den s) positive (products_le x h s lt))

    row_high_le : (x : ℕ → ℕ) → ((t : ℕ) → t < n → x t ≤ one_word) → plan_row_high plan x s ≤ one_word
    row_high_le x h =
        choice_le_one (holds_at plan.frame.sets.goal_may s) (holds_at plan.frame.sets.live_may s) (div_ceil (products x s) (r.den s))
        (ceil_le (products x s) (r.den s) one_word positive (products_le x h s lt))

  -- ---- the tables
  pub low_le_one : (k s : ℕ) → s < n → plan_low plan k s ≤ one_word
  low_le_one zero s lt = set_word_le (holds_at plan.frame.sets.goal_must s)
  low_le_one (suc k) s lt = row_low_le s lt (plan_low plan k) (low_le_one k)

  pub start_le_one : (s : ℕ) → s < n → slice_index plan.start_upper s ≤ one_word
  start_le_one s lt =
      subst (λ (x : ℕ). x ≤ one_word) (sym (sound.start s lt))
      (set_word_le (starts_at_one plan.mix (holds_at plan.frame.sets.goal_may) (holds_at plan.reach) s))

  pub high_le_one : (k s : ℕ) → s < n → plan_high plan k s ≤ one_word
  high_le_one zero s lt = start_le_one s lt
  high_le_one (suc k) s lt = row_high_le s lt (plan_high plan k) (high_le_one k)

-- a table's step at a layer above 0
pub low_next : (plan : PlanLists) (k s : ℕ) → 0 < k → plan_low plan k s ≡ plan_row_low plan (plan_low plan (k - 1)) s
low_next plan zero s above = absurd (omega arith)
low_next plan (suc k) s above = let e : k ≡ suc k - 1 = omega arith in ap (λ (j : ℕ). plan_row_low plan (plan_low plan j) s) e

pub high_next : (plan : PlanLists) (k s : ℕ) → 0 < k → plan_high plan k s ≡ plan_row_high plan (plan_high plan (k - 1)) s
high_next plan zero s above = absurd (omega arith)
high_next plan (suc k) s above = let e : k ≡ suc k - 1 = omega arith in ap (λ (j : ℕ). plan_row_high plan (plan_high plan j) s) e
