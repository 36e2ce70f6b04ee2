-- The numbers of a mixer, and what they are of a plan and two columns.
use Rattle.std.specs.Prelude.{◌≡◌, ℕ, suc, ◌+◌, ◌-◌, ◌*◌, ◌/◌, ◌^◌, ◌≤◌, List, length, slice_index, slice_index_or}
use Rattle.std.specs.Int.{div_ceil}
use Rattle.std.specs.List.{All}
use Rattle.ctmc_semantics.specs.RoundedTables.{one_word}
use Rattle.ctmc_semantics.specs.Sum.{sum_below}
use Rattle.step_core.specs.PlanLists.{PlanLists}
use Rattle.step_core.specs.declared.mix.Mix.{Mix}
use Rattle.step_core.specs.declared.mix.Mix.TheVariants.{Poisson, Last}

-- the number of pairs of words that were added, the sums of the lower and of the upper words' products with the weights, the last pair
-- (0 and 1 where there is none, and any where the mix doesn't need it), what the two sums are divided by in the end, and the sum of the
-- high weights of the layers that are missing
pub record MixNumbers : Type 0 where
  pub count : ℕ
  pub low : ℕ
  pub high : ℕ
  pub last_low : ℕ
  pub last_high : ℕ
  pub low_divisor : ℕ
  pub high_divisor : ℕ
  pub rest : ℕ

-- the sum of the low weights of the first n layers
abbrev pub low_weights : Mix → ℕ → ℕ
low_weights (Poisson weights bits) n = sum_below n (slice_index weights.low)
low_weights Last n = 0

-- the sum of the high weights of the first n layers
abbrev pub high_weights : Mix → ℕ → ℕ
high_weights (Poisson weights bits) n = sum_below n (slice_index weights.high)
high_weights Last n = 0

-- the sum of the first n lower words, each times its low weight and then rounded down to units of `2^14`
abbrev pub low_sum : Mix → ℕ → (ℕ → ℕ) → ℕ
low_sum (Poisson weights bits) n x = sum_below n (λ k. slice_index weights.low k * x k / 2 ^ 14)
low_sum Last n x = 0

-- the sum of the first n upper words, each times its high weight and then rounded up to units of `2^14`
abbrev pub high_sum : Mix → ℕ → (ℕ → ℕ) → ℕ
high_sum (Poisson weights bits) n y = sum_below n (λ k. div_ceil (slice_index weights.high k * y k) (2 ^ 14))
high_sum Last n y = 0

-- the mixer's last pair is that of the two columns
pub record HasLast (m : MixNumbers) (xs ys : List ℕ) : Type 0 where
  pub low : m.last_low ≡ slice_index_or xs (m.count - 1) 0
  pub high : m.last_high ≡ slice_index_or ys (m.count - 1) one_word

-- the mixer keeps the last pair if its mix needs it: the averages of a bounded until don't
abbrev pub KeepsLast : Mix → MixNumbers → List ℕ → List ℕ → Type 0
KeepsLast (Poisson weights bits) m xs ys = Unit {0}
KeepsLast Last m xs ys = HasLast m xs ys

-- the mixer stands for the plan and two columns, the lower and the upper words of the first layers: they are no longer than the plan's own,
-- no word is above 1, and the numbers are those of the plan and the columns
pub record StandsFor (plan : PlanLists) (m : MixNumbers) (xs ys : List ℕ) : Type 0 where
  pub low_count : length xs ≡ m.count
  pub high_count : length ys ≡ m.count
  pub few : m.count ≤ suc plan.layers
  pub low_words : All (λ w. w ≤ one_word) xs
  pub high_words : All (λ w. w ≤ one_word) ys
  pub low : m.low ≡ low_sum plan.mix m.count (slice_index xs)
  pub high : m.high ≡ high_sum plan.mix m.count (slice_index ys)
  pub last : KeepsLast plan.mix m xs ys
  pub low_divisor : m.low_divisor ≡ div_ceil (high_weights plan.mix (suc plan.layers)) (2 ^ 14)
  pub high_divisor : m.high_divisor ≡ low_weights plan.mix (suc plan.layers) / 2 ^ 14
  pub rest : high_weights plan.mix m.count + m.rest ≡ high_weights plan.mix (suc plan.layers)
