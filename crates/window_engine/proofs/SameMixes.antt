-- The mix reads the words of the plan's layers alone.
use Rattle.std.proofs.Common.{◌≡◌, ℕ, suc, ◌+◌, ◌-◌, ◌*◌, ◌/◌, ◌^◌, ◌≤◌, min, refl, ap, arith}
use Rattle.std.specs.Prelude.{slice_index}
use Rattle.std.specs.Int.{div_ceil}
use Rattle.std.proofs.lemmas.List.FromFn.{get_or-map-range_with_len}
use Rattle.ctmc_semantics.specs.RoundedTables.{one_word}
use Rattle.ctmc_semantics.specs.Sum.{sum_below}
use Rattle.ctmc_semantics.specs.WordBracket.{WordBracket}
use Rattle.ctmc_semantics.proofs.Sums.{sum_below-same}
use Rattle.step_core.specs.PlanLists.{PlanLists}
use Rattle.step_core.specs.PlanTables.{plan_low, plan_high}
use Rattle.step_core.specs.declared.mix.Mix.{Mix}
use Rattle.step_core.specs.declared.mix.Mix.TheVariants.{Poisson, Last}
use Rattle.mix_columns.specs.Mixed.{mixed_words, plan_mix, whole_mix}
use Rattle.window_engine.specs.PlanLayers.{first_lows, first_highs}

brackets_same : (a b c d : ℕ) → a ≡ b → c ≡ d
    → let x : WordBracket = record { lower = a; upper = c } in
    let y : WordBracket = record { lower = b; upper = d } in x ≡ y
brackets_same a b c d e f = rw (e, f) refl

mix_same : (last : ℕ) (mix : Mix) (x y u v : ℕ → ℕ) → ((k : ℕ) → k ≤ last → x k ≡ u k) → ((k : ℕ) → k ≤ last → y k ≡ v k)
    → mixed_words last mix x y ≡ mixed_words last mix u v
mix_same last (Poisson weights bits) x y u v h i =
    let low = slice_index weights.low in
    let high = slice_index weights.high in
    let lows : sum_below (suc last) (λ k. low k * x k / 2 ^ 14) ≡ sum_below (suc last) (λ k. low k * u k / 2 ^ 14) =
    sum_below-same (suc last) _ _ (λ k l. ap (λ z. low k * z / 2 ^ 14) (h k (omega arith))) in
    let highs : sum_below (suc last) (λ k. div_ceil (high k * y k) (2 ^ 14))
    ≡ sum_below (suc last) (λ k. div_ceil (high k * v k) (2 ^ 14)) =
    sum_below-same (suc last) _ _ (λ k l. ap (λ z. div_ceil (high k * z) (2 ^ 14)) (i k (omega arith))) in
    brackets_same _ _ _ _ (ap (λ z. z / div_ceil (sum_below (suc last) high) (2 ^ 14)) lows)
    (ap (λ z. min one_word (div_ceil z (sum_below (suc last) low / 2 ^ 14) + 2 ^ (62 - bits))) highs)
mix_same last Last x y u v h i = brackets_same _ _ _ _ (h last (omega arith)) (i last (omega arith))

pub whole_is : (plan : PlanLists) (s : ℕ)
    → whole_mix plan (first_lows plan (suc plan.layers) s) (first_highs plan (suc plan.layers) s)
    ≡ plan_mix plan (λ k. plan_low plan k s) (λ k. plan_high plan k s)
whole_is plan s =
    mix_same plan.layers plan.mix _ _ _ _
    (λ k l. get_or-map-range_with_len (λ k. plan_low plan k s) 0 (suc plan.layers) k k 0 (omega arith) (omega arith))
    (λ k l. get_or-map-range_with_len (λ k. plan_high plan k s) 0 (suc plan.layers) k k 0 (omega arith) (omega arith))
