-- The limit of each word of a board is its table's word.
use Rattle.std.proofs.Common.{◌≡◌, ℕ, suc, ◌+◌, ◌*◌, ◌/◌, ◌%◌, ◌<◌, ◌≤◌, List, ◌∷◌, ◌++◌, length, sym, ap, ◌∙◌, arith}
use Rattle.std.proofs.lemmas.Nat.{div-mul-add, mod-mul-add}
use Rattle.std.proofs.lemmas.List.FromFn.{get_or-map-range_with_len, length-map-range_with_len}
use Rattle.std.proofs.lemmas.List.{get_or_append_left, get_or-append-add, get_or-replicate, length-replicate}
use Rattle.std.proofs.Math.ListN.{length-append}
use Rattle.std.specs.Prelude.{slice_index}
use Rattle.step_core.specs.Limits.{sizes_of, table_words, seal_limits, last_limits, limits_of}
use Rattle.step_core.specs.Places.{Sizes, cells, blocks, lower_place, upper_place, seal_place, ticket_place, stop_place, word_count}
use Rattle.step_core.specs.PlanLists.{PlanLists}
use Rattle.step_core.specs.PlanTables.{plan_low, plan_high}
use Rattle.step_core.specs.declared.draws.TheConstants.{MOST_DRAWS}
use Rattle.step_core.proofs.PlaceLemmas.{in_row}

-- three lists behind word 0
module _ (xs ys zs : List ℕ) where
  abbrev row : List ℕ
  row = 0 ∷ (xs ++ ys ++ zs)

  pub row_first : (m : ℕ) → m < length xs → slice_index row (1 + m) ≡ slice_index xs m
  row_first m h =
      let e : 1 + m ≡ suc m = omega arith in
      let l : m < length (xs ++ ys) = omega (arith, length-append xs ys) in
      ap (slice_index row) e ∙ (get_or_append_left (xs ++ ys) zs 0 m l ∙ get_or_append_left xs ys 0 m h)

  pub row_second : (m : ℕ) → m < length ys → slice_index row (1 + (length xs + m)) ≡ slice_index ys m
  row_second m h =
      let e : 1 + (length xs + m) ≡ suc (length xs + m) = omega arith in
      let l : length xs + m < length (xs ++ ys) = omega (arith, length-append xs ys) in
      ap (slice_index row) e ∙ (get_or_append_left (xs ++ ys) zs 0 (length xs + m) l ∙ get_or-append-add xs ys m 0)

  pub row_third : (m : ℕ) → slice_index row (1 + (length xs + length ys + m)) ≡ slice_index zs m
  row_third m =
      let e : 1 + (length xs + length ys + m) ≡ suc (length (xs ++ ys) + m) = omega (arith, length-append xs ys) in
      ap (slice_index row) e ∙ get_or-append-add (xs ++ ys) zs m 0

  pub length_row : length row ≡ 1 + (length xs + length ys + length zs)
  length_row = omega (arith, length-append (xs ++ ys) zs, length-append xs ys)

module _ (z : Sizes) (word : ℕ → ℕ → ℕ) where
  pub length-table_words : length (table_words z word) ≡ cells z
  unfolding table_words
  length-table_words = length-map-range_with_len (λ (i : ℕ). word (i / z.states) (i % z.states)) 0 (cells z)

  pub table_word_at : (m : ℕ) → m < cells z → slice_index (table_words z word) m ≡ word (m / z.states) (m % z.states)
  unfolding table_words
  table_word_at m lt =
      get_or-map-range_with_len (λ (i : ℕ). word (i / z.states) (i % z.states)) 0 (cells z) m m 0 lt (omega arith)

  pub table_word : (k s : ℕ) → k ≤ z.layers → s < z.states → slice_index (table_words z word) (k * z.states + s) ≡ word k s
  table_word k s le lt =
      table_word_at (k * z.states + s) (in_row z.layers k z.states s le lt)
      ∙ (λ t. word (div-mul-add k z.states s lt t) (mod-mul-add k z.states s lt t))

module _ (plan : PlanLists) where
  abbrev z : Sizes
  z = sizes_of plan

  abbrev low : List ℕ
  low = table_words z (plan_low plan)

  abbrev high : List ℕ
  high = table_words z (plan_high plan)

  abbrev seals : ℕ
  seals = (plan.layers + 1) * blocks z

  abbrev ones : List ℕ
  ones = seal_limits plan

  abbrev rest : List ℕ
  rest = ones ++ last_limits

  lows : length low ≡ cells z
  lows = length-table_words z (plan_low plan)

  highs : length high ≡ cells z
  highs = length-table_words z (plan_high plan)

  count_ones : length ones ≡ seals
  count_ones = length-replicate {A = ℕ} seals 1

  count_rest : length rest ≡ seals + 2
  count_rest = omega (arith, length-append ones last_limits, count_ones)

  pub length-limits : length (limits_of plan) ≡ word_count z
  length-limits = omega (arith, length_row low high rest, lows, highs, count_rest)

  -- ---- by the place among the words of one kind
  pub lower_limit_at : (m : ℕ) → m < cells z → slice_index (limits_of plan) (1 + m) ≡ slice_index low m
  lower_limit_at m h = row_first low high rest m (omega (arith, lows))

  pub upper_limit_at : (m : ℕ) → m < cells z → slice_index (limits_of plan) (1 + (cells z + m)) ≡ slice_index high m
  upper_limit_at m h =
      ap (λ (n : ℕ). slice_index (limits_of plan) (1 + (n + m))) (sym lows) ∙ row_second low high rest m (omega (arith, highs))

  rest_at : (m : ℕ) → slice_index (limits_of plan) (1 + (2 * cells z + m)) ≡ slice_index rest m
  rest_at m =
      let e : 1 + (2 * cells z + m) ≡ 1 + (length low + length high + m) = omega (arith, lows, highs) in
      ap (slice_index (limits_of plan)) e ∙ row_third low high rest m

  pub seal_limit_at : (m : ℕ) → m < (plan.layers + 1) * blocks z → slice_index (limits_of plan) (1 + (2 * cells z + m)) ≡ 1
  seal_limit_at m h =
      rest_at m ∙ (get_or_append_left ones last_limits 0 m (omega (arith, count_ones, h)) ∙ get_or-replicate _ m 1 0 h)

  last_at : (m : ℕ) → slice_index (limits_of plan) (1 + (2 * cells z + (seals + m))) ≡ slice_index last_limits m
  last_at m =
      rest_at (seals + m)
      ∙ (ap (λ (n : ℕ). slice_index rest (n + m)) (sym count_ones) ∙ get_or-append-add ones last_limits m 0)

  pub ticket_limit : slice_index (limits_of plan) (ticket_place z) ≡ MOST_DRAWS
  ticket_limit =
      let e : ticket_place z ≡ 1 + (2 * cells z + (seals + 0)) = omega arith in
      ap (slice_index (limits_of plan)) e ∙ last_at 0

  pub stop_limit : slice_index (limits_of plan) (stop_place z) ≡ 1
  stop_limit = last_at 1

  -- ---- by layer, and state or block
  module _ (k s : ℕ) (le : k ≤ plan.layers) (lt : s < z.states) where
    pub lower_limit : slice_index (limits_of plan) (lower_place z k s) ≡ plan_low plan k s
    lower_limit =
        lower_limit_at (k * z.states + s) (in_row plan.layers k z.states s le lt) ∙ table_word z (plan_low plan) k s le lt

    pub upper_limit : slice_index (limits_of plan) (upper_place z k s) ≡ plan_high plan k s
    upper_limit =
        upper_limit_at (k * z.states + s) (in_row plan.layers k z.states s le lt) ∙ table_word z (plan_high plan) k s le lt

  pub seal_limit : (k b : ℕ) → k ≤ plan.layers → b < blocks z → slice_index (limits_of plan) (seal_place z k b) ≡ 1
  seal_limit k b le lt = seal_limit_at (k * blocks z + b) (in_row plan.layers k (blocks z) b le lt)
