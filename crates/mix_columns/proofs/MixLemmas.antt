-- What a mixer's numbers are, step by step.
use Rattle.std.proofs.Common.{◌≡◌, ℕ, suc, ◌+◌, ◌-◌, ◌*◌, ◌/◌, ◌^◌, ◌≤◌, ◌<◌, List, [], ◌∷◌, ◌++◌, length, get_or, min, refl, sym, ap}
use Rattle.std.proofs.Common.{subst, ◌∙◌, arith, add-one, length-append}
use Rattle.std.proofs.lemmas.List.{get_or_default, get_or_past}
use Rattle.std.proofs.lemmas.List.Elements.{All-push}
use Rattle.std.specs.Int.{div_ceil}
use Rattle.std.specs.Prelude.{slice_index}
use Rattle.ctmc_semantics.specs.RoundedTables.{one_word}
use Rattle.ctmc_semantics.specs.Sum.{sum_below}
use Rattle.ctmc_semantics.specs.WordBracket.{WordBracket}
use Rattle.ctmc_semantics.proofs.Sums.{sum_below-same, sum_below-front}
use Rattle.step_core.specs.PlanLists.{PlanLists}
use Rattle.step_core.specs.SoundPlan.{IsSoundPlan, IsSoundPoisson, IsSoundMix}
use Rattle.step_core.specs.WeightLists.{WeightLists}
use Rattle.step_core.specs.declared.mix.Mix.{Mix}
use Rattle.step_core.specs.declared.mix.Mix.TheVariants.{Poisson, Last}
use Rattle.mix_columns.specs.Mixed.{rest_mix}
use Rattle.mix_columns.specs.MixNumbers.{MixNumbers, StandsFor}
use Rattle.mix_columns.proofs.Columns.{old_word, new_word, capped_word}
use Rattle.mix_columns.proofs.WeightLemmas.{ceil_one, sum_filled, sum_cut, floor_positive, ceil_positive, lower_le, floors_le, weights_le}
use Rattle.mix_columns.proofs.WeightLemmas.{ceils_le}

-- the pair that is added is the last one
pub last_added : (xs : List ℕ) (x n d : ℕ) → length xs ≡ n → x ≡ get_or (xs ++ x ∷ []) (n + 1 - 1) d
last_added xs x n d e =
    let at : n + 1 - 1 ≡ n = omega arith in
    rw at (sym (new_word xs x n d (sym e)))

-- ---- of a bounded until
module _ (plan : PlanLists) (m : MixNumbers) (xs ys : List ℕ) (weights : WeightLists) (bits : ℕ) (sound : IsSoundPlan plan)
    (stands : StandsFor plan m xs ys) (is : plan.mix ≡ Poisson weights bits) where
  abbrev low : ℕ → ℕ
  low = slice_index weights.low

  abbrev high : ℕ → ℕ
  high = slice_index weights.high

  poisson : IsSoundPoisson plan.layers weights bits
  poisson = subst (IsSoundMix plan.layers) is sound.mix

  pub low_inside : m.count ≤ plan.layers → m.count < length weights.low
  low_inside room = omega (arith, poisson.weights_sound.low_layers)

  pub high_inside : m.count ≤ plan.layers → m.count < length weights.high
  high_inside room = omega (arith, poisson.weights_sound.high_layers)

  low_is : m.low ≡ sum_below m.count (λ k. low k * slice_index xs k / 2 ^ 14)
  low_is = rw is at stands.low

  high_is : m.high ≡ sum_below m.count (λ k. div_ceil (high k * slice_index ys k) (2 ^ 14))
  high_is = rw is at stands.high

  low_divisor_is : m.low_divisor ≡ div_ceil (sum_below (suc plan.layers) high) (2 ^ 14)
  low_divisor_is = rw is at stands.low_divisor

  high_divisor_is : m.high_divisor ≡ sum_below (suc plan.layers) low / 2 ^ 14
  high_divisor_is = rw is at stands.high_divisor

  rest_is : sum_below m.count high + m.rest ≡ sum_below (suc plan.layers) high
  rest_is = rw is at stands.rest

  x_small : (k : ℕ) → slice_index xs k ≤ 2 ^ 62
  x_small k = capped_word xs stands.low_words k 0 (omega arith)

  y_small : (k : ℕ) → slice_index ys k ≤ 2 ^ 62
  y_small k = capped_word ys stands.high_words k 0 (omega arith)

  pub low_divisor_positive : 0 < m.low_divisor
  low_divisor_positive = rw low_divisor_is (ceil_positive plan.layers weights poisson.weights_sound)

  pub high_divisor_positive : 0 < m.high_divisor
  high_divisor_positive = rw high_divisor_is (floor_positive plan.layers weights poisson.weights_sound)

  -- the words past the column count as 0
  low_filled : m.low ≡ sum_below (suc plan.layers) (λ k. low k * slice_index xs k / 2 ^ 14)
  low_filled =
      low_is
      ∙ sym (sum_cut (suc plan.layers) m.count (λ k. low k * slice_index xs k / 2 ^ 14) stands.few
      (λ k l. let past : get_or xs k 0 ≡ 0 = get_or_past xs k 0 (omega (arith, stands.low_count)) in rw past (omega arith)))

  pub lower_at_most_one : m.low / m.low_divisor ≤ 2 ^ 62
  lower_at_most_one =
      rw (low_filled, low_divisor_is) (lower_le plan.layers weights poisson.weights_sound (slice_index xs) (λ k l. x_small k))

  pub low_room : m.low ≤ m.count * 2 ^ 110
  low_room = rw low_is (floors_le plan.layers weights poisson.weights_sound m.count (slice_index xs) stands.few x_small)

  -- the missing words count as 1
  pub rest_room : m.high + m.rest * 2 ^ 48 ≤ 16385 * 2 ^ 110
  rest_room =
      omega (
        arith,
        high_is,
        ceils_le plan.layers weights poisson.weights_sound m.count (slice_index ys) (λ k l. y_small k),
        rest_is,
        weights_le plan.layers weights poisson.weights_sound (suc plan.layers) (omega arith),
        sound.few_layers,
      )

  high_filled : m.high + m.rest * 2 ^ 48 ≡ sum_below (suc plan.layers) (λ k. div_ceil (high k * get_or ys k one_word) (2 ^ 14))
  high_filled =
      omega (
        arith,
        high_is,
        rest_is,
        sum_filled (suc plan.layers) m.count (2 ^ 48) (λ k. div_ceil (high k * get_or ys k one_word) (2 ^ 14))
            (λ k. div_ceil (high k * slice_index ys k) (2 ^ 14)) high stands.few
            (λ k l. ap (λ z. div_ceil (high k * z) (2 ^ 14)) (get_or_default ys k one_word 0 (omega (arith, stands.high_count))))
            (λ k l. ap (λ z. div_ceil (high k * z) (2 ^ 14)) (get_or_past ys k one_word (omega (arith, stands.high_count)))
            ∙ ceil_one (high k)),
      )

  -- the bracket over the numbers, with the missing words
  pub rest_words : (l u : ℕ) → l ≡ m.low / m.low_divisor
      → u ≡ min one_word (div_ceil (m.high + m.rest * 2 ^ 48) m.high_divisor + 2 ^ (62 - bits))
      → let b : WordBracket = record { lower = l; upper = u } in b ≡ rest_mix plan xs ys
  rest_words l u e f =
      let lower : l ≡ sum_below (suc plan.layers) (λ k. low k * slice_index xs k / 2 ^ 14)
      / div_ceil (sum_below (suc plan.layers) high) (2 ^ 14) = e ∙ rw (low_filled, low_divisor_is) refl in
      let upper : u ≡ min one_word
      (div_ceil (sum_below (suc plan.layers) (λ k. div_ceil (high k * get_or ys k one_word) (2 ^ 14)))
      (sum_below (suc plan.layers) low / 2 ^ 14) + 2 ^ (62 - bits)) = f ∙ rw (high_filled, high_divisor_is) refl in
      rw (is, lower, upper) refl

  pub weight_left : (hw : ℕ) → m.count ≤ plan.layers → hw ≡ high m.count → hw ≤ m.rest
  weight_left hw room e = omega (arith, rest_is, e, sum_below-front (suc m.count) (suc plan.layers) high (omega arith))

  pub two_left : (hw hv : ℕ) → m.count < plan.layers → hw ≡ high m.count → hv ≡ high (m.count + 1) → hw + hv ≤ m.rest
  two_left hw hv room e f =
      let next : m.count + 1 ≡ suc m.count = omega arith in
      omega (arith, rest_is, e, f, ap high next, sum_below-front (suc (suc m.count)) (suc plan.layers) high (omega arith))

  module _ (x y lw hw kept_low kept_high : ℕ) (room : m.count ≤ plan.layers) (x_word : x ≤ 2 ^ 62) (y_word : y ≤ 2 ^ 62)
      (lw_is : lw ≡ low m.count) (hw_is : hw ≡ high m.count) where
    pub added : StandsFor plan record {
      count = m.count + 1;
      low = m.low + lw * x / 2 ^ 14;
      high = m.high + div_ceil (hw * y) (2 ^ 14);
      last_low = kept_low;
      last_high = kept_high;
      low_divisor = m.low_divisor;
      high_divisor = m.high_divisor;
      rest = m.rest - hw;
    } (xs ++ x ∷ []) (ys ++ y ∷ [])
    added = record {
      low_count = omega (arith, length-append {A = ℕ} xs (x ∷ []), stands.low_count);
      high_count = omega (arith, length-append {A = ℕ} ys (y ∷ []), stands.high_count);
      few = omega (arith, room);
      low_words = All-push (λ w. w ≤ 2 ^ 62) xs x stands.low_words x_word;
      high_words = All-push (λ w. w ≤ 2 ^ 62) ys y stands.high_words y_word;
      low =
          rw (is, add-one m.count, new_word xs x m.count 0 (sym stands.low_count), lw_is)
          (ap (λ z. z + low m.count * x / 2 ^ 14)
          (low_is
          ∙ sum_below-same m.count (λ k. low k * slice_index xs k / 2 ^ 14) (λ k. low k * get_or (xs ++ x ∷ []) k 0 / 2 ^ 14)
          (λ k l. ap (λ z. low k * z / 2 ^ 14) (sym (old_word xs x k 0 (omega (arith, stands.low_count)))))));
      high =
          rw (is, add-one m.count, new_word ys y m.count 0 (sym stands.high_count), hw_is)
          (ap (λ z. z + div_ceil (high m.count * y) (2 ^ 14))
          (high_is
          ∙ sum_below-same m.count (λ k. div_ceil (high k * slice_index ys k) (2 ^ 14))
          (λ k. div_ceil (high k * get_or (ys ++ y ∷ []) k 0) (2 ^ 14))
          (λ k l. ap (λ z. div_ceil (high k * z) (2 ^ 14)) (sym (old_word ys y k 0 (omega (arith, stands.high_count)))))));
      last = rw is tt;
      low_divisor = stands.low_divisor;
      high_divisor = stands.high_divisor;
      rest = rw (is, add-one m.count) (omega (arith, rest_is, weight_left hw room hw_is, hw_is));
    }

-- ---- of an unbounded until
pub other_is_last : (mix : Mix) → ((weights : WeightLists) (bits : ℕ) → mix ≡ Poisson weights bits → ⊥) → mix ≡ Last
other_is_last (Poisson weights bits) none = absurd (none weights bits refl)
other_is_last Last none = refl

module _ (plan : PlanLists) (m : MixNumbers) (xs ys : List ℕ) (x y : ℕ) (stands : StandsFor plan m xs ys) (is : plan.mix ≡ Last)
    (room : m.count ≤ plan.layers) (x_word : x ≤ 2 ^ 62) (y_word : y ≤ 2 ^ 62) where
  pub added_last : StandsFor plan record {
    count = m.count + 1;
    low = m.low;
    high = m.high;
    last_low = x;
    last_high = y;
    low_divisor = m.low_divisor;
    high_divisor = m.high_divisor;
    rest = m.rest;
  } (xs ++ x ∷ []) (ys ++ y ∷ [])
  added_last = record {
    low_count = omega (arith, length-append {A = ℕ} xs (x ∷ []), stands.low_count);
    high_count = omega (arith, length-append {A = ℕ} ys (y ∷ []), stands.high_count);
    few = omega (arith, room);
    low_words = All-push (λ w. w ≤ 2 ^ 62) xs x stands.low_words x_word;
    high_words = All-push (λ w. w ≤ 2 ^ 62) ys y stands.high_words y_word;
    low = let old = rw is at stands.low in rw is old;
    high = let old = rw is at stands.high in rw is old;
    last =
        rw is
        (record { low = last_added xs x m.count 0 stands.low_count; high = last_added ys y m.count one_word stands.high_count });
    low_divisor = stands.low_divisor;
    high_divisor = stands.high_divisor;
    rest = let old = rw is at stands.rest in rw is old;
  }
