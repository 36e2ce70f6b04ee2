-- Lists that are written outward from the mode.
use Rattle.std.proofs.Common.{◌≡◌, ℕ, ◌+◌, ◌-◌, ◌*◌, ◌/◌, ◌^◌, ◌≤◌, ◌<◌, ◌≢◌, List, ◌++◌, length, get_or, set, take, drop, sym, ◌∙◌}
use Rattle.std.proofs.Common.{arith, add-one, get_or-set_other, get_or-set_same}
use Rattle.std.proofs.Math.Decide.{dec_le}
use Rattle.std.proofs.Math.Seq.{take-append_seam}
use Rattle.std.specs.Int.{div_ceil}
use Rattle.ctmc_semantics.specs.Fraction.{Fraction}
use Rattle.ctmc_semantics.specs.Weights.{mode, fine_load, low_weight, high_weight}
use Rattle.ctmc_semantics.proofs.ColumnLemmas.{one_more_place}
use Rattle.ctmc_semantics.proofs.WeightsNear.{ordered}
use Rattle.step_core.specs.PlanLoad.{AreWeightsOf}
use Rattle.step_core.specs.SoundPlan.{AreSoundWeights}
use Rattle.poisson_tail.proofs.Outward.{low_weight-above, high_weight-above, low_weight-below, high_weight-below, low_weight-mode}
use Rattle.poisson_tail.proofs.Outward.{high_weight-mode, high_weight-at_most_one}

-- ---- one word more: f the words that the list is to have
at_place : (f : ℕ → ℕ) (xs : List ℕ) (p v j : ℕ) → j ≡ p → p < length xs → v ≡ f p → get_or (set xs p v) j 0 ≡ f j
at_place f xs p v j e l h = rw (e, get_or-set_same xs p v 0 l) h

-- below those that are written
one_below : (f : ℕ → ℕ) (xs : List ℕ) (m i v : ℕ) → 0 < i → i ≤ m → m < length xs
    → ((j : ℕ) → i ≤ j → j ≤ m → get_or xs j 0 ≡ f j) → v ≡ f (i - 1)
    → (j : ℕ) → i - 1 ≤ j → j ≤ m → get_or (set xs (i - 1) v) j 0 ≡ f j
one_below f xs m i v pos l inside old new j a b =
    elim (dec_le i j) [
      | yes h ↦ (let ne : j ≢ i - 1 = omega arith in rw get_or-set_other (old j h b))
      | no g ↦ at_place f xs (i - 1) v j (omega arith) (omega arith) new
    ]

-- ---- one weight more
module _ (load : Fraction) {m fine : ℕ} (mode_is : m ≡ mode load) (fine_is : fine ≡ fine_load load) (xs : List ℕ) (i : ℕ) {v : ℕ} where
  pub one_low_below : 0 < i → i ≤ m → m < length xs
      → ((j : ℕ) → i ≤ j → j ≤ m → get_or xs j 0 ≡ low_weight load j)
      → v ≡ get_or xs (i - 1 + 1) 0 * (i - 1 + 1) * 2 ^ 50 / (fine + 1)
      → (j : ℕ) → i - 1 ≤ j → j ≤ m → get_or (set xs (i - 1) v) j 0 ≡ low_weight load j
  one_low_below pos l inside old e =
      let known : get_or xs (i - 1 + 1) 0 ≡ low_weight load (i - 1 + 1) = old (i - 1 + 1) (omega arith) (omega arith) in
      one_below (low_weight load) xs m i v pos l inside old
      (rw (e, known, fine_is) (sym (low_weight-below load (i - 1) (omega arith))))

  pub one_high_below : 0 < i → i ≤ m → m < length xs
      → ((j : ℕ) → i ≤ j → j ≤ m → get_or xs j 0 ≡ high_weight load j)
      → v ≡ div_ceil (get_or xs (i - 1 + 1) 0 * (i - 1 + 1) * 2 ^ 50) fine
      → (j : ℕ) → i - 1 ≤ j → j ≤ m → get_or (set xs (i - 1) v) j 0 ≡ high_weight load j
  one_high_below pos l inside old e =
      let known : get_or xs (i - 1 + 1) 0 ≡ high_weight load (i - 1 + 1) = old (i - 1 + 1) (omega arith) (omega arith) in
      one_below (high_weight load) xs m i v pos l inside old
      (rw (e, known, fine_is) (sym (high_weight-below load (i - 1) (omega arith))))

  pub one_low_above : m < i → i < length xs
      → ((j : ℕ) → j < i → get_or xs j 0 ≡ low_weight load j)
      → v ≡ get_or xs (i - 1) 0 * fine / (2 ^ 50 * i)
      → (j : ℕ) → j < i + 1 → get_or (set xs i v) j 0 ≡ low_weight load j
  one_low_above past inside old e =
      let known : get_or xs (i - 1) 0 ≡ low_weight load (i - 1) = old (i - 1) (omega arith) in
      let next : i - 1 + 1 ≡ i = omega arith in
      one_more_place (low_weight load) xs i v inside old
      (rw (e, known, fine_is) (sym (rw next at (low_weight-above load (i - 1) (omega arith)))))

  pub one_high_above : m < i → i < length xs
      → ((j : ℕ) → j < i → get_or xs j 0 ≡ high_weight load j)
      → v ≡ div_ceil (get_or xs (i - 1) 0 * (fine + 1)) (2 ^ 50 * i)
      → (j : ℕ) → j < i + 1 → get_or (set xs i v) j 0 ≡ high_weight load j
  one_high_above past inside old e =
      let known : get_or xs (i - 1) 0 ≡ high_weight load (i - 1) = old (i - 1) (omega arith) in
      let next : i - 1 + 1 ≡ i = omega arith in
      one_more_place (high_weight load) xs i v inside old
      (rw (e, known, fine_is) (sym (rw next at (high_weight-above load (i - 1) (omega arith)))))

-- ---- whole lists
-- what a call wrote over a whole list is the list
pub take-written : {n : ℕ} (xs ys : List ℕ) → length xs ≡ n → take n (xs ++ drop (length xs) ys) ≡ xs
take-written xs ys e = rw (sym e) (take-append_seam xs (drop (length xs) ys))

module _ (load : Fraction) {last : ℕ} {low high : List ℕ} (low_count : length low ≡ last + 1) (high_count : length high ≡ last + 1)
    (low_words : (k : ℕ) → k < length low → get_or low k 0 ≡ low_weight load k)
    (high_words : (k : ℕ) → k < length high → get_or high k 0 ≡ high_weight load k) where
  pub AreWeightsOf-written : AreWeightsOf load last record { low = low; high = high }
  AreWeightsOf-written = record {
    low = λ k l. low_words k (omega arith);
    high = λ k l. high_words k (omega arith);
  }

  pub AreSoundWeights-written : 0 < load.den → mode load ≤ last → AreSoundWeights last record { low = low; high = high }
  AreSoundWeights-written pos in_list = record {
    low_layers = low_count ∙ add-one last;
    high_layers = high_count ∙ add-one last;
    ordered = λ k l. rw (low_words k (omega arith), high_words k (omega arith)) (ordered load pos k);
    at_most_one = λ k l. rw (high_words k (omega arith)) (high_weight-at_most_one load k pos);
    mode = mode load;
    mode_layer = in_list;
    mode_low = low_words (mode load) (omega arith) ∙ low_weight-mode load;
    mode_high = high_words (mode load) (omega arith) ∙ high_weight-mode load;
  }
