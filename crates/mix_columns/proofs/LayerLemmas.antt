-- The mixers of all states take a layer or two.
use Rattle.std.proofs.Common.{◌≡◌, ℕ, ◌+◌, ◌-◌, ◌^◌, ◌≤◌, ◌<◌, List, [], ◌∷◌, ◌++◌, length, ap, subst, arith}
use Rattle.std.specs.Prelude.{EachIndex, slice_index}
use Rattle.std.proofs.lemmas.List.{get_or_default}
use Rattle.step_core.specs.PlanLists.{PlanLists}
use Rattle.step_core.specs.SoundPlan.{IsSoundPlan, IsSoundPoisson, IsSoundMix}
use Rattle.step_core.specs.WeightLists.{WeightLists}
use Rattle.step_core.specs.WordPairs.{ArePairs, words_at, low_of, high_of}
use Rattle.step_core.specs.declared.mix.Mix.TheVariants.{Poisson, Last}
use Rattle.step_core.specs.declared.words.Words.{Words}
use Rattle.mix_columns.specs.declared.layer_weights.LayerWeights.{LayerWeights}
use Rattle.mix_columns.specs.declared.state_sums.StateSums.{StateSums}
use Rattle.mix_columns.specs.LayerSums.{HaveRoom, sums_at, weighted_sums}
use Rattle.mix_columns.specs.MixNumbers.{MixNumbers, StandsFor}
use Rattle.mix_columns.specs.SideBySide.{SharedNumbers, numbers_at, mixers_of, mixer_at}
use Rattle.mix_columns.proofs.MixLemmas.{low_room, rest_room, weight_left, two_left, added, added_last}
use Rattle.mix_columns.proofs.SideLemmas.{states_are, mixer_is, stands_inside, some_inside, room_inside}

-- both weights of a layer
abbrev pub weights_of : WeightLists → ℕ → LayerWeights
weights_of weights k = record { low = slice_index weights.low k; high = slice_index weights.high k }

low_word_le : (words : List Words) (s : ℕ) → ArePairs words → s < length words → low_of words s ≤ 2 ^ 62
low_word_le words s pairs l = (pairs s (record { low = 0; high = 0 }) l).0

high_word_le : (words : List Words) (s : ℕ) → ArePairs words → s < length words → high_of words s ≤ 2 ^ 62
high_word_le words s pairs l = (pairs s (record { low = 0; high = 0 }) l).1

module _ (plan : PlanLists) (shared : SharedNumbers) (sums : List StateSums) (last : List Words) (mixers : List MixNumbers)
    (view : mixers_of shared sums last ≡ mixers) (sound : IsSoundPlan plan)
    (states : length mixers ≡ length plan.frame.rows)
    (stand : EachIndex mixers (λ s. (xs ys : List ℕ) × StandsFor plan (mixer_at mixers s) xs ys))
    (room : EachIndex mixers (λ s. (mixer_at mixers s).count ≤ plan.layers)) where
  abbrev at : ℕ → MixNumbers
  at = numbers_at shared sums last

  pub count_room : shared.count ≤ plan.layers
  count_room = (room_inside shared sums last mixers view plan sound states room).1

  some_state : 0 < length sums
  some_state = (room_inside shared sums last mixers view plan sound states room).0

  some_stand : (s : ℕ) → s < length sums → (xs ys : List ℕ) × StandsFor plan (at s) xs ys
  some_stand = some_inside shared sums last mixers view plan stand

  inside : (s : ℕ) → s < length mixers → s < length sums
  inside s l = omega (arith, states_are shared sums last mixers view)

  -- ---- of a bounded until
  module _ (weights : WeightLists) (bits : ℕ) (is : plan.mix ≡ Poisson weights bits) where
    poisson : IsSoundPoisson plan.layers weights bits
    poisson = subst (IsSoundMix plan.layers) is sound.mix

    pub low_here : (k : ℕ) → k ≤ plan.layers → k < length weights.low
    low_here k l = omega (arith, poisson.weights_sound.low_layers)

    pub high_here : (k : ℕ) → k ≤ plan.layers → k < length weights.high
    high_here k l = omega (arith, poisson.weights_sound.high_layers)

    pub high_weight_le : (k : ℕ) (w : LayerWeights) → k ≤ plan.layers → w ≡ weights_of weights k → w.high ≤ 2 ^ 62
    high_weight_le k w l e = rw e (poisson.weights_sound.at_most_one k l)

    pub low_weight_le : (k : ℕ) (w : LayerWeights) → k ≤ plan.layers → w ≡ weights_of weights k → w.low ≤ 2 ^ 62
    low_weight_le k w l e =
        rw e (omega (arith, poisson.weights_sound.ordered k l, poisson.weights_sound.at_most_one k l))

    pub rest_left : (w : LayerWeights) → w ≡ weights_of weights shared.count → w.high ≤ shared.rest
    rest_left w e =
        let some = some_stand 0 some_state in
        weight_left plan (at 0) some.0 some.1 weights bits sound some.2 is w.high count_room (ap (λ w. w.high) e)

    pub rest_left_two : (w v : LayerWeights) → shared.count < plan.layers → w ≡ weights_of weights shared.count
        → v ≡ weights_of weights (shared.count + 1) → w.high + v.high ≤ shared.rest
    rest_left_two w v l e f =
        let some = some_stand 0 some_state in
        two_left plan (at 0) some.0 some.1 weights bits sound some.2 is w.high v.high l (ap (λ w. w.high) e) (ap (λ w. w.high) f)

    pub sums_room : HaveRoom sums
    sums_room s d l =
        let some = some_stand s l in
        let low = low_room plan (at s) some.0 some.1 weights bits sound some.2 is in
        let high = rest_room plan (at s) some.0 some.1 weights bits sound some.2 is in
        rw (get_or_default sums s d (record { low = 0; high = 0 }) l)
        (omega (arith, low, count_room, sound.few_layers), omega (arith, high))

    pub layer_added : (words kept : List Words) (new : List StateSums) (w : LayerWeights) → ArePairs words
        → length words ≡ length sums → w ≡ weights_of weights shared.count → length new ≡ length sums
        → EachIndex new (λ s. sums_at new s ≡ weighted_sums (sums_at sums s) w (words_at words s))
        → (s : ℕ) (us vs : List ℕ) → s < length mixers → StandsFor plan (mixer_at mixers s) us vs
        → StandsFor plan
        (mixer_at
        (mixers_of
        record {
          count = shared.count + 1;
          low_divisor = shared.low_divisor;
          high_divisor = shared.high_divisor;
          rest = shared.rest - w.high;
        }
        new kept)
        s)
        (us ++ low_of words s ∷ []) (vs ++ high_of words s ∷ [])
    layer_added words kept new w pairs word_states w_is new_states new_is s us vs l stands =
        let old : s < length sums = inside s l in
        let here : s < length new = omega arith in
        let there : s < length words = omega arith in
        rw (mixer_is _ new kept s here, new_is s here)
        (added plan (at s) us vs weights bits sound (stands_inside shared sums last mixers view plan s us vs old stands) is
        (low_of words s) (high_of words s) w.low w.high _ _ count_room (low_word_le words s pairs there)
        (high_word_le words s pairs there) (ap (λ w. w.low) w_is) (ap (λ w. w.high) w_is))

    pub layers_added : (first second kept : List Words) (new : List StateSums) (w v : LayerWeights) → shared.count < plan.layers
        → ArePairs first → ArePairs second → length first ≡ length sums → length second ≡ length sums
        → w ≡ weights_of weights shared.count → v ≡ weights_of weights (shared.count + 1) → length new ≡ length sums
        → EachIndex new (λ s. sums_at new s
        ≡ weighted_sums (weighted_sums (sums_at sums s) w (words_at first s)) v (words_at second s))
        → (s : ℕ) (us vs : List ℕ) → s < length mixers → StandsFor plan (mixer_at mixers s) us vs
        → StandsFor plan
        (mixer_at
        (mixers_of
        record {
          count = shared.count + 2;
          low_divisor = shared.low_divisor;
          high_divisor = shared.high_divisor;
          rest = shared.rest - (w.high + v.high);
        }
        new kept)
        s)
        (us ++ low_of first s ∷ [] ++ low_of second s ∷ []) (vs ++ high_of first s ∷ [] ++ high_of second s ∷ [])
    layers_added first second kept new w v more p q first_states second_states w_is v_is new_states new_is s us vs l stands =
        let old : s < length sums = inside s l in
        let here : s < length new = omega arith in
        let at_first : s < length first = omega arith in
        let at_second : s < length second = omega arith in
        let count_two : shared.count + 2 ≡ shared.count + 1 + 1 = omega arith in
        let rest_two : shared.rest - (w.high + v.high) ≡ shared.rest - w.high - v.high = omega arith in
        let one = added plan (at s) us vs weights bits sound (stands_inside shared sums last mixers view plan s us vs old stands) is
        (low_of first s) (high_of first s) w.low w.high 0 0 count_room (low_word_le first s p at_first)
        (high_word_le first s p at_first) (ap (λ w. w.low) w_is) (ap (λ w. w.high) w_is) in
        rw (mixer_is _ new kept s here, new_is s here, count_two, rest_two)
        (added plan _ _ _ weights bits sound one is
        (low_of second s) (high_of second s) v.low v.high _ _ (omega arith) (low_word_le second s q at_second)
        (high_word_le second s q at_second) (ap (λ w. w.low) v_is) (ap (λ w. w.high) v_is))

  -- ---- of an unbounded until
  module _ (is : plan.mix ≡ Last) where
    pub last_layer_added : (words : List Words) → ArePairs words → length words ≡ length sums
        → (s : ℕ) (us vs : List ℕ) → s < length mixers → StandsFor plan (mixer_at mixers s) us vs
        → StandsFor plan
        (mixer_at
        (mixers_of
        record {
          count = shared.count + 1;
          low_divisor = shared.low_divisor;
          high_divisor = shared.high_divisor;
          rest = shared.rest;
        }
        sums words)
        s)
        (us ++ low_of words s ∷ []) (vs ++ high_of words s ∷ [])
    last_layer_added words pairs word_states s us vs l stands =
        let old : s < length sums = inside s l in
        let there : s < length words = omega arith in
        rw (mixer_is _ sums words s old)
        (added_last plan (at s) us vs (low_of words s) (high_of words s)
        (stands_inside shared sums last mixers view plan s us vs old stands) is count_room (low_word_le words s pairs there)
        (high_word_le words s pairs there))

    pub last_layers_added : (first second : List Words) → shared.count < plan.layers → ArePairs first → ArePairs second
        → length first ≡ length sums → length second ≡ length sums
        → (s : ℕ) (us vs : List ℕ) → s < length mixers → StandsFor plan (mixer_at mixers s) us vs
        → StandsFor plan
        (mixer_at
        (mixers_of
        record {
          count = shared.count + 2;
          low_divisor = shared.low_divisor;
          high_divisor = shared.high_divisor;
          rest = shared.rest;
        }
        sums second)
        s)
        (us ++ low_of first s ∷ [] ++ low_of second s ∷ []) (vs ++ high_of first s ∷ [] ++ high_of second s ∷ [])
    last_layers_added first second more p q first_states second_states s us vs l stands =
        let old : s < length sums = inside s l in
        let at_first : s < length first = omega arith in
        let at_second : s < length second = omega arith in
        let count_two : shared.count + 2 ≡ shared.count + 1 + 1 = omega arith in
        let one = added_last plan (at s) us vs (low_of first s) (high_of first s)
        (stands_inside shared sums last mixers view plan s us vs old stands) is count_room (low_word_le first s p at_first)
        (high_word_le first s p at_first) in
        rw (mixer_is _ sums second s old, count_two)
        (added_last plan _ _ _ (low_of second s) (high_of second s) one is (omega arith) (low_word_le second s q at_second)
        (high_word_le second s q at_second))
