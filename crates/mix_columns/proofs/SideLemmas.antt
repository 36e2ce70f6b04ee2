-- The mixers of all states, one after another.
use Rattle.std.proofs.Common.{◌≡◌, ℕ, suc, ◌+◌, ◌≤◌, ◌<◌, List, [], ◌∷◌, length, take, drop, ◌++◌, replicate, refl, sym, ap}
use Rattle.std.proofs.Common.{subst, ◌∙◌, arith}
use Rattle.std.proofs.Math.Seq.{take-append_seam}
use Rattle.std.proofs.Math.Decide.{dec_le}
use Rattle.std.proofs.lemmas.List.{get_or_append_left, get_or_push, get_or-replicate}
use Rattle.std.proofs.lemmas.List.FromFn.{get_or-map-range_with_len, length-map-range_with_len}
use Rattle.std.specs.Prelude.{EachIndex}
use Rattle.step_core.specs.PlanLists.{PlanLists}
use Rattle.step_core.specs.SoundPlan.{IsSoundPlan}
use Rattle.step_core.specs.WordPairs.{words_at}
use Rattle.step_core.specs.declared.bracket.Bracket.{Bracket}
use Rattle.step_core.specs.declared.words.Words.{Words}
use Rattle.mix_columns.specs.declared.state_sums.StateSums.{StateSums}
use Rattle.mix_columns.specs.LayerSums.{sums_at}
use Rattle.mix_columns.specs.MixNumbers.{MixNumbers, StandsFor}
use Rattle.mix_columns.specs.Mixed.{whole_mix, words_of}
use Rattle.mix_columns.specs.SideBySide.{SharedNumbers, numbers_at, mixers_of, mixer_at, bracket_at}

-- a vector that is lent whole as a slice holds what the slice has at the end
pub written : {X : Type 0} (len : ℕ) (new old : List X) → length old ≡ len → length new ≡ len
    → take len (new ++ drop (length new) old) ≡ new
written len new old e f = rw (← f) (take-append_seam new (drop (length new) old))

module _ (shared : SharedNumbers) (sums : List StateSums) (last : List Words) where
  pub mixers_counted : length (mixers_of shared sums last) ≡ length sums
  mixers_counted = length-map-range_with_len (numbers_at shared sums last) 0 (length sums)

  pub mixer_is : (s : ℕ) → s < length sums
      → mixer_at (mixers_of shared sums last) s ≡ numbers_at shared sums last s
  mixer_is s l =
      get_or-map-range_with_len (numbers_at shared sums last) 0 (length sums) s s _ l (omega arith)

module _ (shared : SharedNumbers) (sums : List StateSums) (last : List Words) (mixers : List MixNumbers)
    (view : mixers_of shared sums last ≡ mixers) where
  pub states_are : length sums ≡ length mixers
  states_are = sym (mixers_counted shared sums last) ∙ ap length view

  pub at_is : (s : ℕ) → s < length sums → mixer_at mixers s ≡ numbers_at shared sums last s
  at_is s l = ap (λ ms. mixer_at ms s) (sym view) ∙ mixer_is shared sums last s l

  module _ (plan : PlanLists) where
    pub stands_inside : (s : ℕ) (xs ys : List ℕ) → s < length sums → StandsFor plan (mixer_at mixers s) xs ys
        → StandsFor plan (numbers_at shared sums last s) xs ys
    stands_inside s xs ys l = subst (λ m. StandsFor plan m xs ys) (at_is s l)

    pub some_inside : EachIndex mixers (λ s. (xs ys : List ℕ) × StandsFor plan (mixer_at mixers s) xs ys) → (s : ℕ) → s < length sums
        → (xs ys : List ℕ) × StandsFor plan (numbers_at shared sums last s) xs ys
    some_inside stand s l =
        let some = stand s (omega (arith, states_are)) in
        (some.0, some.1, stands_inside s some.0 some.1 l some.2)

    pub room_inside : IsSoundPlan plan → length mixers ≡ length plan.frame.rows
        → EachIndex mixers (λ s. (mixer_at mixers s).count ≤ plan.layers) → (0 < length sums) × (shared.count ≤ plan.layers)
    room_inside sound states room =
        let some : 0 < length sums = omega (arith, states_are, sound.frame.some) in
        let at = room 0 (omega (arith, states_are)) in
        (some, omega (arith, at, ap (λ m. m.count) (at_is 0 some)))

    pub room_below : IsSoundPlan plan → length mixers ≡ length plan.frame.rows
        → EachIndex mixers (λ s. (mixer_at mixers s).count < plan.layers)
        → EachIndex mixers (λ s. (mixer_at mixers s).count ≤ plan.layers) × (shared.count < plan.layers)
    room_below sound states room =
        let some : 0 < length sums = omega (arith, states_are, sound.frame.some) in
        let at = room 0 (omega (arith, states_are)) in
        (λ s l. omega (arith, room s l), omega (arith, at, ap (λ m. m.count) (at_is 0 some)))

-- ---- a copy for each state
pub copy_is : (shared : SharedNumbers) (sums : List StateSums) (last : List Words) (n s : ℕ) (z : StateSums) (w : Words)
    → sums ≡ replicate n z → last ≡ replicate n w → s < n
    → numbers_at shared sums last s
    ≡ record {
      count = shared.count;
      low = z.low;
      high = z.high;
      last_low = w.low;
      last_high = w.high;
      low_divisor = shared.low_divisor;
      high_divisor = shared.high_divisor;
      rest = shared.rest;
    }
copy_is shared sums last n s z w e f l =
    let sums_is : sums_at sums s ≡ z = rw e (get_or-replicate n s z _ l) in
    let last_is : words_at last s ≡ w = rw f (get_or-replicate n s w _ l) in
    rw (sums_is, last_is) refl

-- ---- the brackets of one state more
pub mixes_more : (plan : PlanLists) (mixers : List MixNumbers) (brackets : List Bracket) (n : ℕ) (b : Bracket) (m : MixNumbers)
    → length brackets ≡ n
    → ((s : ℕ) → s < n → (xs ys : List ℕ) → StandsFor plan (mixer_at mixers s) xs ys
    → words_of (bracket_at brackets s) ≡ whole_mix plan xs ys)
    → m ≡ mixer_at mixers n → ((xs ys : List ℕ) → StandsFor plan m xs ys → words_of b ≡ whole_mix plan xs ys)
    → (s : ℕ) → s < n + 1 → (xs ys : List ℕ) → StandsFor plan (mixer_at mixers s) xs ys
    → words_of (bracket_at (brackets ++ b ∷ []) s) ≡ whole_mix plan xs ys
mixes_more plan mixers brackets n b m counted so_far is here s l xs ys stands =
    elim (dec_le (suc s) n) [
      | yes o ↦
          ap words_of (get_or_append_left brackets (b ∷ []) _ s (omega arith)) ∙ so_far s (omega arith) xs ys stands
      | no o ↦ (
          let at : n ≡ s = omega arith in
          let last : length brackets ≡ s = omega arith in
          ap words_of (get_or_push brackets b _ s last)
          ∙ here xs ys (subst (λ m. StandsFor plan m xs ys) (ap (mixer_at mixers) (sym at) ∙ sym is) stands)
          )
    ]
