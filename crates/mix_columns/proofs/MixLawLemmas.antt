-- The mix of more words is narrower.
use Rattle.std.proofs.Common.{◌≡◌, ℕ, suc, ◌≤◌, ◌<◌, List, length, take, get_or, length-take, Bool, true, false, refl, arith}
use Rattle.std.proofs.Math.Decide.{dec_le}
use Rattle.std.proofs.lemmas.List.{get_or_default, get_or_past, get_or-take}
use Rattle.std.proofs.lemmas.List.Elements.{All-take}
use Rattle.std.specs.List.{All}
use Rattle.std.specs.Prelude.{slice_index}
use Rattle.ctmc_semantics.specs.RoundedTables.{one_word}
use Rattle.ctmc_semantics.specs.WordBracket.{WordBracket, settle}
use Rattle.ctmc_semantics.proofs.MixNarrow.{mix_low_rises, mix_high_rises, mix_low_reads, mix_high_reads}
use Rattle.step_core.specs.PlanLists.{PlanLists}
use Rattle.step_core.specs.SoundPlan.{IsSoundPlan, IsSoundMix}
use Rattle.step_core.specs.declared.mix.Mix.{Mix}
use Rattle.step_core.specs.declared.mix.Mix.TheVariants.{Poisson, Last}
use Rattle.mix_columns.specs.Mixed.{mixed_words, rest_mix, whole_mix}
use Rattle.mix_columns.specs.MixLaws.{EnclosesWords}
use Rattle.mix_columns.proofs.Columns.{capped_word}
use Rattle.mix_columns.proofs.WeightLemmas.{low_some, high_some}

pub mix_rises : (last : ℕ) (mix : Mix) (x y low high : ℕ → ℕ) → IsSoundMix last mix
    → ((k : ℕ) → k ≤ last → x k ≤ low k) → ((k : ℕ) → k ≤ last → high k ≤ y k)
    → EnclosesWords (mixed_words last mix x y) (mixed_words last mix low high)
mix_rises last (Poisson weights bits) x y low high sound h i = record {
  lower = mix_low_rises last _ _ x low (high_some last weights sound.weights_sound) h;
  upper = mix_high_rises last bits _ _ high y (low_some last weights sound.weights_sound) i;
}
mix_rises last Last x y low high sound h i = record { lower = h last (omega arith); upper = i last (omega arith) }

-- the mix reads no other layer
pub mix_reads : (last : ℕ) (mix : Mix) (x y x' y' : ℕ → ℕ) → ((k : ℕ) → k ≤ last → x k ≡ x' k) → ((k : ℕ) → k ≤ last → y k ≡ y' k)
    → mixed_words last mix x y ≡ mixed_words last mix x' y'
mix_reads last (Poisson weights bits) x y x' y' h i =
    let low : ℕ → ℕ = slice_index weights.low in
    let high : ℕ → ℕ = slice_index weights.high in
    let lower = mix_low_reads last low high x low high x' (λ k l. refl) (λ k l. refl) h in
    let upper = mix_high_reads last bits low high y low high y' (λ k l. refl) (λ k l. refl) i in
    λ t. record { lower = lower t; upper = upper t }
mix_reads last Last x y x' y' h i =
    let lower = h last (omega arith) in
    let upper = i last (omega arith) in
    λ t. record { lower = lower t; upper = upper t }

-- settled brackets lie in one another as they did before
pub settled_rises : (is_goal can_reach : Bool) (outer inner : WordBracket) → EnclosesWords outer inner
    → EnclosesWords (settle is_goal can_reach outer) (settle is_goal can_reach inner)
settled_rises true can_reach outer inner h = record { lower = omega arith; upper = omega arith }
settled_rises false true outer inner h = h
settled_rises false false outer inner h = record { lower = omega arith; upper = omega arith }

-- a settled bracket stays as it is
pub settle_again : (is_goal can_reach : Bool) (mixed : WordBracket)
    → settle is_goal can_reach mixed ≡ settle is_goal can_reach (settle is_goal can_reach mixed)
settle_again true can_reach mixed = refl
settle_again false true mixed = refl
settle_again false false mixed = refl

-- ---- columns of which the words past place j are missing
module _ (xs : List ℕ) (j : ℕ) where
  front_word : (k d : ℕ) → k < j → get_or (take j xs) k d ≡ get_or xs k d
  front_word k d l = get_or-take j xs k d l

  missing_word : (k d : ℕ) → j ≤ k → get_or (take j xs) k d ≡ d
  missing_word k d l = get_or_past (take j xs) k d (omega (arith, length-take j xs))

pub low_front : (xs : List ℕ) (i j k : ℕ) → i ≤ j → get_or (take i xs) k 0 ≤ get_or (take j xs) k 0
low_front xs i j k l =
    elim (dec_le (suc k) i) [
      | yes o ↦ omega (arith, front_word xs i k 0 (omega arith), front_word xs j k 0 (omega arith))
      | no o ↦ omega (arith, missing_word xs i k 0 (omega arith))
    ]

pub high_front : (ys : List ℕ) → All (λ w. w ≤ one_word) ys → (i j k : ℕ) → i ≤ j
    → get_or (take j ys) k one_word ≤ get_or (take i ys) k one_word
high_front ys words i j k l =
    elim (dec_le (suc k) i) [
      | yes o ↦ omega (arith, front_word ys i k one_word (omega arith), front_word ys j k one_word (omega arith))
      | no o ↦ omega (
        arith,
        missing_word ys i k one_word (omega arith),
        capped_word (take j ys) (All-take (λ w. w ≤ one_word) j ys words) k one_word (omega arith),
      )
    ]

low_whole : (xs : List ℕ) (j k : ℕ) → get_or (take j xs) k 0 ≤ get_or xs k 0
low_whole xs j k =
    elim (dec_le (suc k) j) [
      | yes o ↦ omega (arith, front_word xs j k 0 (omega arith))
      | no o ↦ omega (arith, missing_word xs j k 0 (omega arith))
    ]

high_whole : (ys : List ℕ) → All (λ w. w ≤ one_word) ys → (j k : ℕ) → k < length ys
    → get_or ys k 0 ≤ get_or (take j ys) k one_word
high_whole ys words j k l =
    elim (dec_le (suc k) j) [
      | yes o ↦ omega (arith, front_word ys j k one_word (omega arith), get_or_default ys k 0 one_word l)
      | no o ↦ omega (arith, missing_word ys j k one_word (omega arith), words k 0 l)
    ]

module _ (plan : PlanLists) (xs ys : List ℕ) (j : ℕ) (sound : IsSoundPlan plan) (words : All (λ w. w ≤ one_word) ys) where
  pub front_shrinks : EnclosesWords (rest_mix plan (take j xs) (take j ys)) (rest_mix plan (take (suc j) xs) (take (suc j) ys))
  front_shrinks =
      mix_rises plan.layers plan.mix _ _ _ _ sound.mix (λ k l. low_front xs j (suc j) k (omega arith))
      (λ k l. high_front ys words j (suc j) k (omega arith))

  pub front_encloses : length ys ≡ suc plan.layers → EnclosesWords (rest_mix plan (take j xs) (take j ys)) (whole_mix plan xs ys)
  front_encloses whole =
      mix_rises plan.layers plan.mix _ _ _ _ sound.mix (λ k l. low_whole xs j k) (λ k l. high_whole ys words j k (omega arith))
