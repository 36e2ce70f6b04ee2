-- The weights place by place, outward from the mode.
use Rattle.std.proofs.Common.{◌≡◌, ℕ, suc, ◌+◌, ◌-◌, ◌*◌, ◌/◌, ◌^◌, ◌≤◌, ◌<◌, true, false, ltb, refl, arith, add-one}
use Rattle.std.proofs.Math.Nat.{sub_self}
use Rattle.std.proofs.Math.Decide.{dec_le}
use Rattle.std.proofs.lemmas.Bool.Decides.{nat_tests}
use Rattle.std.specs.Prelude.{nat_lt, if◌then◌else◌}
use Rattle.std.specs.Int.{div_ceil}
use Rattle.ctmc_semantics.specs.Fraction.{Fraction}
use Rattle.ctmc_semantics.specs.RoundedTables.{one_word}
use Rattle.ctmc_semantics.proofs.WeightsNear.{ordered, capped}
use Rattle.ctmc_semantics.specs.Weights.{mode, fine_load, low_upward, low_downward, low_weight, high_upward, high_downward, high_weight}

-- ---- the word at a place: `down` the words downward from the mode m, `up` those upward
module _ (m : ℕ) (down up : ℕ → ℕ) (k : ℕ) where
  abbrev word : ℕ
  word = if nat_lt k m then down (m - k) else up (k - m)

  from_mode : m ≤ k → word ≡ up (k - m)
  from_mode l = let t : ltb k m ≡ false = grind (arith, nat_tests) in rw t refl

  to_mode : up 0 ≡ down 0 → k ≤ m → word ≡ down (m - k)
  to_mode same l =
      elim (dec_le (suc k) m) [
        | yes h ↦ (let t : ltb k m ≡ true = grind (arith, nat_tests) in rw t refl)
        | no g ↦ (
            let t : ltb k m ≡ false = grind (arith, nat_tests) in
            let above : k - m ≡ 0 = omega arith in
            let below : m - k ≡ 0 = omega arith in
            rw (t, above, below) same)
      ]

-- so the weights at a place
module _ (load : Fraction) (k : ℕ) where
  low_weight-from_mode : mode load ≤ k → low_weight load k ≡ low_upward load (k - mode load)
  low_weight-from_mode = from_mode (mode load) (low_downward load) (low_upward load) k

  high_weight-from_mode : mode load ≤ k → high_weight load k ≡ high_upward load (k - mode load)
  high_weight-from_mode = from_mode (mode load) (high_downward load) (high_upward load) k

  low_weight-to_mode : k ≤ mode load → low_weight load k ≡ low_downward load (mode load - k)
  low_weight-to_mode = to_mode (mode load) (low_downward load) (low_upward load) k refl

  high_weight-to_mode : k ≤ mode load → high_weight load k ≡ high_downward load (mode load - k)
  high_weight-to_mode = to_mode (mode load) (high_downward load) (high_upward load) k refl

-- ---- each weight from the one that is nearer to the mode
module _ (load : Fraction) (k : ℕ) where
  pub low_weight-above : mode load ≤ k → low_weight load (k + 1) ≡ low_weight load k * fine_load load / (2 ^ 50 * (k + 1))
  low_weight-above l =
      let more : k + 1 - mode load ≡ suc (k - mode load) = omega arith in
      let back : suc (mode load + (k - mode load)) ≡ k + 1 = omega arith in
      rw (low_weight-from_mode load (k + 1) (omega arith), low_weight-from_mode load k l, more, back) refl

  pub high_weight-above : mode load ≤ k
      → high_weight load (k + 1) ≡ div_ceil (high_weight load k * (fine_load load + 1)) (2 ^ 50 * (k + 1))
  high_weight-above l =
      let more : k + 1 - mode load ≡ suc (k - mode load) = omega arith in
      let back : suc (mode load + (k - mode load)) ≡ k + 1 = omega arith in
      rw (high_weight-from_mode load (k + 1) (omega arith), high_weight-from_mode load k l, more, back, add-one (fine_load load)) refl

  pub low_weight-below : k < mode load → low_weight load k ≡ low_weight load (k + 1) * (k + 1) * 2 ^ 50 / (fine_load load + 1)
  low_weight-below l =
      let more : mode load - k ≡ suc (mode load - (k + 1)) = omega arith in
      let back : mode load - (mode load - (k + 1)) ≡ k + 1 = omega arith in
      rw (
        low_weight-to_mode load k (omega arith),
        low_weight-to_mode load (k + 1) (omega arith),
        more,
        back,
        add-one (fine_load load),
      ) refl

  pub high_weight-below : k < mode load → high_weight load k ≡ div_ceil (high_weight load (k + 1) * (k + 1) * 2 ^ 50) (fine_load load)
  high_weight-below l =
      let more : mode load - k ≡ suc (mode load - (k + 1)) = omega arith in
      let back : mode load - (mode load - (k + 1)) ≡ k + 1 = omega arith in
      rw (high_weight-to_mode load k (omega arith), high_weight-to_mode load (k + 1) (omega arith), more, back) refl

-- the mode's own weights are 1
pub low_weight-mode : (load : Fraction) → low_weight load (mode load) ≡ one_word
low_weight-mode load =
    let none : mode load - mode load ≡ 0 = sub_self (mode load) in rw (low_weight-to_mode load (mode load) (omega arith), none) refl

pub high_weight-mode : (load : Fraction) → high_weight load (mode load) ≡ one_word
high_weight-mode load =
    let none : mode load - mode load ≡ 0 = sub_self (mode load) in rw (high_weight-to_mode load (mode load) (omega arith), none) refl

-- ---- no weight is above 1
pub low_weight-at_most_one : (load : Fraction) (k : ℕ) → 0 < load.den → low_weight load k ≤ one_word
low_weight-at_most_one load k pos = omega (arith, ordered load pos k, capped load pos k)

pub high_weight-at_most_one : (load : Fraction) (k : ℕ) → 0 < load.den → high_weight load k ≤ one_word
high_weight-at_most_one load k pos = capped load pos k
