-- What the mix promises.
use Rattle.std.specs.Prelude.{◌≡◌, ℕ, suc, ◌+◌, ◌*◌, ◌^◌, ◌<◌, ◌≤◌}
use Rattle.ctmc_semantics.specs.Fraction.{Fraction}
use Rattle.ctmc_semantics.specs.Poisson.{poisson_average}
use Rattle.ctmc_semantics.specs.Bracket.{ContainsFrom}
use Rattle.ctmc_semantics.specs.RoundedTables.{one_word}
use Rattle.ctmc_semantics.specs.Weights.{low_weight, high_weight}
use Rattle.ctmc_semantics.specs.Horizon.{horizon, greatest_width}
use Rattle.ctmc_semantics.specs.Mix.{mix_low, mix_high}
use Rattle.ctmc_semantics.specs.WordBracket.{word_bracket}

-- where values that never fall and are at most 1 lie between the words of two columns, their averages from the horizon on lie in the mix
abbrev pub MixEncloses : Type 0
MixEncloses =
    (load : Fraction) (total bits : ℕ) (value low_word high_word : ℕ → ℕ)
    → let last = horizon load bits in
    0 < load.den → 0 < total → bits ≤ 62
    → ((k : ℕ) → total * value k ≤ value (suc k)) → ((k : ℕ) → value k ≤ total ^ k)
    → ((k : ℕ) → k ≤ last → low_word k * total ^ k ≤ one_word * value k)
    → ((k : ℕ) → k ≤ last → one_word * value k ≤ high_word k * total ^ k)
    → ContainsFrom
    (word_bracket (record {
      lower = mix_low last (low_weight load) (high_weight load) low_word;
      upper = mix_high last bits (low_weight load) (high_weight load) high_word;
    }))
    last (poisson_average load total value)

-- the lower mix never falls when words rise
abbrev pub LowMixRises : Type 0
LowMixRises =
    (load : Fraction) (bits : ℕ) (x y : ℕ → ℕ) → 0 < load.den
    → let last = horizon load bits in
    ((k : ℕ) → k ≤ last → x k ≤ y k)
    → mix_low last (low_weight load) (high_weight load) x ≤ mix_low last (low_weight load) (high_weight load) y

-- the upper mix never falls when words rise
abbrev pub HighMixRises : Type 0
HighMixRises =
    (load : Fraction) (bits : ℕ) (x y : ℕ → ℕ) → 0 < load.den
    → let last = horizon load bits in
    ((k : ℕ) → k ≤ last → x k ≤ y k)
    → mix_high last bits (low_weight load) (high_weight load) x ≤ mix_high last bits (low_weight load) (high_weight load) y

-- where the words of two columns lie at most two words a layer apart, their mixes are near each other
abbrev pub MixIsNarrow : Type 0
MixIsNarrow =
    (load : Fraction) (bits : ℕ) (low_word high_word : ℕ → ℕ) → 0 < load.den
    → let last = horizon load bits in
    bits ≤ 48 → last ≤ 16384
    → ((k : ℕ) → k ≤ last → low_word k ≤ one_word) → ((k : ℕ) → k ≤ last → high_word k ≤ low_word k + 2 * last)
    → mix_high last bits (low_weight load) (high_weight load) high_word
    ≤ mix_low last (low_weight load) (high_weight load) low_word + greatest_width last bits

-- the lower mix reads the layers 0 to n alone
abbrev pub LowMixReads : Type 0
LowMixReads =
    (n : ℕ) (low high x low' high' x' : ℕ → ℕ)
    → ((k : ℕ) → k ≤ n → low k ≡ low' k) → ((k : ℕ) → k ≤ n → high k ≡ high' k) → ((k : ℕ) → k ≤ n → x k ≡ x' k)
    → mix_low n low high x ≡ mix_low n low' high' x'

-- the upper mix reads the layers 0 to n alone
abbrev pub HighMixReads : Type 0
HighMixReads =
    (n bits : ℕ) (low high x low' high' x' : ℕ → ℕ)
    → ((k : ℕ) → k ≤ n → low k ≡ low' k) → ((k : ℕ) → k ≤ n → high k ≡ high' k) → ((k : ℕ) → k ≤ n → x k ≡ x' k)
    → mix_high n bits low high x ≡ mix_high n bits low' high' x'
