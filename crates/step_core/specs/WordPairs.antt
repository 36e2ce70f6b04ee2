-- Layers whose words lie in pairs.
use Rattle.std.specs.Prelude.{ℕ, ◌^◌, ◌≤◌, List, All, slice_index_or}
use Rattle.step_core.specs.declared.words.Words.{Words}

-- both words of a state; past the last one, none
abbrev pub words_at : List Words → ℕ → Words
words_at words s = slice_index_or words s record { low = 0; high = 0 }

-- no word of the list is above 1
abbrev pub ArePairs : List Words → Type 0
ArePairs words = All (λ w. (w.low ≤ 2 ^ 62) × (w.high ≤ 2 ^ 62)) words

-- the lower words of a layer
abbrev pub low_of : List Words → ℕ → ℕ
low_of words s = (words_at words s).low

-- the upper words of a layer
abbrev pub high_of : List Words → ℕ → ℕ
high_of words s = (words_at words s).high
