-- The words of a row over a layer whose words are pairs.
use Rattle.std.specs.Prelude.{◌≡◌, ℕ, ◌*◌, ◌/◌, ◌^◌, ◌<◌, List, All}
use Rattle.std.specs.List.{sum_by}
use Rattle.std.specs.Int.{div_ceil}
use Rattle.round_out.specs.declared.entry.Entry.{Entry}
use Rattle.step_core.specs.FrameLists.{RowLists}
use Rattle.step_core.specs.declared.words.Words.{Words}
use Rattle.step_core.specs.WordPairs.{words_at}

-- the entries' numbers times their targets' lower words, added up
abbrev pub low_products : List Entry → List Words → ℕ
low_products entries words = sum_by (λ e. e.num * (words_at words e.to).low) entries

-- the entries' numbers times their targets' upper words, added up
abbrev pub high_products : List Entry → List Words → ℕ
high_products entries words = sum_by (λ e. e.num * (words_at words e.to).high) entries

-- both words of a row: the quotient over the lower words rounded down, and over the upper ones rounded up
abbrev pub row_words_of : RowLists → List Words → Words
row_words_of row words = record {
  low = low_products row.entries words / row.den;
  high = div_ceil (high_products row.entries words) row.den;
}

-- the row leads to the first n states, and its numbers add up to its divisor, which has at most 63 bits
pub record IsFit (n : ℕ) (row : RowLists) : Type 0 where
  pub targets : All (λ e. e.to < n) row.entries
  pub whole : sum_by (λ e. e.num) row.entries ≡ row.den
  pub fits : row.den < 2 ^ 63
