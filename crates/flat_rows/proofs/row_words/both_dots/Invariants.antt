use Rattle.std.proofs.Common.{◌≡◌, ◌≤◌, ◌*◌, ◌^◌, take}
use Rattle.std.specs.List.{sum_by}
use Rattle.flat_rows.specs.RowWords.{low_products, high_products}
use Rattle.flat_rows.proofs.row_words.both_dots.Given as goal

abbrev pub invariant-loop-entry : goal.invariant-loop-entry
invariant-loop-entry l = record {
  low : l.low ≡ low_products (take l.entry-index l.entries) l.words;
  high : l.high ≡ high_products (take l.entry-index l.entries) l.words;
  low_at_most_one : l.low ≤ sum_by (λ e. e.num) (take l.entry-index l.entries) * 2 ^ 62;
  high_at_most_one : l.high ≤ sum_by (λ e. e.num) (take l.entry-index l.entries) * 2 ^ 62;
}
