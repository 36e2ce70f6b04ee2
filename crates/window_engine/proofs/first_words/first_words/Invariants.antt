use Rattle.std.proofs.Common.{◌≡◌, ℕ, ◌<◌, length, slice_index}
use Rattle.ctmc_semantics.specs.RoundedTables.{set_words}
use Rattle.ctmc_semantics.specs.Sets.{holds_at}
use Rattle.step_core.specs.WordPairs.{words_at, ArePairs}
use Rattle.window_engine.proofs.first_words.first_words.Given as goal

abbrev pub invariant-loop-state : goal.invariant-loop-state
invariant-loop-state l = record {
  states : length l.words.items ≡ length l.start;
  done : (s : ℕ) → s < l.state → words_at l.words.items s ≡ record { low = set_words (holds_at l.goal) s; high = slice_index l.start s };
  pairs : ArePairs l.words.items;
}
