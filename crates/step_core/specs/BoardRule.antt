-- The rule of a board's words: each lies between its notes and its limit, and where a seal is set its block is at the limits.
use Rattle.std.specs.Prelude.{◌≡◌, ℕ, ◌<◌, ◌≤◌, List, map, length, min, max, slice_index, Bool, cond}
use Rattle.std.specs.List.{range_with_len}
use Rattle.ctmc_semantics.specs.RoundedTables.{one_word}
use Rattle.step_core.specs.Places.{Sizes, falls, IsSealOf, IsOfLayerZero}

-- of a word that falls, or rises: b is at least as good as a
abbrev pub Better : Bool → ℕ → ℕ → Type 0
Better falling a b = cond falling b a ≤ cond falling a b

-- no word is worse: 1 for a word that falls, 0 for one that rises
abbrev pub worst : Bool → ℕ
worst falling = cond falling one_word 0

-- the better of two
abbrev pub better_of : Bool → ℕ → ℕ → ℕ
better_of falling a b = cond falling (min a b) (max a b)

-- x lies between the worst and the best that the word at i can be
pub record IsWithin (z : Sizes) (limits : List ℕ) (i x : ℕ) : Type 0 where
  pub start : Better (falls z i) (worst (falls z i)) x
  pub end : Better (falls z i) x (slice_index limits i)

-- nowhere is the second list of words worse than the first
abbrev pub NoWorse : Sizes → List ℕ → List ℕ → Type 0
NoWorse z xs ys = (i : ℕ) → Better (falls z i) (slice_index xs i) (slice_index ys i)

-- the notes are no better than the words
pub record FitNotes (z : Sizes) (words notes : List ℕ) : Type 0 where
  pub start : (i : ℕ) → Better (falls z i) (worst (falls z i)) (slice_index notes i)
  pub below : NoWorse z notes words

-- the words keep the rule
pub record WordsKept (z : Sizes) (limits words : List ℕ) : Type 0 where
  pub count : length words ≡ length limits
  pub within : (i : ℕ) → IsWithin z limits i (slice_index words i)
  pub layer_zero : (i : ℕ) → IsOfLayerZero z i → slice_index words i ≡ slice_index limits i
  pub sealed : (i j : ℕ) → IsSealOf z i j → 0 < slice_index words i → slice_index words j ≡ slice_index limits j

-- the better of two notes at each place
abbrev pub better_notes : Sizes → List ℕ → List ℕ → List ℕ
better_notes z xs ys =
    map (λ i. better_of (falls z i) (slice_index xs i) (slice_index ys i)) (range_with_len 0 (length xs))
