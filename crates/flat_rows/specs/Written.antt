-- What is written into a layer, row by row.
use Rattle.std.specs.Prelude.{◌≡◌, ℕ, List, All, length}
use Rattle.step_core.specs.declared.words.Words.{Words}
use Rattle.step_core.specs.WordPairs.{words_at}
use Rattle.flat_rows.specs.PlacedRow.{PlacedRow}
use Rattle.flat_rows.specs.SideWords.{placed_words}

-- the words at the place are the right ones
abbrev pub IsRightAt : (ℕ → Words) → List Words → ℕ → Type 0
IsRightAt right words s = words_at words s ≡ right s

-- the rows' words are the right ones at their places
abbrev pub AreRight : (ℕ → Words) → List Words → List PlacedRow → Type 0
AreRight right words rows = All (λ placed. placed_words words placed ≡ right placed.place) rows

-- the rows' words over a layer are written: whichever words are right at each place, where the rows' words are, they stand at the rows'
-- places, and what else was right stays so
pub record AreWritten (words : List Words) (rows : List PlacedRow) (old new : List Words) : Type 0 where
  pub same_places : length new ≡ length old
  pub written : (right : ℕ → Words) → AreRight right words rows → All (λ placed. IsRightAt right new placed.place) rows
  pub kept : (right : ℕ → Words) → AreRight right words rows → (s : ℕ) → IsRightAt right old s → IsRightAt right new s
