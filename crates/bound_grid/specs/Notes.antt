-- Which lists can be the notes of a pass, and how they grow.
use Rattle.std.specs.Prelude.{◌≡◌, ℕ, List, length}
use Rattle.step_core.specs.BoardRule.{NoWorse}
use Rattle.step_core.specs.Limits.{sizes_of, limits_of, opening_words}
use Rattle.step_core.specs.Places.{word_count}
use Rattle.step_core.specs.PlanLists.{PlanLists}

-- there is a note of each word, which lies between the word at the start and its limit
pub record AreNotes (plan : PlanLists) (notes : List ℕ) : Type 0 where
  pub size : length notes ≡ word_count (sizes_of plan)
  pub start : NoWorse (sizes_of plan) (opening_words plan) notes
  pub end : NoWorse (sizes_of plan) notes (limits_of plan)
