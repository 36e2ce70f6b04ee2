-- The brackets that are taken of a watched state, one after another.
use Rattle.std.specs.Prelude.{◌≡◌, ℕ, ◌≤◌, List, [], ◌∷◌, ◌++◌, length, All, AllPairs}
use Rattle.ctmc_semantics.specs.RoundedTables.{one_word}
use Rattle.ctmc_semantics.specs.WordBracket.{WordBracket}
use Rattle.mix_columns.specs.Mixed.{words_of}
use Rattle.mix_columns.specs.MixLaws.{EnclosesWords}
use Rattle.mix_columns.specs.PlanUntil.{ContainsUntil}
use Rattle.step_core.specs.PlanLists.{PlanLists}
use Rattle.step_core.specs.declared.bracket.Bracket.{Bracket}

-- each bracket lies in `outer` and in all before, and contains the plan's until at the state
pub record AreTaken (plan : PlanLists) (s : ℕ) (outer : WordBracket) (watched : List Bracket) : Type 0 where
  pub inside : All (λ w. EnclosesWords outer (words_of w)) watched
  pub nested : AllPairs (λ earlier later. EnclosesWords (words_of earlier) (words_of later)) watched
  pub contain : All (λ w. ContainsUntil plan s (words_of w)) watched
  pub lower_words : All (λ w. w.lower ≤ one_word) watched
  pub upper_words : All (λ w. w.upper ≤ one_word) watched

-- so many brackets were taken of the state, and the last of them has these words
pub record AreWatched (plan : PlanLists) (s wanted : ℕ) (outer final : WordBracket) (watched : List Bracket) : Type 0 where
  pub count : length watched ≡ wanted
  pub taken : AreTaken plan s outer watched
  pub last : (earlier : List Bracket) (w : Bracket) → watched ≡ earlier ++ w ∷ [] → words_of w ≡ final
