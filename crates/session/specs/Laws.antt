-- What the laws of the outcome say.
use Rattle.std.specs.Prelude.{◌≡◌, ℕ, false, List, Option, Some, IfSome}
use Rattle.command_words.specs.Command.{Spoken}
use Rattle.command_words.specs.Words.{WordsSay}
use Rattle.outside.specs.Shelf.{Pair}
use Rattle.session.specs.Command.{Say}
use Rattle.session.specs.Outcome.{Outcome, IsOutcome, AreAlike}
use Rattle.session.specs.Serve.{AreThere}

-- the files that the words name, if they are a command, are all among the pairs
abbrev pub AreNamed : List (List ℕ) → List Pair → Type 0
AreNamed words pairs = (command : Spoken) → WordsSay words command → AreThere command pairs

-- an outcome of the words, the files and the formulas, and what it leaves of the formulas
pub record SomeOutcome (words : List (List ℕ)) (pairs : List Pair) (left : List ℕ) : Type 0 where
  pub outcome : Outcome
  pub now : Option (List ℕ)
  pub is : IsOutcome words (Some pairs) (Some left) now outcome

-- words, files that are there, and formulas have an outcome
abbrev pub InputHasAnOutcome : Type 0
InputHasAnOutcome = (words : List (List ℕ)) (pairs : List Pair) (left : List ℕ) → AreNamed words pairs → SomeOutcome words pairs left

-- and all their outcomes are alike: the same but for the brackets of the watched state, and of an until whose run may have ended early
abbrev pub OutcomeIsOne : Type 0
OutcomeIsOne =
    (words : List (List ℕ)) (pairs : List Pair) (left : List ℕ) (u v : Option (List ℕ)) (a b : Outcome)
    → IsOutcome words (Some pairs) (Some left) u a → IsOutcome words (Some pairs) (Some left) v b
    → Say words (λ command. AreAlike command a b)

-- the words say no command that watches a state
abbrev pub WatchNothing : List (List ℕ) → Type 0
WatchNothing words = Say words (λ command. IfSome command (λ c. c.options.watch ≡ 0))

-- they say none whose runs may end early
abbrev pub NeverEndEarly : List (List ℕ) → Type 0
NeverEndEarly words = Say words (λ command. IfSome command (λ c. c.options.until_decided ≡ false))

-- where no state is watched and no run may end early, they have no other
abbrev pub UnwatchedOutcomeIsOne : Type 0
UnwatchedOutcomeIsOne =
    (words : List (List ℕ)) (pairs : List Pair) (left : List ℕ) (u v : Option (List ℕ)) (a b : Outcome)
    → WatchNothing words → NeverEndEarly words
    → IsOutcome words (Some pairs) (Some left) u a → IsOutcome words (Some pairs) (Some left) v b → a ≡ b
