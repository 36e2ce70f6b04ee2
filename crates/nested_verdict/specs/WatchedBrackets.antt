-- The brackets that are taken of the watched state while its until is computed. Which ones they are depends on when each is taken.
use Rattle.std.specs.Prelude.{◌≡◌, ℕ, List, [], ◌∷◌, ◌++◌, length, AllPairs, Option, Some, None, slice_get}
use Rattle.std.specs.Option.{ForSome}
use Rattle.ctmc_semantics.specs.Bracket.{Bracket, printed_bracket, Encloses}
use Rattle.command_words.specs.declared.command.Options.{Options}
use Rattle.report.specs.Answer.{AnswerLists}
use Rattle.report.specs.declared.answer.Printed.{Printed}

abbrev pub bracket_of : Printed → Bracket
bracket_of p = printed_bracket p.low p.high

-- each bracket lies in those before, and the last of them is the printed one
pub record AreTaken (printed : Printed) (watched : List Printed) : Type 0 where
  pub nested : AllPairs (λ outer inner. Encloses (bracket_of outer) (bracket_of inner)) watched
  pub printed_last : (earlier : List Printed) (w : Printed) → watched ≡ earlier ++ w ∷ [] → w ≡ printed

-- so many brackets as are asked for were taken of the watched state
pub record AreTakenOf (options : Options) (states watched : List Printed) : Type 0 where
  pub counted : length watched ≡ options.watch
  pub taken : (printed : Printed) → slice_get states options.state ≡ Some printed → AreTaken printed watched

-- they were of an until, which has a horizon; of a next none is taken
abbrev pub AreWatchedBy : Options → Option ℕ → List Printed → List Printed → Type 0
AreWatchedBy options None states watched = watched ≡ []
AreWatchedBy options (Some last) states watched = AreTakenOf options states watched

-- the options, with so many brackets of the watched state
abbrev pub watching : Options → ℕ → Options
watching options count = record options { watch = count }

-- the answer has the brackets of the watched state that it should
abbrev pub IsWatched : Options → AnswerLists → Type 0
IsWatched options answer = ForSome answer.shown (λ shown. AreWatchedBy options shown.horizon shown.states shown.watched)
