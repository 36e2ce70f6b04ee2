-- The answer to a formula where the run of an until may end early.
use Rattle.std.specs.Prelude.{◌≡◌, ℕ, ◌⊎◌, List, [], Some}
use Rattle.std.specs.List.{AllZip}
use Rattle.ctmc_semantics.specs.Bracket.{Encloses}
use Rattle.command_words.specs.declared.command.Options.{Options}
use Rattle.report.specs.Answer.{AnswerLists}
use Rattle.report.specs.declared.answer.Printed.{Printed}
use Rattle.nested_verdict.specs.EarlyEnd.{MayEndEarly}
use Rattle.nested_verdict.specs.WatchedBrackets.{bracket_of}

-- the run of an until ended early, as it may: the verdicts are those of the whole run, and each bracket has in it the one that the whole
-- run shows
pub record EndedEarly (options : Options) (whole answer : AnswerLists) : Type 0 where
  pub may : MayEndEarly options whole.verdicts
  pub verdicts : answer.verdicts ≡ whole.verdicts
  pub last : ℕ
  pub wide : List Printed
  pub narrow : List Printed
  pub shown : answer.shown ≡ Some (record { horizon = Some last; watched = []; states = wide })
  pub whole_shown : whole.shown ≡ Some (record { horizon = Some last; watched = []; states = narrow })
  pub enclose : AllZip (λ outer inner. Encloses (bracket_of outer) (bracket_of inner)) wide narrow

-- the answer is that of the whole run, or of one that ended early; but for the brackets of the watched state
abbrev pub IsAnswerTo : Options → AnswerLists → AnswerLists → Type 0
IsAnswerTo options whole answer = (answer ≡ whole) ⊎ EndedEarly options whole answer
