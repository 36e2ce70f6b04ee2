-- The answer to a formula, but for the brackets of the watched state: these depend on when each is taken.
use Rattle.std.specs.Prelude.{[], option_map}
use Rattle.report.specs.Answer.{ShownLists, AnswerLists}

-- what is shown but for the brackets of the watched state
abbrev pub unwatched_shown : ShownLists → ShownLists
unwatched_shown shown = record { horizon = shown.horizon; watched = []; states = shown.states }

-- the answer but for the brackets of the watched state
abbrev pub unwatched_answer : AnswerLists → AnswerLists
unwatched_answer answer = record { verdicts = answer.verdicts; shown = option_map unwatched_shown answer.shown }
