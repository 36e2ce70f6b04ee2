-- The answer to a formula: a verdict for each state, and what is shown of a probability operator, as plain lists.
use Rattle.std.specs.Prelude.{ℕ, Bool, if◌then◌else◌, List, Option, option_map}
use Rattle.report.specs.declared.answer.Answer.{Answer}
use Rattle.report.specs.declared.answer.Printed.{Printed}
use Rattle.report.specs.declared.answer.Shown.{Shown}
use Rattle.report.specs.declared.answer.Verdict.{Verdict}
use Rattle.report.specs.declared.answer.Verdict.TheVariants.{Satisfied, Refuted}

-- the verdict of a truth value
abbrev pub truth_verdict : Bool → Verdict
truth_verdict holds = if holds then Satisfied else Refuted

-- the horizon of an until, the brackets of the watched state as they were taken, and the bracket of each state
pub record ShownLists : Type 0 where
  pub horizon : Option ℕ
  pub watched : List Printed
  pub states : List Printed

pub record AnswerLists : Type 0 where
  pub verdicts : List Verdict
  pub shown : Option ShownLists

abbrev pub shown_lists : Shown → ShownLists
shown_lists shown = record { horizon = shown.horizon; watched = shown.watched.items; states = shown.states.items }

abbrev pub answer_lists : Answer → AnswerLists
answer_lists answer = record { verdicts = answer.verdicts.items; shown = option_map shown_lists answer.shown }
