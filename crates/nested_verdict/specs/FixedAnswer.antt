-- The answer to a formula, but for what depends on when each step of a run is taken.
use Rattle.std.specs.Prelude.{ℕ, Bool, if◌then◌else◌, List, [], Option, Some, None, option_map}
use Rattle.command_words.specs.declared.command.Options.{Options}
use Rattle.report.specs.Answer.{ShownLists, AnswerLists}
use Rattle.report.specs.declared.answer.Printed.{Printed}
use Rattle.nested_verdict.specs.EarlyEnd.{may_end_early}

-- the brackets of all states: those of a next are fixed, and those of an until, which has a horizon, unless its run may have ended early
abbrev pub fixed_states : Bool → Option ℕ → List Printed → List Printed
fixed_states may_end None states = states
fixed_states may_end (Some last) states = if may_end then [] else states

-- what is shown, but for the brackets of the watched state and those of a run that may have ended early
abbrev pub fixed_shown : Bool → ShownLists → ShownLists
fixed_shown may_end shown = record {
  horizon = shown.horizon;
  watched = [];
  states = fixed_states may_end shown.horizon shown.states;
}

-- the answer, but for the brackets of the watched state and those of a run that may have ended early
abbrev pub fixed_answer : Options → AnswerLists → AnswerLists
fixed_answer options answer = record {
  verdicts = answer.verdicts;
  shown = option_map (fixed_shown (may_end_early options answer.verdicts)) answer.shown;
}
