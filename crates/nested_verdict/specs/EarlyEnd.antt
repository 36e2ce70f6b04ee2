-- When the run of an until may end early.
use Rattle.std.specs.Prelude.{◌≢◌, Bool, true, false, ◌&&◌, IsTrue, List, All}
use Rattle.std.specs.List.{list_all}
use Rattle.command_words.specs.declared.command.Options.{Options}
use Rattle.report.specs.declared.answer.Verdict.{Verdict}
use Rattle.report.specs.declared.answer.Verdict.TheVariants.{Satisfied, Refuted, Undecided}

-- no state is left undecided
abbrev pub AreDecided : List Verdict → Type 0
AreDecided verdicts = All (λ verdict. verdict ≢ Undecided) verdicts

-- a run with these verdicts may have ended early: it was asked to where the verdict of each state is known, and none is left undecided
pub record MayEndEarly (options : Options) (verdicts : List Verdict) : Type 0 where
  pub asked : IsTrue options.until_decided
  pub decided : AreDecided verdicts

abbrev pub is_decided : Verdict → Bool
is_decided Satisfied = true
is_decided Refuted = true
is_decided Undecided = false

-- whether it may have
abbrev pub may_end_early : Options → List Verdict → Bool
may_end_early options verdicts = options.until_decided && list_all is_decided verdicts
