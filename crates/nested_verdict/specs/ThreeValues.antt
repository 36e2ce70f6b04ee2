-- Verdicts as three truth values, of which one leaves open what is so, and what a list of them says of a set of states.
-- (S. C. Kleene, Introduction to Metamathematics, 1952: the strong tables)
use Rattle.std.specs.Prelude.{ℕ, Bool, true, false, List, map, length}
use Rattle.std.specs.List.{range_with_len}
use Rattle.std.specs.Prelude.{slice_index_or}
use Rattle.ctmc_semantics.specs.Sets.{KnownSets, holds_at}
use Rattle.report.specs.declared.answer.Verdict.{Verdict}
use Rattle.report.specs.declared.answer.Verdict.TheVariants.{Satisfied, Refuted, Undecided}
use Rattle.step_core.specs.FrameLists.{SetLists}

abbrev pub opposite_verdict : Verdict → Verdict
opposite_verdict Satisfied = Refuted
opposite_verdict Refuted = Satisfied
opposite_verdict Undecided = Undecided

-- refuted where one of them is, satisfied where both are, and else open
abbrev pub both_verdicts : Verdict → Verdict → Verdict
both_verdicts Refuted w = Refuted
both_verdicts Satisfied w = w
both_verdicts Undecided Refuted = Refuted
both_verdicts Undecided Satisfied = Undecided
both_verdicts Undecided Undecided = Undecided

-- satisfied where one of them is, refuted where both are, and else open
abbrev pub either_verdict : Verdict → Verdict → Verdict
either_verdict Satisfied w = Satisfied
either_verdict Refuted w = w
either_verdict Undecided Satisfied = Satisfied
either_verdict Undecided Refuted = Undecided
either_verdict Undecided Undecided = Undecided

abbrev pub is_sure : Verdict → Bool
is_sure Satisfied = true
is_sure Refuted = false
is_sure Undecided = false

abbrev pub may_be : Verdict → Bool
may_be Satisfied = true
may_be Refuted = false
may_be Undecided = true

-- the states that surely satisfy a formula, and those that may
abbrev pub must_list : List Verdict → List Bool
must_list verdicts = map is_sure verdicts

abbrev pub may_list : List Verdict → List Bool
may_list verdicts = map may_be verdicts

-- both sets of an until, as far as its operands' verdicts tell them
abbrev pub verdict_sets : List Verdict → List Verdict → SetLists
verdict_sets live goal = record {
  goal_must = must_list goal;
  goal_may = may_list goal;
  live_must = must_list live;
  live_may = may_list live;
}

abbrev pub verdicts_know : List Verdict → List Verdict → KnownSets
verdicts_know live goal = record {
  live_must = holds_at (must_list live);
  live_may = holds_at (may_list live);
  goal_must = holds_at (must_list goal);
  goal_may = holds_at (may_list goal);
}

-- the verdict of a state
abbrev pub verdict_at : List Verdict → ℕ → Verdict
verdict_at verdicts s = slice_index_or verdicts s Undecided

abbrev pub opposites : List Verdict → List Verdict
opposites verdicts = map opposite_verdict verdicts

-- state by state
abbrev pub both : List Verdict → List Verdict → List Verdict
both vs ws = map (λ s. both_verdicts (verdict_at vs s) (verdict_at ws s)) (range_with_len 0 (length vs))

abbrev pub either : List Verdict → List Verdict → List Verdict
either vs ws = map (λ s. either_verdict (verdict_at vs s) (verdict_at ws s)) (range_with_len 0 (length vs))
