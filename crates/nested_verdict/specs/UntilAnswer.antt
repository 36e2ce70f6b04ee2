-- How the answers of an until are computed.
use Rattle.std.specs.Prelude.{ℕ, List, map, length}
use Rattle.std.specs.List.{range_with_len}
use Rattle.ctmc_semantics.specs.Chain.{Chain}
use Rattle.ctmc_semantics.specs.Fraction.{Fraction}
use Rattle.ctmc_semantics.specs.Rows.{rows_of}
use Rattle.ctmc_semantics.specs.Sets.{KnownSets}
use Rattle.ctmc_semantics.specs.Threshold.{Comparison}
use Rattle.ctmc_semantics.specs.Uniformised.{uniformised}
use Rattle.ctmc_semantics.specs.WordBracket.{WordBracket, word_bracket, settle, until_words, last_words}
use Rattle.command_words.specs.declared.command.Options.{Options}
use Rattle.csl_semantics.specs.Meaning.{load_of}
use Rattle.csl_syntax.specs.declared.formula.Bound.{Bound}
use Rattle.csl_syntax.specs.declared.formula.Bound.TheVariants.{Unbounded, Time, Reward}
use Rattle.mix_columns.specs.Mixed.{words_of}
use Rattle.mix_columns.specs.SideBySide.{bracket_at}
use Rattle.model_core.specs.Model.{LabelledChain}
use Rattle.report.specs.declared.answer.Printed.{Printed}
use Rattle.step_core.specs.WalkFound.{can_reach}
use Rattle.step_core.specs.declared.bracket.Bracket.{Bracket}
use Rattle.nested_verdict.specs.UntilPlan.{dual_by, load_by}
use Rattle.nested_verdict.specs.BracketAnswer.{bracket_answer, printed_units}
use Rattle.nested_verdict.specs.declared.state_answer.StateAnswer.{StateAnswer}

-- the bracket of a state in words, within a time of this load: 1 where the state is surely of the goal, 0 where no walk leads to what may be
-- the goal, and else the mix of its columns
abbrev pub time_words : Chain → Fraction → ℕ → KnownSets → ℕ → WordBracket
time_words chain load bits sets s =
    settle (sets.goal_must s) (can_reach chain.states chain.rate sets.live_may sets.goal_may s)
    (until_words (rows_of (uniformised chain)) load bits sets s)

-- the same within any number of jumps: the last words of its columns, of which the upper ones start from the states that can reach the goal
abbrev pub reach_words : Chain → ℕ → KnownSets → ℕ → WordBracket
reach_words chain jumps sets s =
    let reach = can_reach chain.states chain.rate sets.live_may sets.goal_may in
    settle (sets.goal_must s) (reach s) (last_words (rows_of (uniformised chain)) jumps sets reach s)

-- the bracket of a state in words, by the until's bound
abbrev pub state_words : LabelledChain → Options → Bound → KnownSets → ℕ → WordBracket
state_words over options Unbounded sets s = reach_words over.chain options.jumps sets s
state_words over options (Time t) sets s = time_words over.chain (load_of over t) options.bits sets s
state_words over options (Reward r) sets s =
    time_words (dual_by over over.rewards) (load_by over r over.rewards) options.bits sets s

-- the answer of a state whose probability lies between the words
abbrev pub words_answer : Comparison → WordBracket → Fraction → StateAnswer
words_answer by w q = bracket_answer by (word_bracket w) q

-- the answers at the first n states, in their order, from the words of each
abbrev pub first_answers : (ℕ → WordBracket) → Comparison → Fraction → ℕ → List StateAnswer
first_answers words by q n = map (λ s. words_answer by (words s) q) (range_with_len 0 n)

-- the answers at all states
abbrev pub until_answers : LabelledChain → Options → Bound → KnownSets → Comparison → Fraction → List StateAnswer
until_answers over options bound sets by q = first_answers (state_words over options bound sets) by q over.chain.states

-- the words of a state, where the brackets of all states are listed
abbrev pub listed_words : List Bracket → ℕ → WordBracket
listed_words brackets s = words_of (bracket_at brackets s)

-- the answers at all states by their brackets
abbrev pub bracket_answers : List Bracket → Comparison → Fraction → List StateAnswer
bracket_answers brackets by q = first_answers (listed_words brackets) by q (length brackets)

-- the brackets as they are printed
abbrev pub printed_brackets : List Bracket → List Printed
printed_brackets brackets = map (λ b. printed_units (word_bracket (words_of b))) brackets
