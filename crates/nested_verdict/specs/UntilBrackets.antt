-- The brackets of all states of a plan, whose run may end early.
use Rattle.std.specs.Prelude.{◌≡◌, ◌≢◌, ℕ, ◌≤◌, ◌⊎◌, ◌++◌, Bool, IsTrue, List, [], ◌∷◌, length, All, AllPairs, Some}
use Rattle.ctmc_semantics.specs.Fraction.{Fraction}
use Rattle.ctmc_semantics.specs.RoundedTables.{one_word}
use Rattle.ctmc_semantics.specs.Threshold.{Comparison}
use Rattle.ctmc_semantics.specs.WordBracket.{WordBracket, word_bracket}
use Rattle.mix_columns.specs.Mixed.{one_thread_words, plan_settle, words_of}
use Rattle.mix_columns.specs.MixLaws.{EnclosesWords}
use Rattle.reader_pass.specs.StateBrackets.{AreBrackets, AreOneThread}
use Rattle.report.specs.Answer.{AnswerLists}
use Rattle.report.specs.declared.answer.Verdict.TheVariants.{Undecided}
use Rattle.step_core.specs.PlanLists.{PlanLists}
use Rattle.step_core.specs.declared.bracket.Bracket.{Bracket}
use Rattle.nested_verdict.specs.BracketAnswer.{bracket_verdict}
use Rattle.nested_verdict.specs.FormulaAnswer.{shown_answer}
use Rattle.nested_verdict.specs.UntilAnswer.{bracket_answers}
use Rattle.nested_verdict.specs.UnwatchedAnswer.{unwatched_answer}
use Rattle.nested_verdict.specs.declared.state_answer.StateAnswer.{StateAnswer}

-- the words have in them those that one thread computes, and so the until; where these need no counting, they are the same
pub record EnclosesOneThread (plan : PlanLists) (s : ℕ) (words : WordBracket) : Type 0 where
  pub encloses : EnclosesWords words (one_thread_words plan s)
  pub settled : words ≡ plan_settle plan s words

-- the bracket of each state shows whether the threshold is met
abbrev pub AllDecide : Comparison → Fraction → List Bracket → Type 0
AllDecide by q brackets = All (λ b. bracket_verdict by (word_bracket (words_of b)) q ≢ Undecided) brackets

-- each state has the bracket that one thread computes, or one that encloses it, where the run was asked to end as soon as all of them decide the
-- threshold, and they do
pub record AreUntilBrackets (plan : PlanLists) (until_decided : Bool) (by : Comparison) (q : Fraction)
    (brackets : List Bracket) : Type 0 where
  pub enclose : AreBrackets plan (EnclosesOneThread plan) brackets
  pub ended : (IsTrue until_decided × AllDecide by q brackets) ⊎ AreOneThread plan brackets

-- so many brackets were taken of a state, each lies in those before, and the last of them is the state's own
pub record AreTakenOfState (count : ℕ) (words : WordBracket) (watched : List Bracket) : Type 0 where
  pub counted : length watched ≡ count
  pub nested : AllPairs (λ earlier later. EnclosesWords (words_of earlier) (words_of later)) watched
  pub last : (earlier : List Bracket) (w : Bracket) → watched ≡ earlier ++ w ∷ [] → words_of w ≡ words
  pub lower_words : All (λ w. w.lower ≤ one_word) watched
  pub upper_words : All (λ w. w.upper ≤ one_word) watched

-- these are the answers at all states by such brackets
pub record AreUntilAnswers (plan : PlanLists) (until_decided : Bool) (by : Comparison) (q : Fraction)
    (states : List StateAnswer) : Type 0 where
  pub brackets : List Bracket
  pub are : AreUntilBrackets plan until_decided by q brackets
  pub answers : states ≡ bracket_answers brackets by q

-- the answer shows such answers, but for the brackets of the watched state
pub record ShowsUntilAnswers (plan : PlanLists) (until_decided : Bool) (by : Comparison) (q : Fraction)
    (answer : AnswerLists) : Type 0 where
  pub states : List StateAnswer
  pub are : AreUntilAnswers plan until_decided by q states
  pub shown : unwatched_answer answer ≡ shown_answer (Some plan.layers) [] states
