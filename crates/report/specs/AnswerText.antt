-- What is printed of an answer.
use Rattle.std.specs.Prelude.{◌≡◌, ℕ, suc, ◌^◌, ◌≤◌, ◌++◌, List, [], ◌∷◌, length, All, Option, Some, None, codes, decimal}
use Rattle.std.specs.Option.{ForSome}
use Rattle.csl_syntax.specs.CanonicalText.{formula_text}
use Rattle.csl_syntax.specs.Tree.{Tree}
use Rattle.decimal_text.specs.Text.{text12}
use Rattle.report.specs.declared.answer.Verdict.{Verdict}
use Rattle.report.specs.declared.answer.Verdict.TheVariants.{Satisfied, Refuted, Undecided}
use Rattle.report.specs.Answer.{AnswerLists, ShownLists}
use Rattle.report.specs.declared.answer.Printed.{Printed}

abbrev pub verdict_text : Verdict → List ℕ
verdict_text Satisfied = codes "satisfied"
verdict_text Refuted = codes "refuted"
verdict_text Undecided = codes "undecided"

-- the ends of a bracket
abbrev pub bracket_text : Printed → List ℕ
bracket_text bracket = text12 bracket.low ++ 32 ∷ text12 bracket.high

-- the line of a state, which is numbered from 1: its verdict alone
abbrev pub verdict_line : ℕ → Verdict → List ℕ
verdict_line number verdict = decimal number ++ 32 ∷ verdict_text verdict ++ 10 ∷ []

-- the line of a state, which is numbered from 1: its verdict and its bracket
abbrev pub state_line : ℕ → Verdict → Printed → List ℕ
state_line number verdict bracket = decimal number ++ 32 ∷ verdict_text verdict ++ 32 ∷ bracket_text bracket ++ 10 ∷ []

-- the lines of states that follow one another, the first with this number
abbrev pub verdict_lines : ℕ → List Verdict → List ℕ
verdict_lines number [] = []
verdict_lines number (verdict ∷ verdicts) = verdict_line number verdict ++ verdict_lines (suc number) verdicts

abbrev pub state_lines : ℕ → List Verdict → List Printed → List ℕ
state_lines number (verdict ∷ verdicts) (bracket ∷ brackets) =
    state_line number verdict bracket ++ state_lines (suc number) verdicts brackets
state_lines number verdicts brackets = []

abbrev pub formula_line : List ℕ → List ℕ
formula_line formula = codes "formula " ++ formula ++ 10 ∷ []

-- the line of the horizon, of an until alone
abbrev pub horizon_line : Option ℕ → List ℕ
horizon_line (Some last) = codes "horizon " ++ decimal last ++ 10 ∷ []
horizon_line None = []

-- the line of a bracket of the watched state, which are numbered from 1
abbrev pub watch_line : ℕ → Printed → List ℕ
watch_line number bracket = codes "watch " ++ decimal number ++ 32 ∷ bracket_text bracket ++ 10 ∷ []

abbrev pub watch_lines : ℕ → List Printed → List ℕ
watch_lines number [] = []
watch_lines number (bracket ∷ brackets) = watch_line number bracket ++ watch_lines (suc number) brackets

-- the lines of the states, and of a probability operator the horizon and the watched brackets before them
abbrev pub answer_lines : List Verdict → Option ShownLists → List ℕ
answer_lines verdicts None = verdict_lines 1 verdicts
answer_lines verdicts (Some shown) =
    horizon_line shown.horizon ++ (watch_lines 1 shown.watched ++ state_lines 1 verdicts shown.states)

-- the lines of an answered formula, with the names of its labels
abbrev pub answer_text : List (List ℕ) → Tree → AnswerLists → List ℕ
answer_text names f answer = formula_line (formula_text names f) ++ answer_lines answer.verdicts answer.shown

-- both ends are probabilities, in units of `10^-12`
abbrev pub IsPrintable : Printed → Type 0
IsPrintable bracket = (bracket.low ≤ 10 ^ 12) × (bracket.high ≤ 10 ^ 12)

-- what is shown of a probability operator can be printed: it has one bracket for each of the n states
pub record ArePrintable (n : ℕ) (shown : ShownLists) : Type 0 where
  pub watched : All IsPrintable shown.watched
  pub states : All IsPrintable shown.states
  pub each_state : length shown.states ≡ n

-- the answer can be printed
abbrev pub IsWritable : AnswerLists → Type 0
IsWritable answer = ForSome answer.shown (ArePrintable (length answer.verdicts))
