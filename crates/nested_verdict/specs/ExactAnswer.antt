-- When the answer to a formula is exact: what a reader may rely on, whatever was computed.
use Rattle.std.specs.Prelude.{◌≡◌, ℕ, ◌<◌, ◌⊎◌, Bool, not, IsTrue, List, [], length, All, Some, None, slice_get, IsSomeAnd, ⊤}
use Rattle.ctmc_semantics.specs.Bracket.{Bracket, printed_bracket, ContainsProbability, ContainsFrom, ContainsLimit}
use Rattle.ctmc_semantics.specs.Chain.{Chain}
use Rattle.ctmc_semantics.specs.Fraction.{Fraction, decimal_fraction}
use Rattle.ctmc_semantics.specs.Horizon.{horizon}
use Rattle.ctmc_semantics.specs.Next.{next_probability}
use Rattle.ctmc_semantics.specs.Sets.{KnownSets, holds_at}
use Rattle.ctmc_semantics.specs.Threshold.{Comparison}
use Rattle.ctmc_semantics.specs.Uniformised.{uniformised}
use Rattle.ctmc_semantics.specs.WordBracket.{WordBracket}
use Rattle.command_words.specs.declared.command.Options.{Options}
use Rattle.csl_semantics.specs.Dual.{EarnsEverywhere, reward_load}
use Rattle.csl_semantics.specs.Meaning.{IsSat, comparison_of, load_of, time_values, reach_values, reward_values}
use Rattle.csl_syntax.specs.Tree.{Tree, truth, falsehood, label, negation, conjunction, disjunction, next, until}
use Rattle.csl_syntax.specs.declared.formula.Bound.{Bound}
use Rattle.csl_syntax.specs.declared.formula.Bound.TheVariants.{Unbounded, Time, Reward}
use Rattle.model_core.specs.Model.{LabelledChain}
use Rattle.report.specs.Answer.{AnswerLists}
use Rattle.report.specs.declared.answer.Printed.{Printed}
use Rattle.report.specs.declared.answer.Verdict.{Verdict}
use Rattle.report.specs.declared.answer.Verdict.TheVariants.{Satisfied, Refuted, Undecided}
use Rattle.nested_verdict.specs.EarlyEnd.{AreDecided, MayEndEarly}
use Rattle.nested_verdict.specs.ExactState.{AreNarrow, IsExactNext, IsExactUntil, IsNearReach, IsNearTime}
use Rattle.nested_verdict.specs.FormulaAnswer.{verdicts_answer}
use Rattle.nested_verdict.specs.NextAnswer.{next_bracket}
use Rattle.nested_verdict.specs.ThreeValues.{must_list, may_list, verdicts_know, opposites, both, either}
use Rattle.nested_verdict.specs.WatchedBrackets.{bracket_of, AreTaken, watching}
use Rattle.nested_verdict.specs.declared.state_answer.StateAnswer.{StateAnswer}
use Rattle.step_core.specs.Walk.{Walk}
use Rattle.step_core.specs.WalkFound.{can_reach}

-- the verdict at a state is so, where this is the formula's truth value there; nothing is said where it is left undecided
abbrev pub IsSo : Bool → Verdict → Type 0
IsSo holds Satisfied = IsTrue holds
IsSo holds Refuted = IsTrue (not holds)
IsSo holds Undecided = ⊤

-- each state has a verdict, which is so by the meaning of the formula
pub record AreSo (over : LabelledChain) (f : Tree) (verdicts : List Verdict) : Type 0 where
  pub each_state : length verdicts ≡ over.chain.states
  pub so : (xs : List Bool) → IsSat over f xs → (s : ℕ) → s < over.chain.states
      → IsSomeAnd (slice_get verdicts s) (IsSo (holds_at xs s))

-- no state is left undecided, and no bracket is shown
pub record IsDecided (answer : AnswerLists) : Type 0 where
  pub decided : AreDecided answer.verdicts
  pub unshown : answer.shown ≡ None

-- the answer has a verdict and a bracket for each of the n states, and each is exact
pub record AreExactAt (n : ℕ) (IsExact : ℕ → StateAnswer → Type 0) (verdicts : List Verdict) (states : List Printed) : Type 0 where
  pub each_verdict : length verdicts ≡ n
  pub each_bracket : length states ≡ n
  pub exact : (s : ℕ) (verdict : Verdict) (bracket : Printed) → slice_get verdicts s ≡ Some verdict → slice_get states s ≡ Some bracket
      → IsExact s (record { verdict = verdict; bracket = bracket })

-- ---- a next
-- the answer to a next operator over an operand with these verdicts: each state's is exact, its bracket contains the probability whatever list
-- stands for the operand, and there is no horizon and nothing watched
pub record ShowsNext (over : LabelledChain) (f : Tree) (operand : List Verdict) (by : Comparison) (q : Fraction)
    (answer : AnswerLists) : Type 0 where
  pub states : List Printed
  pub shown : answer.shown ≡ Some (record { horizon = None; watched = []; states = states })
  pub exact : AreExactAt over.chain.states
      (λ s. IsExactNext by (next_bracket over.chain (holds_at (must_list operand)) (holds_at (may_list operand)) s) q) answer.verdicts states
  pub contains : (ys : List Bool) → IsSat over f ys → (s : ℕ) → s < over.chain.states
      → IsSomeAnd (slice_get states s) (λ b. ContainsProbability (printed_bracket b.low b.high) (next_probability over.chain (holds_at ys) s))

-- ---- an until
-- so many brackets of a state were taken, one after another, and each contains the until
pub record AreWatched (count : ℕ) (Contains : Bracket → Type 0) (printed : Printed) (watched : List Printed) : Type 0 where
  pub counted : length watched ≡ count
  pub contain : All (λ w. Contains (bracket_of w)) watched
  pub taken : AreTaken printed watched

-- no walk of transitions through live states leads from the state to the goal
abbrev pub IsOutOfReach : Chain → (ℕ → Bool) → (ℕ → Bool) → ℕ → Type 0
IsOutOfReach chain live goal s = ¬ Walk chain.states chain.rate live goal s

-- P holds of the values at the state s that each two lists give which stand for the operands
abbrev pub ForEach : LabelledChain → Tree → Tree → ((ℕ → Bool) → (ℕ → Bool) → ℕ → ℕ → Fraction) → ℕ → ((ℕ → Fraction) → Type 0) → Type 0
ForEach over f g values s P = (ys zs : List Bool) → IsSat over f ys → IsSat over g zs → P (values (holds_at ys) (holds_at zs) s)

-- the words are near, unless the run ended early
abbrev pub IsNearUnless : Type 0 → (WordBracket → Type 0) → WordBracket → Type 0
IsNearUnless ended IsNear words = ended ⊎ IsNear words

-- the answer to an until over operands of which `sets` tell: the jumps that were looked at are told, each state's answer is exact, and the
-- brackets of the watched state are. `values` are what the operands' lists give, and `Contains b x` is what it is for b to contain values x.
-- Where the run may have ended early, the words behind the printed numbers may be far apart
pub record ShowsUntil (over : LabelledChain) (options : Options) (f g : Tree) (sets : KnownSets) (by : Comparison) (last : ℕ)
    (values : (ℕ → Bool) → (ℕ → Bool) → ℕ → ℕ → Fraction) (Contains : Bracket → (ℕ → Fraction) → Type 0)
    (AreNear : ℕ → WordBracket → Type 0) (q : Fraction) (answer : AnswerLists) : Type 0 where
  pub watched : List Printed
  pub states : List Printed
  pub shown : answer.shown ≡ Some (record { horizon = Some last; watched = watched; states = states })
  pub exact : AreExactAt over.chain.states
      (λ s. IsExactUntil by (ForEach over f g values s) (λ b. ForEach over f g values s (Contains b))
      (IsNearUnless (MayEndEarly options answer.verdicts) (AreNear s)) (IsTrue (sets.goal_must s))
      (IsOutOfReach over.chain sets.live_may sets.goal_may s) q) answer.verdicts states
  pub watches : IsSomeAnd (slice_get states options.state)
      (λ printed. AreWatched options.watch (λ b. ForEach over f g values options.state (Contains b)) printed watched)

-- the words are near what the operands' verdicts allow of a bounded until with these values, and narrow where these are decided at each
-- state
pub record AreNearLast (last bits : ℕ) (values : (ℕ → Bool) → (ℕ → Bool) → ℕ → ℕ → Fraction) (live goal : List Verdict) (s : ℕ)
    (words : WordBracket) : Type 0 where
  pub near : IsNearTime last bits (values (holds_at (must_list live)) (holds_at (must_list goal)) s)
      (values (holds_at (may_list live)) (holds_at (may_list goal)) s) words
  pub narrow : AreDecided live → AreDecided goal → AreNarrow last bits words

abbrev pub AreNearReach : LabelledChain → Options → List Verdict → List Verdict → ℕ → WordBracket → Type 0
AreNearReach over options live goal s words =
    IsNearReach options.jumps (uniformised over.chain) (verdicts_know live goal)
    (can_reach over.chain.states over.chain.rate (holds_at (may_list live)) (holds_at (may_list goal))) s words

-- what is shown of an until with a bound on the time or on the reward: each bracket contains each average from the horizon on
abbrev pub ShowsBounded : LabelledChain → Options → Tree → Tree → List Verdict → List Verdict → Comparison → ℕ
    → ((ℕ → Bool) → (ℕ → Bool) → ℕ → ℕ → Fraction) → Fraction → AnswerLists → Type 0
ShowsBounded over options f g live goal by last values q answer =
    ShowsUntil over options f g (verdicts_know live goal) by last values (λ b x. ContainsFrom b last x)
    (AreNearLast last options.bits values live goal) q answer

-- what is shown of an until over operands with these verdicts is exact. The bracket of one with a bound on the time or on the reward
-- contains each average from the horizon on; that of one without a bound has a lower end that is reached within the jumps that are looked
-- at, and an upper end that no number of jumps passes
abbrev pub ShowsBound : LabelledChain → Options → Bound → Tree → Tree → List Verdict → List Verdict → Comparison → Fraction → AnswerLists
    → Type 0
ShowsBound over options Unbounded f g live goal by q answer =
    ShowsUntil over options f g (verdicts_know live goal) by options.jumps (reach_values over) (λ b x. ContainsLimit b options.jumps x)
    (AreNearReach over options live goal) q answer
ShowsBound over options (Time t) f g live goal by q answer =
    ShowsBounded over options f g live goal by (horizon (load_of over t) options.bits) (time_values over t) q answer
ShowsBound over options (Reward r) f g live goal by q answer =
    (earns : EarnsEverywhere over)
    × ShowsBounded over options f g live goal by (horizon (reward_load over earns.rewards r) options.bits)
    (reward_values over earns.rewards r) q answer

-- ---- formulas
-- inside a formula nothing is watched
abbrev pub unwatched : Options → Options
unwatched options = watching options 0

-- an answer to an operand is exact, and P holds of its verdicts
pub record ForOperand (IsExact : AnswerLists → Type 0) (P : List Verdict → Type 0) : Type 0 where
  pub operand : AnswerLists
  pub exact : IsExact operand
  pub holds : P operand.verdicts

-- the answer is exact: each state has a verdict, which is so by the meaning of the formula. A label is decided; `!`, `&&` and `||` say what
-- the three-valued tables do of exact answers to their operands, and show nothing; of a probability operator over operands with exact answers
-- the brackets that are shown are exact
abbrev pub IsExactAnswer : LabelledChain → Options → Tree → AnswerLists → Type 0
IsExactAnswer over options truth answer = AreSo over truth answer.verdicts × IsDecided answer
IsExactAnswer over options falsehood answer = AreSo over falsehood answer.verdicts × IsDecided answer
IsExactAnswer over options (label j) answer = AreSo over (label j) answer.verdicts × IsDecided answer
IsExactAnswer over options (negation f) answer =
    AreSo over (negation f) answer.verdicts × ForOperand (IsExactAnswer over (unwatched options) f) (λ vs. answer ≡ verdicts_answer (opposites vs))
IsExactAnswer over options (conjunction f g) answer =
    AreSo over (conjunction f g) answer.verdicts
    × ForOperand (IsExactAnswer over (unwatched options) f) (λ vs. ForOperand (IsExactAnswer over (unwatched options) g)
    (λ ws. answer ≡ verdicts_answer (both vs ws)))
IsExactAnswer over options (disjunction f g) answer =
    AreSo over (disjunction f g) answer.verdicts
    × ForOperand (IsExactAnswer over (unwatched options) f) (λ vs. ForOperand (IsExactAnswer over (unwatched options) g)
    (λ ws. answer ≡ verdicts_answer (either vs ws)))
IsExactAnswer over options (next op q f) answer =
    AreSo over (next op q f) answer.verdicts
    × ForOperand (IsExactAnswer over (unwatched options) f) (λ vs. ShowsNext over f vs (comparison_of op) (decimal_fraction q.c q.x) answer)
IsExactAnswer over options (until op q f bound g) answer =
    AreSo over (until op q f bound g) answer.verdicts
    × ForOperand (IsExactAnswer over (unwatched options) f) (λ vs. ForOperand (IsExactAnswer over (unwatched options) g)
    (λ ws. ShowsBound over options bound f g vs ws (comparison_of op) (decimal_fraction q.c q.x) answer))
