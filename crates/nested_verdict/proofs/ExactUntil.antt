-- The answer of an until at each state is exact, by each bound that is answered.
use Rattle.std.proofs.Common.{◌≡◌, ℕ, ◌^◌, ◌<◌, ◌≤◌, ◌⊎◌, inl, inr, Bool, IsTrue, List, sym, subst, arith}
use Rattle.ctmc_semantics.specs.Bracket.{ContainsFrom, ContainsLimit}
use Rattle.ctmc_semantics.specs.Chain.{Chain}
use Rattle.ctmc_semantics.specs.Fraction.{Fraction, decimal_fraction}
use Rattle.ctmc_semantics.specs.Horizon.{horizon}
use Rattle.ctmc_semantics.specs.Poisson.{until_average}
use Rattle.ctmc_semantics.specs.Sets.{KnownSets, LieBetween, holds_at}
use Rattle.ctmc_semantics.specs.Threshold.{Comparison}
use Rattle.ctmc_semantics.specs.Uniformised.{uniformised}
use Rattle.ctmc_semantics.specs.WordBracket.{WordBracket, word_bracket}
use Rattle.ctmc_semantics.proofs.Powers.{power_le}
use Rattle.command_words.specs.declared.command.Options.{Options}
use Rattle.csl_semantics.specs.Meaning.{IsSat, comparison_of, reach_values}
use Rattle.csl_syntax.specs.Tree.{Tree}
use Rattle.csl_syntax.specs.declared.formula.Op.{Op}
use Rattle.decimal_text.specs.DecimalNumber.{DecimalNumber}
use Rattle.model_core.specs.Model.{LabelledChain}
use Rattle.poisson_tail.specs.declared.layers.TheConstants.{MOST_LAYERS}
use Rattle.report.specs.declared.answer.Verdict.{Verdict}
use Rattle.nested_verdict.specs.ExactAnswer.{AreSo, ForEach, IsOutOfReach, IsNearUnless, AreNearLast, AreNearReach}
use Rattle.nested_verdict.specs.ExactState.{AreNarrow, IsExactUntil}
use Rattle.nested_verdict.specs.ThreeValues.{must_list, may_list, verdicts_know}
use Rattle.nested_verdict.specs.UntilAnswer.{time_words, reach_words, words_answer}
use Rattle.nested_verdict.specs.declared.state_answer.StateAnswer.{StateAnswer}
use Rattle.nested_verdict.proofs.ExactAnswers.{DecidesValue, words_exact}
use Rattle.nested_verdict.proofs.NearWords.{reach_near, time_near}
use Rattle.nested_verdict.proofs.OperandSets.{decided_sets, operands_between, sure_between}
use Rattle.nested_verdict.proofs.Verdicts.{reach_contains, reach_decides, settled_printed, time_contains, time_decides, time_narrow}
use Rattle.nested_verdict.proofs.WiderWords.{StandsIn, wider_contains}
use Rattle.nested_verdict.proofs.Widening.{from_widens, limit_widens}
use Rattle.step_core.specs.WalkFound.{can_reach}

pub power_of_ten : (k : ℕ) → 0 < 10 ^ k
power_of_ten k = omega (arith, power_le 10 0 k (omega arith) (omega arith))

module _ (over : LabelledChain) (options : Options) (op : Op) (q : DecimalNumber) (f g : Tree) (vs ws : List Verdict)
    (left : AreSo over f vs) (right : AreSo over g ws) where
  abbrev by : Comparison
  by = comparison_of op

  abbrev limit : Fraction
  limit = decimal_fraction q.c q.x

  abbrev sets : KnownSets
  sets = verdicts_know vs ws

  abbrev must_live : ℕ → Bool
  must_live = holds_at (must_list vs)

  abbrev must_goal : ℕ → Bool
  must_goal = holds_at (must_list ws)

  more : (values : (ℕ → Bool) → (ℕ → Bool) → ℕ → ℕ → Fraction) (s : ℕ) (P Q : (ℕ → Fraction) → Type 0)
      → ((x : ℕ → Fraction) → P x → Q x) → ForEach over f g values s P → ForEach over f g values s Q
  more values s P Q h each = λ ys zs stands other. h (values (holds_at ys) (holds_at zs) s) (each ys zs stands other)

  between : (ys zs : List Bool) → IsSat over f ys → IsSat over g zs → LieBetween sets (holds_at ys) (holds_at zs)
  between ys zs stands other = operands_between over f g vs ws left right ys zs stands other

  surely : LieBetween sets must_live must_goal
  surely = sure_between vs ws

  abbrev answer_by : WordBracket → StateAnswer
  answer_by w = words_answer by w limit

  abbrev IsOut : ℕ → Type 0
  IsOut s = IsOutOfReach over.chain (holds_at (may_list vs)) (holds_at (may_list ws)) s

  -- the same words are as near
  near_unless : (ended : Type 0) (IsNear : WordBracket → Type 0) (computed words : WordBracket) → ended ⊎ (words ≡ computed)
      → IsNear computed → IsNearUnless ended IsNear words
  near_unless ended IsNear computed words (inl early) near = inl early
  near_unless ended IsNear computed words (inr same) near = inr (subst IsNear (sym same) near)

  -- words in the place of the computed ones
  module _ (ended : Type 0) (words : WordBracket) (s : ℕ) (inside : s < over.chain.states) where
    abbrev reached : Bool
    reached = can_reach over.chain.states over.chain.rate sets.live_may sets.goal_may s

    pub reach_exact : StandsIn ended (must_goal s) reached (reach_words over.chain options.jumps sets s) words
        → IsExactUntil by (ForEach over f g (reach_values over) s)
        (λ b. ForEach over f g (reach_values over) s (ContainsLimit b options.jumps))
        (IsNearUnless ended (AreNearReach over options vs ws s)) (IsTrue (must_goal s)) (IsOut s) limit (answer_by words)
    reach_exact stands =
        let computed = reach_words over.chain options.jumps sets s in
        let contains : (live goal : ℕ → Bool) → LieBetween sets live goal
        → ContainsLimit (word_bracket words) options.jumps (reach_values over live goal s) =
        λ live goal lie.
        wider_contains (λ b. ContainsLimit b options.jumps (reach_values over live goal s))
        (limit_widens options.jumps (reach_values over live goal s)) words computed stands.encloses
        (reach_contains over.chain sets surely s inside options.jumps live goal lie) in
        let decides : (live goal : ℕ → Bool) → LieBetween sets live goal → DecidesValue words (reach_values over live goal s) =
        λ live goal lie. reach_decides over.chain sets surely s inside options.jumps words live goal (contains live goal lie) in
        words_exact by (ForEach over f g (reach_values over) s) (λ b x. ContainsLimit b options.jumps x)
        (IsNearUnless ended (AreNearReach over options vs ws s)) limit words (power_of_ten q.x) (more (reach_values over) s)
        (λ x. limit_widens options.jumps x) (reach_values over must_live must_goal s) (decides must_live must_goal surely)
        (λ ys zs stands other. decides (holds_at ys) (holds_at zs) (between ys zs stands other))
        (λ ys zs stands other. contains (holds_at ys) (holds_at zs) (between ys zs stands other))
        (IsTrue (must_goal s)) (IsOut s)
        (near_unless ended (AreNearReach over options vs ws s) computed words stands.same
        (reach_near over.chain sets surely s inside options.jumps))
        (settled_printed over.chain sets surely s inside words stands.settled)

  -- with a bound on what a load tells of a chain over the same states: the time, or of the dual chain the reward
  module _ (chain : Chain) (same : over.chain.states ≡ chain.states) (load : Fraction) (some_load : 0 < load.den)
      (few : options.bits ≤ 48) (short : horizon load options.bits ≤ MOST_LAYERS)
      (out : (s : ℕ) → IsOut s → IsOutOfReach chain (holds_at (may_list vs)) (holds_at (may_list ws)) s) where
    abbrev last : ℕ
    last = horizon load options.bits

    abbrev values : (ℕ → Bool) → (ℕ → Bool) → ℕ → ℕ → Fraction
    values live goal s = until_average (uniformised chain) load live goal s

    module _ (ended : Type 0) (words : WordBracket) (s : ℕ) (there : s < over.chain.states) where
      abbrev reached_there : Bool
      reached_there = can_reach chain.states chain.rate sets.live_may sets.goal_may s

      pub load_exact : StandsIn ended (must_goal s) reached_there (time_words chain load options.bits sets s) words
          → IsExactUntil by (ForEach over f g values s) (λ b. ForEach over f g values s (ContainsFrom b last))
          (IsNearUnless ended (AreNearLast last options.bits values vs ws s)) (IsTrue (must_goal s)) (IsOut s) limit (answer_by words)
      load_exact stands =
          let inside : s < chain.states = omega (arith, there, same) in
          let computed = time_words chain load options.bits sets s in
          let contains : (live goal : ℕ → Bool) → LieBetween sets live goal
          → ContainsFrom (word_bracket words) last (values live goal s) =
          λ live goal lie.
          wider_contains (λ b. ContainsFrom b last (values live goal s)) (from_widens last (values live goal s)) words computed
          stands.encloses (time_contains chain sets surely s inside load options.bits some_load few live goal lie) in
          let decides : (live goal : ℕ → Bool) → LieBetween sets live goal → DecidesValue words (values live goal s) =
          λ live goal lie.
          time_decides chain sets surely s inside load options.bits some_load few words live goal (contains live goal lie) in
          let settled = settled_printed chain sets surely s inside words stands.settled in
          words_exact by (ForEach over f g values s) (λ b x. ContainsFrom b last x)
          (IsNearUnless ended (AreNearLast last options.bits values vs ws s)) limit words (power_of_ten q.x) (more values s)
          (λ x. from_widens last x) (values must_live must_goal s) (decides must_live must_goal surely)
          (λ ys zs stands other. decides (holds_at ys) (holds_at zs) (between ys zs stands other))
          (λ ys zs stands other. contains (holds_at ys) (holds_at zs) (between ys zs stands other))
          (IsTrue (must_goal s)) (IsOut s)
          (near_unless ended (AreNearLast last options.bits values vs ws s) computed words stands.same (record {
            near = time_near chain sets surely s inside load options.bits some_load few short;
            narrow = λ d e.
                subst (λ known. AreNarrow last options.bits (time_words chain load options.bits known s)) (sym (decided_sets vs ws d e))
                (time_narrow chain must_live must_goal s inside load options.bits some_load few short);
          }))
          (record { one = settled.one; none = λ h. settled.none (out s h) })
