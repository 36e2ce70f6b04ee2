-- The words of untils contain them, and decide thresholds on their values.
use Rattle.std.proofs.Common.{◌≡◌, ℕ, ◌+◌, ◌≤◌, ◌<◌, Bool, false, IsTrue, List, [], ◌∷◌, ◌++◌, sym, ap, ◌∙◌, subst, arith}
use Rattle.std.proofs.Math.Nat.{one-le-pow}
use Rattle.std.proofs.lemmas.Bool.{false_from_ne_true}
use Rattle.std.proofs.lemmas.List.FromFn.{map-range_with_len_more}
use Rattle.ctmc_semantics.specs.Bracket.{ContainsFrom, ContainsLimit}
use Rattle.ctmc_semantics.specs.Chain.{Chain}
use Rattle.ctmc_semantics.specs.Fraction.{Fraction}
use Rattle.ctmc_semantics.specs.Horizon.{horizon}
use Rattle.ctmc_semantics.specs.JumpValue.{jump_value, jump_fraction}
use Rattle.ctmc_semantics.specs.Jumps.{Jumps}
use Rattle.ctmc_semantics.specs.Poisson.{until_average}
use Rattle.ctmc_semantics.specs.Reach.{ReachesBack}
use Rattle.ctmc_semantics.specs.Rows.{rows_of, IsRowsOf}
use Rattle.ctmc_semantics.specs.Sets.{KnownSets, known_exactly, LieBetween}
use Rattle.ctmc_semantics.specs.Threshold.{Comparison}
use Rattle.ctmc_semantics.specs.Uniformised.{uniform_rate, uniformised}
use Rattle.ctmc_semantics.specs.WordBracket.{WordBracket, word_bracket, settle}
use Rattle.ctmc_semantics.proofs.AverageLemmas.{average_rises, den_positive}
use Rattle.ctmc_semantics.proofs.JumpsRise.{jump_value_rises}
use Rattle.ctmc_semantics.proofs.NarrowBracket.{settled_bracket_narrow}
use Rattle.ctmc_semantics.proofs.Settled.{settled_contains, settled_last_contains}
use Rattle.ctmc_semantics.proofs.UniformLemmas.{uniformised_stochastic, weights_rows}
use Rattle.ctmc_semantics.proofs.VerdictLemmas.{bounded_decided, unbounded_decided}
use Rattle.poisson_tail.specs.declared.layers.TheConstants.{MOST_LAYERS}
use Rattle.nested_verdict.specs.BracketAnswer.{printed_units}
use Rattle.nested_verdict.specs.ExactState.{AreNarrow, IsSettled}
use Rattle.nested_verdict.specs.UntilAnswer.{time_words, reach_words, words_answer, first_answers}
use Rattle.nested_verdict.specs.declared.state_answer.StateAnswer.{StateAnswer}
use Rattle.nested_verdict.proofs.ChainWalks.{reach_closed}
use Rattle.nested_verdict.proofs.ExactAnswers.{DecidesValue, words_have_ends, is_settled}
use Rattle.step_core.specs.Walk.{Walk, arrives}
use Rattle.step_core.specs.WalkFound.{can_reach}
use Rattle.step_core.proofs.Walks.{walk_of}

module _ (chain : Chain) (sets : KnownSets) (surely : LieBetween sets sets.live_must sets.goal_must) (s : ℕ)
    (inside : s < chain.states) where
  abbrev jumps : Jumps
  jumps = uniformised chain

  -- the states from which a walk through what may be live leads to what may be the goal
  abbrev reach : ℕ → Bool
  reach = can_reach chain.states chain.rate sets.live_may sets.goal_may

  abbrev out : Type 0
  out = ¬ Walk chain.states chain.rate sets.live_may sets.goal_may s

  some_rate : 0 < uniform_rate chain
  some_rate = omega arith

  are_rows : IsRowsOf (rows_of jumps) jumps
  are_rows = weights_rows jumps (uniformised_stochastic chain) some_rate

  closed : ReachesBack (rows_of jumps) sets.live_may sets.goal_may reach
  closed = reach_closed chain sets.live_may sets.goal_may

  out_of_reach : out → (sets.goal_must s ≡ false) × (reach s ≡ false)
  out_of_reach none = (
    false_from_ne_true (sets.goal_must s) (λ h. none (arrives (surely.goal_fits s h))),
    false_from_ne_true (reach s) (λ h. none (walk_of chain.states chain.rate sets.live_may sets.goal_may s h)),
  )

  -- words that are settled are printed so
  pub settled_printed : (words : WordBracket) → words ≡ settle (sets.goal_must s) (reach s) words
      → IsSettled (IsTrue (sets.goal_must s)) out (printed_units (word_bracket words))
  settled_printed words is =
      subst (λ w. IsSettled (IsTrue (sets.goal_must s)) out (printed_units (word_bracket w))) (sym is)
      (is_settled (sets.goal_must s) (reach s) words (IsTrue (sets.goal_must s)) out (λ h. h) out_of_reach)

  -- ---- within a time
  module _ (load : Fraction) (bits : ℕ) (positive : 0 < load.den) (few : bits ≤ 48) where
    abbrev last : ℕ
    last = horizon load bits

    abbrev averages : (ℕ → Bool) → (ℕ → Bool) → ℕ → Fraction
    averages live goal = until_average jumps load live goal s

    abbrev time_bracket : WordBracket
    time_bracket = time_words chain load bits sets s

    pub time_contains : (live goal : ℕ → Bool) → LieBetween sets live goal
        → ContainsFrom (word_bracket time_bracket) last (averages live goal)
    time_contains live goal between =
        settled_contains (rows_of jumps) jumps load bits sets live goal reach s are_rows (uniformised_stochastic chain) some_rate positive
        (omega (arith, few)) inside between closed

    -- what contains it decides thresholds on its value
    pub time_decides : (words : WordBracket) (live goal : ℕ → Bool) → ContainsFrom (word_bracket words) last (averages live goal)
        → DecidesValue words (averages live goal)
    time_decides words live goal contains =
        bounded_decided (word_bracket words) last (averages live goal) (words_have_ends words)
        (λ n. den_positive load jumps.total (λ k. jump_value jumps live goal k s) positive some_rate n)
        (λ n. average_rises load.num load.den jumps.total (λ k. jump_value jumps live goal k s)
        (λ k. jump_value_rises jumps live goal k s) n)
        contains

  -- ---- within any number of jumps
  module _ (last : ℕ) where
    abbrev values : (ℕ → Bool) → (ℕ → Bool) → ℕ → Fraction
    values live goal = jump_fraction jumps live goal s

    abbrev reach_bracket : WordBracket
    reach_bracket = reach_words chain last sets s

    pub reach_contains : (live goal : ℕ → Bool) → LieBetween sets live goal
        → ContainsLimit (word_bracket reach_bracket) last (values live goal)
    reach_contains live goal between =
        settled_last_contains (rows_of jumps) jumps last sets live goal reach s are_rows (uniformised_stochastic chain) some_rate inside
        between closed

    -- what contains it decides thresholds on its value
    pub reach_decides : (words : WordBracket) (live goal : ℕ → Bool) → ContainsLimit (word_bracket words) last (values live goal)
        → DecidesValue words (values live goal)
    reach_decides words live goal contains =
        unbounded_decided (word_bracket words) last (values live goal) (words_have_ends words)
        (λ n. omega (arith, one-le-pow n jumps.total some_rate)) contains

-- ---- where both sets are known exactly
module _ (chain : Chain) (live goal : ℕ → Bool) (s : ℕ) (inside : s < chain.states) where
  exactly : LieBetween (known_exactly live goal) live goal
  exactly = record { live_has = λ t h. h; live_fits = λ t h. h; goal_has = λ t h. h; goal_fits = λ t h. h }

  pub time_narrow : (load : Fraction) (bits : ℕ) → 0 < load.den → bits ≤ 48 → horizon load bits ≤ MOST_LAYERS
      → AreNarrow (horizon load bits) bits (time_words chain load bits (known_exactly live goal) s)
  time_narrow load bits positive few short =
      let known = known_exactly live goal in
      settled_bracket_narrow (rows_of (uniformised chain)) (uniformised chain) load bits live goal (reach chain known exactly s inside) s
      (are_rows chain known exactly s inside) (uniformised_stochastic chain) (some_rate chain known exactly s inside) positive few short
      inside

-- ---- one answer more
pub answers_more : (words : ℕ → WordBracket) (by : Comparison) (q : Fraction) (s : ℕ) (answers : List StateAnswer) (answer : StateAnswer)
    (w : WordBracket)
    → answers ≡ first_answers words by q s → w ≡ words s → answer ≡ words_answer by w q
    → answers ++ answer ∷ [] ≡ first_answers words by q (s + 1)
answers_more words by q s answers answer w so_far is here =
    ap (λ l. l ++ answer ∷ []) so_far
    ∙ ap (λ a. first_answers words by q s ++ a ∷ []) (here ∙ ap (λ v. words_answer by v q) is)
    ∙ sym (map-range_with_len_more (λ t. words_answer by (words t) q) 0 s s (omega arith))
