-- The words of a plan are those of its until.
use Rattle.std.proofs.Common.{◌≡◌, ℕ, ◌<◌, ◌⊎◌, inl, inr, Bool, List, cond, IsTrue, ap, subst, ◌∙◌, length, arith, sym}
use Rattle.std.specs.Prelude.{slice_index}
use Rattle.std.proofs.lemmas.List.FromFn.{fill_by_all, get_or-map-range_with_len, length-map-range_with_len}
use Rattle.ctmc_semantics.specs.Chain.{Chain}
use Rattle.ctmc_semantics.specs.Fraction.{Fraction}
use Rattle.ctmc_semantics.specs.Mix.{mix_low, mix_high}
use Rattle.ctmc_semantics.specs.RoundedTables.{one_word, set_words, low_table, high_table}
use Rattle.ctmc_semantics.specs.Rows.{Rows, rows_of}
use Rattle.ctmc_semantics.specs.Sets.{KnownSets, holds_at}
use Rattle.ctmc_semantics.specs.Threshold.{Comparison}
use Rattle.ctmc_semantics.specs.Uniformised.{uniform_rate, uniformised}
use Rattle.ctmc_semantics.specs.Weights.{low_weight, high_weight}
use Rattle.ctmc_semantics.specs.WordBracket.{WordBracket, settle, until_words, last_words}
use Rattle.ctmc_semantics.proofs.MixNarrow.{mix_low_reads, mix_high_reads}
use Rattle.command_words.specs.declared.command.Options.{Options}
use Rattle.csl_semantics.specs.Meaning.{load_of}
use Rattle.csl_syntax.specs.declared.formula.Bound.{Bound}
use Rattle.csl_syntax.specs.declared.formula.Bound.TheVariants.{Unbounded, Time, Reward}
use Rattle.mix_columns.specs.Mixed.{mixed_words, plan_mix, plan_settle, one_thread_words}
use Rattle.mix_columns.specs.MixLaws.{EnclosesWords}
use Rattle.model_core.specs.Model.{LabelledChain}
use Rattle.step_core.specs.FrameLists.{SetLists}
use Rattle.step_core.specs.FrameRows.{frame_rows, StandFor}
use Rattle.step_core.specs.PlanLists.{PlanLists}
use Rattle.step_core.specs.PlanTables.{plan_low, plan_high}
use Rattle.step_core.specs.SoundPlan.{IsSoundPlan, starts_at_one}
use Rattle.step_core.specs.Walk.{Walk}
use Rattle.step_core.specs.WalkFound.{can_reach}
use Rattle.step_core.specs.declared.bracket.Bracket.{Bracket}
use Rattle.uniformise.specs.TimePlan.{IsTimePlan}
use Rattle.uniformise.specs.UnboundedPlan.{IsUnboundedPlan}
use Rattle.reader_pass.specs.StateBrackets.{AreOneThread}
use Rattle.nested_verdict.specs.EarlyEnd.{MayEndEarly}
use Rattle.nested_verdict.specs.UntilAnswer.{time_words, reach_words, state_words, words_answer, first_answers, listed_words}
use Rattle.nested_verdict.specs.UntilBrackets.{AllDecide, AreUntilBrackets}
use Rattle.nested_verdict.specs.ThreeValues.{verdict_sets, verdicts_know}
use Rattle.csl_semantics.specs.Dual.{dual, reward_load}
use Rattle.nested_verdict.specs.UntilPlan.{IsPlanOf, dual_by, load_by}
use Rattle.report.specs.declared.answer.Verdict.{Verdict}
use Rattle.nested_verdict.proofs.ChainWalks.{reach_is}
use Rattle.nested_verdict.proofs.Places.{decided_all, verdicts_by}
use Rattle.nested_verdict.proofs.PlanCells.{plan_states}
use Rattle.nested_verdict.proofs.SameTables.{low_of_rows, high_of_rows}
use Rattle.nested_verdict.proofs.WiderWords.{StandIn}

-- ---- a plan over a chain, with what its operands' verdicts tell of the sets
module _ (chain : Chain) (vs ws : List Verdict) (plan : PlanLists) (sound : IsSoundPlan plan)
    (stand : StandFor plan.frame.rows (uniformised chain)) (sets_are : plan.frame.sets ≡ verdict_sets vs ws) where
  abbrev sets : KnownSets
  sets = verdicts_know vs ws

  goal_must : (t : ℕ) → holds_at plan.frame.sets.goal_must t ≡ sets.goal_must t
  goal_must t = ap (λ sets. holds_at sets.goal_must t) sets_are

  goal_may : (t : ℕ) → holds_at plan.frame.sets.goal_may t ≡ sets.goal_may t
  goal_may t = ap (λ sets. holds_at sets.goal_may t) sets_are

  live_must : (t : ℕ) → holds_at plan.frame.sets.live_must t ≡ sets.live_must t
  live_must t = ap (λ sets. holds_at sets.live_must t) sets_are

  live_may : (t : ℕ) → holds_at plan.frame.sets.live_may t ≡ sets.live_may t
  live_may t = ap (λ sets. holds_at sets.live_may t) sets_are

  some_rate : 0 < uniform_rate chain
  some_rate = omega arith

  same_reach : (s : ℕ) → s < chain.states
      → holds_at plan.reach s ≡ can_reach chain.states chain.rate sets.live_may sets.goal_may s
  same_reach s l =
      let rows = frame_rows plan.frame.rows in
      let exact : (t : ℕ) → t < rows.states
      → (IsTrue (holds_at plan.reach t) → Walk rows.states rows.num sets.live_may sets.goal_may t)
      × (Walk rows.states rows.num sets.live_may sets.goal_may t → IsTrue (holds_at plan.reach t)) =
      subst (λ (known : SetLists). (t : ℕ) → t < rows.states
      → (IsTrue (holds_at plan.reach t) → Walk rows.states rows.num (holds_at known.live_may) (holds_at known.goal_may) t)
      × (Walk rows.states rows.num (holds_at known.live_may) (holds_at known.goal_may) t → IsTrue (holds_at plan.reach t)))
      sets_are (λ t m. let told = sound.reach.exact t m in (told.0, told.1)) in
      reach_is chain rows stand sets.live_may sets.goal_may (holds_at plan.reach) exact s (omega (arith, l, stand.same_states))

  module _ (s : ℕ) (inside : s < chain.states) where
    abbrev low_words : ℕ → ℕ
    low_words k = plan_low plan k s

    abbrev high_words : ℕ → ℕ
    high_words k = plan_high plan k s

    here : s < length plan.frame.rows
    here = omega (arith, inside, stand.same_states)

    low_word : (k : ℕ) → low_words k ≡ low_table (rows_of (uniformised chain)) sets.live_must sets.goal_must k s
    low_word k =
        low_of_rows (frame_rows plan.frame.rows) (uniformised chain) stand some_rate (holds_at plan.frame.sets.live_must)
        sets.live_must (holds_at plan.frame.sets.goal_must) sets.goal_must (λ t m. live_must t) (λ t m. goal_must t) k s here

    high_word : (start : ℕ → ℕ) → ((t : ℕ) → t < length plan.frame.rows → slice_index plan.start_upper t ≡ start t) → (k : ℕ)
        → high_words k ≡ high_table (rows_of (uniformised chain)) sets.live_may sets.goal_may start k s
    high_word start starts k =
        high_of_rows (frame_rows plan.frame.rows) (uniformised chain) stand some_rate (holds_at plan.frame.sets.live_may)
        sets.live_may (holds_at plan.frame.sets.goal_may) sets.goal_may (λ t m. live_may t) (λ t m. goal_may t)
        (slice_index plan.start_upper) start starts k s here

    -- a state's bracket is settled by the sets
    settles : (mixed : WordBracket) → plan_settle plan s mixed
        ≡ settle (sets.goal_must s) (can_reach chain.states chain.rate sets.live_may sets.goal_may s) mixed
    settles mixed =
        ap (λ g. settle g (holds_at plan.reach s) mixed) (goal_must s)
        ∙ ap (λ r. settle (sets.goal_must s) r mixed) (same_reach s inside)

    settled_is : (mixed : WordBracket) → plan_mix plan low_words high_words ≡ mixed
        → one_thread_words plan s
        ≡ settle (sets.goal_must s) (can_reach chain.states chain.rate sets.live_may sets.goal_may s) mixed
    settled_is mixed is = ap (plan_settle plan s) is ∙ settles mixed

abbrev bracket : ℕ → ℕ → WordBracket
bracket lower upper = record { lower = lower; upper = upper }

-- ---- the plan of a time bound
module _ (chain : Chain) (load : Fraction) (bits : ℕ) (vs ws : List Verdict) (plan : PlanLists)
    (is : IsTimePlan chain load bits (verdict_sets vs ws) plan) (s : ℕ) (inside : s < chain.states) where
  abbrev rows : Rows
  rows = rows_of (uniformised chain)

  abbrev known : KnownSets
  known = verdicts_know vs ws

  abbrev start : ℕ → ℕ
  start = set_words known.goal_may

  abbrev mixed : WordBracket
  mixed = until_words rows load bits known s

  starts : (t : ℕ) → t < length plan.frame.rows → slice_index plan.start_upper t ≡ start t
  starts t l =
      is.sound.start t l
      ∙ ap (λ m. set_words (starts_at_one m (holds_at plan.frame.sets.goal_may) (holds_at plan.reach)) t) is.is_mix
      ∙ ap (λ z. cond z one_word 0) (goal_may chain vs ws plan is.sound is.rows is.sets_are t)

  lower_mix : mix_low plan.layers (slice_index is.weights.low) (slice_index is.weights.high) (λ k. plan_low plan k s) ≡ mixed.lower
  lower_mix =
      let words : ℕ → ℕ = λ k. low_table rows known.live_must known.goal_must k s in
      mix_low_reads plan.layers (slice_index is.weights.low) (slice_index is.weights.high) (λ k. plan_low plan k s)
      (low_weight load) (high_weight load) words is.fits.weights_of.low is.fits.weights_of.high
      (λ k l. low_word chain vs ws plan is.sound is.rows is.sets_are s inside k)
      ∙ ap (λ n. mix_low n (low_weight load) (high_weight load) words) is.fits.last_layer

  abbrev upper_of_plan : ℕ
  upper_of_plan = mix_high plan.layers bits (slice_index is.weights.low) (slice_index is.weights.high) (λ k. plan_high plan k s)

  upper_mix : upper_of_plan ≡ mixed.upper
  upper_mix =
      let words : ℕ → ℕ = λ k. high_table rows known.live_may known.goal_may start k s in
      mix_high_reads plan.layers bits (slice_index is.weights.low) (slice_index is.weights.high) (λ k. plan_high plan k s)
      (low_weight load) (high_weight load) words is.fits.weights_of.low is.fits.weights_of.high
      (λ k l. high_word chain vs ws plan is.sound is.rows is.sets_are s inside start starts k)
      ∙ ap (λ n. mix_high n bits (low_weight load) (high_weight load) words) is.fits.last_layer

  time_mix : plan_mix plan (λ k. plan_low plan k s) (λ k. plan_high plan k s) ≡ mixed
  time_mix =
      ap (λ m. mixed_words plan.layers m (λ k. plan_low plan k s) (λ k. plan_high plan k s)) is.is_mix
      ∙ ap (λ l. bracket l upper_of_plan) lower_mix
      ∙ ap (bracket mixed.lower) upper_mix

  time_words_are : one_thread_words plan s ≡ time_words chain load bits known s
  time_words_are = settled_is chain vs ws plan is.sound is.rows is.sets_are s inside mixed time_mix

-- ---- the plan of an until without a bound
module _ (chain : Chain) (jumps : ℕ) (vs ws : List Verdict) (plan : PlanLists)
    (is : IsUnboundedPlan chain jumps (verdict_sets vs ws) plan) (s : ℕ) (inside : s < chain.states) where
  abbrev told : KnownSets
  told = verdicts_know vs ws

  abbrev reach : ℕ → Bool
  reach = can_reach chain.states chain.rate told.live_may told.goal_may

  abbrev last_bracket : WordBracket
  last_bracket = last_words (rows_of (uniformised chain)) jumps told reach s

  reach_starts : (t : ℕ) → t < length plan.frame.rows → slice_index plan.start_upper t ≡ set_words reach t
  reach_starts t l =
      is.sound.start t l
      ∙ ap (λ m. set_words (starts_at_one m (holds_at plan.frame.sets.goal_may) (holds_at plan.reach)) t) is.is_mix
      ∙ ap (λ z. cond z one_word 0)
      (same_reach chain vs ws plan is.sound is.rows is.sets_are t (omega (arith, l, is.rows.same_states)))

  reach_mix : plan_mix plan (λ k. plan_low plan k s) (λ k. plan_high plan k s) ≡ last_bracket
  reach_mix =
      let low = low_word chain vs ws plan is.sound is.rows is.sets_are s inside in
      let high = high_word chain vs ws plan is.sound is.rows is.sets_are s inside (set_words reach) reach_starts in
      ap (λ m. mixed_words plan.layers m (λ k. plan_low plan k s) (λ k. plan_high plan k s)) is.is_mix
      ∙ ap (λ n. bracket (plan_low plan n s) (plan_high plan n s)) is.last
      ∙ ap (λ l. bracket l (plan_high plan jumps s)) (low jumps)
      ∙ ap (bracket last_bracket.lower) (high jumps)

  reach_words_are : one_thread_words plan s ≡ reach_words chain jumps told s
  reach_words_are = settled_is chain vs ws plan is.sound is.rows is.sets_are s inside last_bracket reach_mix

-- ---- answers from the same words are the same
module _ (by : Comparison) (q : Fraction) (n : ℕ) (x y : ℕ → WordBracket) (same : (s : ℕ) → s < n → x s ≡ y s) where
  pub first_same : first_answers x by q n ≡ first_answers y by q n
  first_same =
      let some_answer = words_answer by (y 0) q in
      fill_by_all (λ s. words_answer by (y s) q) (first_answers x by q n) n some_answer
      (length-map-range_with_len (λ s. words_answer by (x s) q) 0 n)
      (λ s inside.
      get_or-map-range_with_len (λ t. words_answer by (x t) q) 0 n s s some_answer inside (omega arith)
      ∙ ap (λ w. words_answer by w q) (same s inside))

-- the chain whose jumps an until counts: of one with a bound on the reward the dual chain
abbrev pub bound_chain : LabelledChain → Bound → Chain
bound_chain over Unbounded = over.chain
bound_chain over (Time t) = over.chain
bound_chain over (Reward r) = dual_by over over.rewards

-- whether a walk of its jumps leads from the state to what may be the goal
abbrev pub bound_reach : LabelledChain → Bound → KnownSets → ℕ → Bool
bound_reach over bound sets s =
    can_reach (bound_chain over bound).states (bound_chain over bound).rate sets.live_may sets.goal_may s

-- ---- the words of a plan are those of the until
module _ (over : LabelledChain) (options : Options) (vs ws : List Verdict) (plan : PlanLists) where
  abbrev both_sets : KnownSets
  both_sets = verdicts_know vs ws

  words_are : (bound : Bound) → IsPlanOf over options bound (verdict_sets vs ws) plan → (s : ℕ) → s < over.chain.states
      → one_thread_words plan s ≡ state_words over options bound both_sets s
  words_are Unbounded is s inside = reach_words_are over.chain options.jumps vs ws plan is s inside
  words_are (Time t) is s inside = time_words_are over.chain (load_of over t) options.bits vs ws plan is s inside
  words_are (Reward r) is s inside =
      let rewards = is.earns.rewards in
      time_words_are (dual over.chain rewards.reward) (reward_load over rewards r) options.bits vs ws plan is.is s inside
      ∙ ap (λ o. time_words (dual_by over o) (load_by over r o) options.bits both_sets s) (sym is.earns.are)

  -- and so are those that need no counting
  settled_by : (bound : Bound) → IsPlanOf over options bound (verdict_sets vs ws) plan → (s : ℕ) → s < over.chain.states
      → (words : WordBracket)
      → plan_settle plan s words ≡ settle (both_sets.goal_must s) (bound_reach over bound both_sets s) words
  settled_by Unbounded is s inside words = settles over.chain vs ws plan is.sound is.rows is.sets_are s inside words
  settled_by (Time t) is s inside words = settles over.chain vs ws plan is.sound is.rows is.sets_are s inside words
  settled_by (Reward r) is s inside words =
      let rewards = is.earns.rewards in
      settles (dual over.chain rewards.reward) vs ws plan is.is.sound is.is.rows is.is.sets_are s inside words
      ∙ ap (λ o. settle (both_sets.goal_must s)
      (can_reach (dual_by over o).states (dual_by over o).rate both_sets.live_may both_sets.goal_may s) words) (sym is.earns.are)

  -- the brackets of a plan's states stand in the place of the until's
  module _ (bound : Bound) (is : IsPlanOf over options bound (verdict_sets vs ws) plan) (by : Comparison) (q : Fraction)
      (brackets : List Bracket) (are : AreUntilBrackets plan options.until_decided by q brackets) where
    pub counted : length brackets ≡ over.chain.states
    counted = are.enclose.each_state ∙ plan_states over options (verdict_sets vs ws) plan bound is

    of_plan : (s : ℕ) → s < over.chain.states → s < length plan.frame.rows
    of_plan s inside = omega (arith, inside, plan_states over options (verdict_sets vs ws) plan bound is)

    abbrev no_words : Bracket
    no_words = record { lower = 0; upper = 0 }

    ended_or : (IsTrue options.until_decided × AllDecide by q brackets) ⊎ AreOneThread plan brackets
        → MayEndEarly options (verdicts_by (listed_words brackets) by q over.chain.states)
        ⊎ ((s : ℕ) → s < over.chain.states → listed_words brackets s ≡ state_words over options bound both_sets s)
    ended_or (inl early) =
        inl (record {
          asked = early.0;
          decided =
              decided_all (λ s. words_answer by (listed_words brackets s) q) over.chain.states
              (λ s inside. early.1 s no_words (omega (arith, inside, counted)));
        })
    ended_or (inr one) = inr (λ s inside. one.words s (of_plan s inside) ∙ words_are bound is s inside)

    pub brackets_stand : StandIn (MayEndEarly options (verdicts_by (listed_words brackets) by q over.chain.states)) over.chain.states
        both_sets.goal_must (bound_reach over bound both_sets) (state_words over options bound both_sets) (listed_words brackets)
    brackets_stand = record {
      encloses = λ s inside.
          subst (EnclosesWords (listed_words brackets s)) (words_are bound is s inside) (are.enclose.words s (of_plan s inside)).encloses;
      settled = λ s inside. (are.enclose.words s (of_plan s inside)).settled ∙ settled_by bound is s inside (listed_words brackets s);
      same = ended_or are.ended;
    }
