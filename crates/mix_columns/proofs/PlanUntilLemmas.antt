-- The brackets of a sound plan contain its until, and are narrow where its sets are known exactly.
use Rattle.std.proofs.Common.{◌≡◌, ℕ, zero, suc, ◌+◌, ◌*◌, ◌^◌, ◌≤◌, ◌<◌, Bool, true, false, cond, IsTrue, refl, sym, ap, ◌∙◌, subst, length, arith}
use Rattle.std.proofs.Math.Nat.{mul-le-mul_left, mul-le-mul_right, pow-zero}
use Rattle.std.proofs.lemmas.Bool.{false≢true}
use Rattle.std.specs.Int.{div_ceil}
use Rattle.std.specs.Prelude.{slice_index}
use Rattle.ctmc_semantics.specs.Bracket.{HasEnds, Encloses, ContainsFrom, ContainsLimit}
use Rattle.ctmc_semantics.specs.Fraction.{Fraction}
use Rattle.ctmc_semantics.specs.Horizon.{horizon, greatest_width}
use Rattle.ctmc_semantics.specs.Jumps.{Jumps, IsStochastic}
use Rattle.ctmc_semantics.specs.JumpValue.{jump_value, jump_fraction}
use Rattle.ctmc_semantics.specs.Mix.{mix_low, mix_high}
use Rattle.ctmc_semantics.specs.Poisson.{until_average}
use Rattle.ctmc_semantics.specs.Reach.{ReachesBack}
use Rattle.ctmc_semantics.specs.RoundedTables.{one_word, set_words, low_table, high_table, exact_word}
use Rattle.ctmc_semantics.specs.Rows.{Rows, IsRowsOf}
use Rattle.ctmc_semantics.specs.Sets.{KnownSets, LieBetween, holds_at, known_exactly}
use Rattle.ctmc_semantics.specs.Sum.{sum_below}
use Rattle.ctmc_semantics.specs.Weights.{low_weight, high_weight}
use Rattle.ctmc_semantics.specs.WordBracket.{WordBracket, word_bracket, settle, until_words, last_words}
use Rattle.ctmc_semantics.proofs.ContainsLemmas.{enclosing_contains, enclosing_contains_limit}
use Rattle.ctmc_semantics.proofs.HighTables.{high_under}
use Rattle.ctmc_semantics.proofs.JumpsRise.{jump_value_capped}
use Rattle.ctmc_semantics.proofs.LowTables.{low_above}
use Rattle.ctmc_semantics.proofs.MixNarrow.{mix_low_reads, mix_high_reads}
use Rattle.ctmc_semantics.proofs.NarrowBracket.{settled_bracket_narrow}
use Rattle.ctmc_semantics.proofs.ReachLemmas.{unreached}
use Rattle.ctmc_semantics.proofs.Settled.{settled_contains, settled_last_contains}
use Rattle.ctmc_semantics.proofs.UniformLemmas.{rows_stochastic}
use Rattle.step_core.specs.FrameRows.{frame_rows, StandFor}
use Rattle.step_core.specs.PlanLists.{PlanLists}
use Rattle.step_core.specs.PlanLoad.{FitsPoisson, FitsMix, FitsPlan}
use Rattle.step_core.specs.PlanTables.{plan_low, plan_high}
use Rattle.step_core.specs.SoundPlan.{IsSoundPlan, IsSoundPoisson, IsSoundMix, starts_at_one}
use Rattle.step_core.specs.Walk.{arrives, goes}
use Rattle.step_core.specs.WeightLists.{WeightLists}
use Rattle.step_core.specs.declared.mix.Mix.{Mix}
use Rattle.step_core.specs.declared.mix.Mix.TheVariants.{Poisson, Last}
use Rattle.step_core.proofs.Layers.{row_high-same}
use Rattle.step_core.proofs.PlanTableLemmas.{high_table-same}
use Rattle.mix_columns.specs.Mixed.{mixed_words, plan_settle, one_thread_words}
use Rattle.mix_columns.specs.MixLaws.{EnclosesWords}
use Rattle.mix_columns.specs.PlanUntil.{known_sets, ContainsMixed, ContainsUntil, AreKnown, IsNearLast}

-- ---- what encloses words encloses the fractions for which they stand
pub to_encloses : (outer inner : WordBracket) → EnclosesWords outer inner → Encloses (word_bracket outer) (word_bracket inner)
to_encloses outer inner h = record { below = mul-le-mul_right one_word h.lower; above = mul-le-mul_right one_word h.upper }

has_ends : (w : WordBracket) → HasEnds (word_bracket w)
has_ends w = record { low = omega arith; high = omega arith }

pub encloses_mixed : (last : ℕ) (mix : Mix) (j : Jumps) (live goal : ℕ → Bool) (s : ℕ) (outer inner : WordBracket)
    → EnclosesWords outer inner → ContainsMixed last mix j live goal s inner → ContainsMixed last mix j live goal s outer
encloses_mixed last (Poisson weights bits) j live goal s outer inner h contains = λ load fits n l.
    enclosing_contains (word_bracket outer) (word_bracket inner) (until_average j load live goal s n) (has_ends inner)
    (to_encloses outer inner h) (contains load fits n l)
encloses_mixed last Last j live goal s outer inner h contains =
    enclosing_contains_limit (word_bracket outer) (word_bracket inner) last (jump_fraction j live goal s) (has_ends inner)
    (to_encloses outer inner h) contains

pub encloses_until : (plan : PlanLists) (s : ℕ) (outer inner : WordBracket) → EnclosesWords outer inner → ContainsUntil plan s inner
    → ContainsUntil plan s outer
encloses_until plan s outer inner h contains j live goal stand some between =
    encloses_mixed plan.layers plan.mix j live goal s outer inner h (contains j live goal stand some between)

-- ---- tables over sets that have the same states
same_truth : (a b : Bool) → (IsTrue a → IsTrue b) → (IsTrue b → IsTrue a) → a ≡ b
same_truth true b f g = sym (f refl)
same_truth false true f g = absurd (false≢true (g refl))
same_truth false false f g = refl

high_table-sets : (r : Rows) (live live' goal goal' : ℕ → Bool) (start start' : ℕ → ℕ) → ((t : ℕ) → live t ≡ live' t)
    → ((t : ℕ) → goal t ≡ goal' t) → ((t : ℕ) → t < r.states → start t ≡ start' t) → (k s : ℕ) → s < r.states
    → high_table r live goal start k s ≡ high_table r live' goal' start' k s
high_table-sets r live live' goal goal' start start' e f h zero s l = h s l
high_table-sets r live live' goal goal' start start' e f h (suc k) s l =
    let x : ℕ → ℕ = high_table r live goal start k in
    let y : ℕ → ℕ = high_table r live' goal' start' k in
    row_high-same r live goal x y (λ t i. high_table-sets r live live' goal goal' start start' e f h k t i) s
    ∙ ap (λ g. cond g one_word (cond (live s) (div_ceil (sum_below r.states (λ t. r.num s t * y t)) (r.den s)) 0)) (f s)
    ∙ ap (λ m. cond (goal' s) one_word (cond m (div_ceil (sum_below r.states (λ t. r.num s t * y t)) (r.den s)) 0)) (e s)

-- ---- the settled words of an unbounded until against the exact ones, over plain numbers
near_cases : (is_goal can_reach : Bool) (w : WordBracket) (last value exact power : ℕ) → value ≤ power
    → (IsTrue is_goal → exact ≡ one_word * power) → ((IsTrue can_reach → ⊥) → value ≡ 0)
    → one_word * value ≤ (w.lower + last) * power → w.upper * power ≤ exact + last * power
    → (one_word * value ≤ ((settle is_goal can_reach w).lower + last) * power)
    × ((settle is_goal can_reach w).upper * power ≤ exact + last * power)
near_cases true can_reach w last value exact power capped whole none low high =
    (omega (arith, mul-le-mul_left one_word capped), omega (arith, whole refl))
near_cases false true w last value exact power capped whole none low high = (low, high)
near_cases false false w last value exact power capped whole none low high =
    (omega (arith, none false≢true), omega arith)

chosen : (b : Bool) (x y : ℕ) → IsTrue b → cond b x y ≡ x
chosen true x y h = refl
chosen false x y h = absurd (false≢true h)

-- the exact word of a state of the goal
goal_word : (j : Jumps) (live goal reach : ℕ → Bool) (s : ℕ) → IsTrue (goal s) → IsTrue (reach s) → (k : ℕ)
    → exact_word j live goal (set_words reach) k s ≡ one_word * j.total ^ k
goal_word j live goal reach s g h zero = chosen (reach s) one_word 0 h ∙ rw (pow-zero j.total) refl
goal_word j live goal reach s g h (suc k) = chosen (goal s) (one_word * j.total ^ suc k) _ g

-- where both sets are known exactly, the settled words of an unbounded until are near the exact ones
pub settled_last_near : (r : Rows) (j : Jumps) (last : ℕ) (live goal reach : ℕ → Bool) (s : ℕ) → IsRowsOf r j → IsStochastic j
    → 0 < j.total → s < j.states → ReachesBack r live goal reach
    → IsNearLast last j live goal reach s (settle (goal s) (reach s) (last_words r last (known_exactly live goal) reach s))
settled_last_near r j last live goal reach s is stochastic some there closed =
    let inside : s < r.states = subst (λ n. s < n) (sym is.same_states) there in
    let near =
    near_cases (goal s) (reach s) (last_words r last (known_exactly live goal) reach s) last (jump_value j live goal last s)
    (exact_word j live goal (set_words reach) last s) (j.total ^ last) (jump_value_capped j stochastic live goal last s there)
    (λ g. goal_word j live goal reach s g (closed.goal_in s inside g) last)
    (λ outside. unreached r j is stochastic some live goal reach closed last s there outside)
    (low_above r j is live goal last s inside) (high_under r j is live goal (set_words reach) last s inside) in
    record { lower = near.0; upper = near.1 }

module _ (plan : PlanLists) (sound : IsSoundPlan plan) where
  abbrev rows : Rows
  rows = frame_rows plan.frame.rows

  abbrev sets : KnownSets
  sets = known_sets plan.frame.sets

  abbrev reach : ℕ → Bool
  reach = holds_at plan.reach

  closed : ReachesBack rows sets.live_may sets.goal_may reach
  closed = record {
    goal_in = λ t l h. (sound.reach.exact t l).1 (arrives h);
    back = λ t u l i g p h. (sound.reach.exact t l).1 (goes g i p ((sound.reach.exact u i).0 h));
  }

  -- where both sets are known exactly, the upper table is over those that surely hold
  module _ (known : AreKnown plan.frame.sets) where
    same_live : (t : ℕ) → sets.live_may t ≡ sets.live_must t
    same_live t = same_truth (sets.live_may t) (sets.live_must t) (known.live t) (sound.frame.sets.live t)

    same_goal : (t : ℕ) → sets.goal_may t ≡ sets.goal_must t
    same_goal t = same_truth (sets.goal_may t) (sets.goal_must t) (known.goal t) (sound.frame.sets.goal t)

    known_high : (start : ℕ → ℕ) → ((t : ℕ) → t < length plan.frame.rows → slice_index plan.start_upper t ≡ start t) → (k s : ℕ)
        → s < length plan.frame.rows → plan_high plan k s ≡ high_table rows sets.live_must sets.goal_must start k s
    known_high start start_is k s l =
        high_table-sets rows sets.live_may sets.live_must sets.goal_may sets.goal_must (slice_index plan.start_upper) start same_live
        same_goal start_is k s l

  module _ (s : ℕ) (inside : s < length plan.frame.rows) where
    abbrev low_words : ℕ → ℕ
    low_words k = plan_low plan k s

    abbrev high_words : ℕ → ℕ
    high_words k = plan_high plan k s

    -- of a bounded until, the mix of the tables is the mix of the load's words, of which the upper ones are over equal sets
    module _ (weights : WeightLists) (bits : ℕ) (is : plan.mix ≡ Poisson weights bits) (load : Fraction)
        (fits : FitsPoisson load plan.layers weights bits) where
      start_is : (t : ℕ) → t < length plan.frame.rows → slice_index plan.start_upper t ≡ set_words sets.goal_may t
      start_is t l = sound.start t l ∙ ap (λ m. set_words (starts_at_one m sets.goal_may reach) t) is

      poisson : IsSoundPoisson plan.layers weights bits
      poisson = subst (IsSoundMix plan.layers) is sound.mix

      mix_over : (known : KnownSets) → known.live_must ≡ sets.live_must → known.goal_must ≡ sets.goal_must
          → ((k : ℕ) → high_words k ≡ high_table rows known.live_may known.goal_may (set_words known.goal_may) k s)
          → mixed_words plan.layers (Poisson weights bits) low_words high_words ≡ until_words rows load bits known s
      mix_over known live goal high =
          let low : (k : ℕ) → low_words k ≡ low_table rows known.live_must known.goal_must k s =
          λ k. ap (λ m. low_table rows m sets.goal_must k s) (sym live) ∙ ap (λ m. low_table rows known.live_must m k s) (sym goal) in
          let lower : mix_low plan.layers (slice_index weights.low) (slice_index weights.high) low_words
          ≡ (until_words rows load bits known s).lower =
          mix_low_reads plan.layers (slice_index weights.low) (slice_index weights.high) low_words (low_weight load) (high_weight load)
          (λ k. low_table rows known.live_must known.goal_must k s) fits.weights_of.low fits.weights_of.high (λ k l. low k)
          ∙ ap (λ n. mix_low n (low_weight load) (high_weight load) (λ k. low_table rows known.live_must known.goal_must k s))
          fits.last_layer in
          let upper : mix_high plan.layers bits (slice_index weights.low) (slice_index weights.high) high_words
          ≡ (until_words rows load bits known s).upper =
          mix_high_reads plan.layers bits (slice_index weights.low) (slice_index weights.high) high_words (low_weight load)
          (high_weight load) (λ k. high_table rows known.live_may known.goal_may (set_words known.goal_may) k s) fits.weights_of.low
          fits.weights_of.high (λ k l. high k)
          ∙ ap (λ n. mix_high n bits (low_weight load) (high_weight load)
          (λ k. high_table rows known.live_may known.goal_may (set_words known.goal_may) k s)) fits.last_layer in
          λ t. record { lower = lower t; upper = upper t }

      bounded_mix : mixed_words plan.layers (Poisson weights bits) low_words high_words ≡ until_words rows load bits sets s
      bounded_mix =
          mix_over sets refl refl
          (λ k. high_table-same rows sets.live_may sets.goal_may (slice_index plan.start_upper) (set_words sets.goal_may) start_is k s
          inside)

      pub bounded_contains : (j : Jumps) (live goal : ℕ → Bool) → StandFor plan.frame.rows j → 0 < j.total → LieBetween sets live goal
          → ContainsFrom (word_bracket (plan_settle plan s (mixed_words plan.layers (Poisson weights bits) low_words high_words)))
          plan.layers (until_average j load live goal s)
      bounded_contains j live goal stand some between =
          let there : s < j.states = subst (λ n. s < n) stand.same_states inside in
          let law =
          settled_contains rows j load bits sets live goal reach s stand (rows_stochastic rows j stand) some fits.positive
          (omega (arith, poisson.few_bits)) there between closed in
          subst (λ w. ContainsFrom (word_bracket (plan_settle plan s w)) plan.layers (until_average j load live goal s)) (sym bounded_mix)
          (subst (λ n. ContainsFrom (word_bracket (plan_settle plan s (until_words rows load bits sets s))) n
          (until_average j load live goal s)) (sym fits.last_layer) law)

      -- where both sets are known exactly
      module _ (known : AreKnown plan.frame.sets) where
        exact_mix : mixed_words plan.layers (Poisson weights bits) low_words high_words
            ≡ until_words rows load bits (known_exactly sets.live_must sets.goal_must) s
        exact_mix =
            mix_over (known_exactly sets.live_must sets.goal_must) refl refl
            (λ k. known_high known (set_words sets.goal_must)
            (λ t l. start_is t l ∙ ap (λ g. cond g one_word 0) (same_goal known t)) k s inside)

        pub exact_narrow : (j : Jumps) → StandFor plan.frame.rows j → 0 < j.total
            → let words = plan_settle plan s (mixed_words plan.layers (Poisson weights bits) low_words high_words) in
            words.upper ≤ words.lower + greatest_width plan.layers bits
        exact_narrow j stand some =
            let there : s < j.states = subst (λ n. s < n) stand.same_states inside in
            let short : horizon load bits ≤ 16384 = subst (λ n. n ≤ 16384) fits.last_layer sound.few_layers in
            let law =
            settled_bracket_narrow rows j load bits sets.live_must sets.goal_must reach s stand (rows_stochastic rows j stand) some
            fits.positive poisson.few_bits short there in
            subst (λ w. (plan_settle plan s w).upper ≤ (plan_settle plan s w).lower + greatest_width plan.layers bits) (sym exact_mix)
            (subst (λ n. (plan_settle plan s (until_words rows load bits (known_exactly sets.live_must sets.goal_must) s)).upper
            ≤ (plan_settle plan s (until_words rows load bits (known_exactly sets.live_must sets.goal_must) s)).lower
            + greatest_width n bits) (sym fits.last_layer) law)

    -- of an unbounded until
    module _ (is : plan.mix ≡ Last) where
      last_start : (t : ℕ) → t < length plan.frame.rows → slice_index plan.start_upper t ≡ set_words reach t
      last_start t l = sound.start t l ∙ ap (λ m. set_words (starts_at_one m sets.goal_may reach) t) is

      last_mix : mixed_words plan.layers Last low_words high_words ≡ last_words rows plan.layers sets reach s
      last_mix =
          let upper : high_words plan.layers ≡ high_table rows sets.live_may sets.goal_may (set_words reach) plan.layers s =
          high_table-same rows sets.live_may sets.goal_may (slice_index plan.start_upper) (set_words reach) last_start plan.layers s
          inside in
          λ t. record { lower = low_words plan.layers; upper = upper t }

      last_contains : (j : Jumps) (live goal : ℕ → Bool) → StandFor plan.frame.rows j → 0 < j.total → LieBetween sets live goal
          → ContainsLimit (word_bracket (plan_settle plan s (mixed_words plan.layers Last low_words high_words))) plan.layers
          (jump_fraction j live goal s)
      last_contains j live goal stand some between =
          let there : s < j.states = subst (λ n. s < n) stand.same_states inside in
          let law =
          settled_last_contains rows j plan.layers sets live goal reach s stand (rows_stochastic rows j stand) some there between closed in
          subst (λ w. ContainsLimit (word_bracket (plan_settle plan s w)) plan.layers (jump_fraction j live goal s)) (sym last_mix) law

      -- where both sets are known exactly
      module _ (known : AreKnown plan.frame.sets) where
        surely_closed : ReachesBack rows sets.live_must sets.goal_must reach
        surely_closed = record {
          goal_in = λ t l h. closed.goal_in t l (sound.frame.sets.goal t h);
          back = λ t u l i g p h. closed.back t u l i (sound.frame.sets.live t g) p h;
        }

        exact_last : mixed_words plan.layers Last low_words high_words
            ≡ last_words rows plan.layers (known_exactly sets.live_must sets.goal_must) reach s
        exact_last =
            let upper = known_high known (set_words reach) last_start plan.layers s inside in
            ap (λ w. record { lower = low_words plan.layers; upper = w }) upper

        last_near : (j : Jumps) → StandFor plan.frame.rows j → 0 < j.total
            → IsNearLast plan.layers j sets.live_must sets.goal_must reach s
            (plan_settle plan s (mixed_words plan.layers Last low_words high_words))
        last_near j stand some =
            let there : s < j.states = subst (λ n. s < n) stand.same_states inside in
            let law =
            settled_last_near rows j plan.layers sets.live_must sets.goal_must reach s stand (rows_stochastic rows j stand) some there
            surely_closed in
            subst (λ w. IsNearLast plan.layers j sets.live_must sets.goal_must reach s (plan_settle plan s w)) (sym exact_last) law

    mixed_contains : (mix : Mix) → plan.mix ≡ mix → (j : Jumps) (live goal : ℕ → Bool) → StandFor plan.frame.rows j → 0 < j.total
        → LieBetween sets live goal
        → ContainsMixed plan.layers mix j live goal s (plan_settle plan s (mixed_words plan.layers mix low_words high_words))
    mixed_contains (Poisson weights bits) is j live goal stand some between = λ load fits.
        bounded_contains weights bits is load fits j live goal stand some between
    mixed_contains Last is j live goal stand some between = last_contains is j live goal stand some between

    pub tables_contain : ContainsUntil plan s (one_thread_words plan s)
    tables_contain j live goal stand some between = mixed_contains plan.mix refl j live goal stand some between

    pub tables_narrow : (weights : WeightLists) (bits : ℕ) → plan.mix ≡ Poisson weights bits → (load : Fraction) → FitsPlan load plan
        → AreKnown plan.frame.sets → (j : Jumps) → StandFor plan.frame.rows j → 0 < j.total
        → (one_thread_words plan s).upper ≤ (one_thread_words plan s).lower + greatest_width plan.layers bits
    tables_narrow weights bits is load fits known j stand some =
        subst (λ m. (plan_settle plan s (mixed_words plan.layers m low_words high_words)).upper
        ≤ (plan_settle plan s (mixed_words plan.layers m low_words high_words)).lower + greatest_width plan.layers bits) (sym is)
        (exact_narrow weights bits is load (subst (FitsMix load plan.layers) is fits) known j stand some)

    pub tables_near : plan.mix ≡ Last → AreKnown plan.frame.sets → (j : Jumps) → StandFor plan.frame.rows j → 0 < j.total
        → IsNearLast plan.layers j sets.live_must sets.goal_must reach s (one_thread_words plan s)
    tables_near is known j stand some =
        subst (λ m. IsNearLast plan.layers j sets.live_must sets.goal_must reach s
        (plan_settle plan s (mixed_words plan.layers m low_words high_words))) (sym is) (last_near is known j stand some)
