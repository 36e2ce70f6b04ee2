-- The words of untils are near what their operands' verdicts allow.
use Rattle.std.proofs.Common.{◌≡◌, ℕ, zero, suc, ◌+◌, ◌-◌, ◌^◌, ◌≤◌, ◌<◌, Bool, true, false, IsTrue, cond, refl, arith}
use Rattle.std.proofs.Math.Nat.{mul-le-mul_right}
use Rattle.std.proofs.lemmas.Bool.{false≢true}
use Rattle.ctmc_semantics.specs.Bracket.{ContainsFrom}
use Rattle.ctmc_semantics.specs.Chain.{Chain}
use Rattle.ctmc_semantics.specs.Fraction.{Fraction}
use Rattle.ctmc_semantics.specs.Horizon.{horizon, greatest_width}
use Rattle.ctmc_semantics.specs.Jumps.{Jumps}
use Rattle.ctmc_semantics.specs.Poisson.{until_average}
use Rattle.ctmc_semantics.specs.Reach.{ReachesBack}
use Rattle.ctmc_semantics.specs.RoundedTables.{one_word, set_words, high_table}
use Rattle.ctmc_semantics.specs.Rows.{Rows, rows_of}
use Rattle.ctmc_semantics.specs.Sets.{KnownSets, IsSubset, LieBetween, known_exactly}
use Rattle.ctmc_semantics.specs.Uniformised.{uniformised}
use Rattle.ctmc_semantics.specs.WordBracket.{WordBracket, word_bracket, settle, until_words, last_words}
use Rattle.ctmc_semantics.proofs.UniformLemmas.{uniformised_stochastic, weights_rows}
use Rattle.mix_columns.specs.PlanUntil.{IsNearLast}
use Rattle.mix_columns.proofs.PlanUntilLemmas.{settled_last_near}
use Rattle.poisson_tail.specs.declared.layers.TheConstants.{MOST_LAYERS}
use Rattle.step_core.specs.Walk.{Walk, arrives, goes}
use Rattle.step_core.specs.WalkFound.{can_reach}
use Rattle.step_core.proofs.Walks.{walk_of, found_of}
use Rattle.nested_verdict.specs.ExactState.{IsNearTime, IsNearReach}
use Rattle.nested_verdict.specs.UntilAnswer.{time_words, reach_words}
use Rattle.nested_verdict.proofs.ChainWalks.{reach_closed}
use Rattle.nested_verdict.proofs.Verdicts.{time_contains, time_narrow}

-- ---- settled words, over plain truth values
lower_settled : (is_goal sure may : Bool) (w v : WordBracket) → (IsTrue sure → IsTrue may) → w.lower ≡ v.lower
    → (settle is_goal sure w).lower ≤ (settle is_goal may v).lower
lower_settled true sure may w v grows same = omega arith
lower_settled false false may w v grows same = omega arith
lower_settled false true true w v grows same = omega (arith, same)
lower_settled false true false w v grows same = absurd (false≢true (grows refl))

upper_settled : (sure may reach : Bool) (w v : WordBracket) → (IsTrue sure → IsTrue may) → (IsTrue may → w.upper ≤ one_word)
    → w.upper ≡ v.upper → (settle sure reach w).upper ≤ (settle may reach v).upper
upper_settled true true reach w v grows capped same = omega arith
upper_settled true false reach w v grows capped same = absurd (false≢true (grows refl))
upper_settled false true true w v grows capped same = capped refl
upper_settled false true false w v grows capped same = omega arith
upper_settled false false true w v grows capped same = omega (arith, same)
upper_settled false false false w v grows capped same = omega arith

-- ---- a walk goes on where the sets grow
walk_grows : (n : ℕ) (weight : ℕ → ℕ → ℕ) (live live' goal goal' : ℕ → Bool) → IsSubset live live' → IsSubset goal goal' → (s : ℕ)
    → Walk n weight live goal s → Walk n weight live' goal' s
walk_grows n weight live live' goal goal' h k s (arrives g) = arrives (k s g)
walk_grows n weight live live' goal goal' h k s (goes {t = t} l i p w) = goes (h s l) i p (walk_grows n weight live live' goal goal' h k t w)

-- the upper word of a state that may be the goal is 1
chosen : (b : Bool) (x y : ℕ) → IsTrue b → cond b x y ≡ x
chosen true x y h = refl
chosen false x y h = absurd (false≢true h)

high_goal : (r : Rows) (live goal reach : ℕ → Bool) (s : ℕ) → IsTrue (goal s) → IsTrue (reach s) → (k : ℕ)
    → high_table r live goal (set_words reach) k s ≡ one_word
high_goal r live goal reach s g h zero = chosen (reach s) one_word 0 h
high_goal r live goal reach s g h (suc k) = chosen (goal s) one_word _ g

module _ (chain : Chain) (sets : KnownSets) (surely : LieBetween sets sets.live_must sets.goal_must) (s : ℕ)
    (inside : s < chain.states) where
  abbrev jumps : Jumps
  jumps = uniformised chain

  abbrev rows : Rows
  rows = rows_of jumps

  abbrev may_reach : ℕ → Bool
  may_reach = can_reach chain.states chain.rate sets.live_may sets.goal_may

  reach_grows : IsTrue (can_reach chain.states chain.rate sets.live_must sets.goal_must s) → IsTrue (may_reach s)
  reach_grows h =
      found_of chain.states chain.rate sets.live_may sets.goal_may s
      (walk_grows chain.states chain.rate sets.live_must sets.live_may sets.goal_must sets.goal_may surely.live_fits surely.goal_fits s
      (walk_of chain.states chain.rate sets.live_must sets.goal_must s h))

  -- ---- within a time
  module _ (load : Fraction) (bits : ℕ) (positive : 0 < load.den) (few : bits ≤ 48) (short : horizon load bits ≤ MOST_LAYERS) where
    abbrev last : ℕ
    last = horizon load bits

    abbrev width : ℕ
    width = greatest_width last bits

    abbrev words : WordBracket
    words = time_words chain load bits sets s

    abbrev known_words : (ℕ → Bool) → (ℕ → Bool) → WordBracket
    known_words live goal = time_words chain load bits (known_exactly live goal) s

    known_contains : (live goal : ℕ → Bool)
        → ContainsFrom (word_bracket (known_words live goal)) last (until_average jumps load live goal s)
    known_contains live goal =
        let all : LieBetween (known_exactly live goal) live goal =
        record { live_has = λ t h. h; live_fits = λ t h. h; goal_has = λ t h. h; goal_fits = λ t h. h } in
        time_contains chain (known_exactly live goal) all s inside load bits positive few live goal all

    lower_kept : (known_words sets.live_must sets.goal_must).lower ≤ words.lower
    lower_kept =
        lower_settled (sets.goal_must s) (can_reach chain.states chain.rate sets.live_must sets.goal_must s) (may_reach s)
        (until_words rows load bits (known_exactly sets.live_must sets.goal_must) s) (until_words rows load bits sets s) reach_grows refl

    upper_kept : words.upper ≤ (known_words sets.live_may sets.goal_may).upper
    upper_kept =
        upper_settled (sets.goal_must s) (sets.goal_may s) (may_reach s) (until_words rows load bits sets s)
        (until_words rows load bits (known_exactly sets.live_may sets.goal_may) s) (surely.goal_fits s) (λ h. omega arith) refl

    pub time_near : IsNearTime last bits (until_average jumps load sets.live_must sets.goal_must s)
        (until_average jumps load sets.live_may sets.goal_may s) words
    time_near = record {
      lower = λ n l.
          let x = until_average jumps load sets.live_must sets.goal_must s n in
          let narrow = time_narrow chain sets.live_must sets.goal_must s inside load bits positive few short in
          let below : (known_words sets.live_must sets.goal_must).upper ≤ words.lower + width = omega (arith, narrow, lower_kept) in
          omega (arith, (known_contains sets.live_must sets.goal_must n l).to_high, mul-le-mul_right x.den below);
      upper = λ n l.
          let x = until_average jumps load sets.live_may sets.goal_may s n in
          let narrow = time_narrow chain sets.live_may sets.goal_may s inside load bits positive few short in
          let above : words.upper - width ≤ (known_words sets.live_may sets.goal_may).lower = omega (arith, narrow, upper_kept) in
          omega (arith, (known_contains sets.live_may sets.goal_may n l).from_low, mul-le-mul_right x.den above);
    }

  -- ---- within any number of jumps
  module _ (last : ℕ) where
    abbrev last_of : WordBracket
    last_of = reach_words chain last sets s

    some_rate : 0 < jumps.total
    some_rate = omega arith

    closed : ReachesBack rows sets.live_may sets.goal_may may_reach
    closed = reach_closed chain sets.live_may sets.goal_may

    surely_closed : ReachesBack rows sets.live_must sets.goal_must may_reach
    surely_closed = record {
      goal_in = λ t l h. closed.goal_in t l (surely.goal_fits t h);
      back = λ t u l i g p h. closed.back t u l i (surely.live_fits t g) p h;
    }

    near_by : (live goal : ℕ → Bool) → ReachesBack rows live goal may_reach
        → IsNearLast last jumps live goal may_reach s
        (settle (goal s) (may_reach s) (last_words rows last (known_exactly live goal) may_reach s))
    near_by live goal back =
        settled_last_near rows jumps last live goal may_reach s (weights_rows jumps (uniformised_stochastic chain) some_rate)
        (uniformised_stochastic chain) some_rate inside back

    pub reach_near : IsNearReach last jumps sets may_reach s last_of
    reach_near =
        let sure = last_words rows last (known_exactly sets.live_must sets.goal_must) may_reach s in
        let possible = last_words rows last (known_exactly sets.live_may sets.goal_may) may_reach s in
        let mixed = last_words rows last sets may_reach s in
        let low = lower_settled (sets.goal_must s) (may_reach s) (may_reach s) sure mixed (λ h. h) refl in
        let high =
        upper_settled (sets.goal_must s) (sets.goal_may s) (may_reach s) mixed possible (surely.goal_fits s)
        (λ h.
        omega (arith, high_goal rows sets.live_may sets.goal_may may_reach s h (closed.goal_in s inside h) last)) refl in
        let at_least : (settle (sets.goal_must s) (may_reach s) sure).lower + last ≤ last_of.lower + last = omega (arith, low) in
        record {
          lower =
              omega (
                arith,
                (near_by sets.live_must sets.goal_must surely_closed).lower,
                mul-le-mul_right (jumps.total ^ last) at_least,
              );
          upper =
              omega (
                arith,
                (near_by sets.live_may sets.goal_may closed).upper,
                mul-le-mul_right (jumps.total ^ last) high,
              );
        }
