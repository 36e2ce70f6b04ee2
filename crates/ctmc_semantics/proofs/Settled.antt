-- A settled bracket contains what the mix does.
use Rattle.std.proofs.Common.{◌≡◌, ℕ, zero, suc, ◌+◌, ◌-◌, ◌*◌, ◌^◌, ◌≤◌, ◌<◌, Bool, true, false, cond, IsTrue, refl, sym, ap, ◌∙◌, arith}
use Rattle.std.proofs.lemmas.Bool.{false≢true}
use Rattle.std.proofs.Math.Nat.{pow-zero}
use Rattle.ctmc_semantics.specs.Sum.{sum_below}
use Rattle.ctmc_semantics.specs.Fraction.{Fraction}
use Rattle.ctmc_semantics.specs.Jumps.{Jumps, IsStochastic}
use Rattle.ctmc_semantics.specs.JumpValue.{jump_value, jump_fraction}
use Rattle.ctmc_semantics.specs.Poisson.{poisson_weight, poisson_average, until_average}
use Rattle.ctmc_semantics.specs.Bracket.{ContainsFrom, ContainsLimit}
use Rattle.ctmc_semantics.specs.Rows.{Rows, IsRowsOf}
use Rattle.ctmc_semantics.specs.Reach.{ReachesBack}
use Rattle.ctmc_semantics.specs.RoundedTables.{one_word}
use Rattle.ctmc_semantics.specs.Horizon.{horizon}
use Rattle.ctmc_semantics.specs.WordBracket.{WordBracket, word_bracket, settle, until_words, last_words}
use Rattle.ctmc_semantics.specs.Sets.{KnownSets, LieBetween}
use Rattle.ctmc_semantics.proofs.Sums.{sum_below-same, sum_below-mul}
use Rattle.ctmc_semantics.proofs.Powers.{power_split}
use Rattle.ctmc_semantics.proofs.SameRows.{values_grow}
use Rattle.ctmc_semantics.proofs.ReachLemmas.{unreached, last_words_contain}
use Rattle.ctmc_semantics.proofs.BracketLemmas.{mix_contains}

settled_cases : (is_goal can_reach : Bool) (w : WordBracket) (last : ℕ) (x : ℕ → Fraction)
    → (IsTrue is_goal → (n : ℕ) → (x n).num ≡ (x n).den) → ((IsTrue can_reach → ⊥) → (n : ℕ) → (x n).num ≡ 0)
    → ContainsFrom (word_bracket w) last x → ContainsFrom (word_bracket (settle is_goal can_reach w)) last x
settled_cases true can_reach w last x whole none h n l =
    let e : (x n).num ≡ (x n).den = whole refl n in
    record { from_low = omega (arith, ap (λ z. one_word * z) e); to_high = omega (arith, ap (λ z. one_word * z) e) }
settled_cases false true w last x whole none h n l = h n l
settled_cases false false w last x whole none h n l =
    let e : (x n).num ≡ 0 = none false≢true n in
    record { from_low = omega arith; to_high = omega (arith, e) }

settled_limit_cases : (is_goal can_reach : Bool) (w : WordBracket) (last : ℕ) (x : ℕ → Fraction)
    → (IsTrue is_goal → (n : ℕ) → (x n).num ≡ (x n).den) → ((IsTrue can_reach → ⊥) → (n : ℕ) → (x n).num ≡ 0)
    → ContainsLimit (word_bracket w) last x → ContainsLimit (word_bracket (settle is_goal can_reach w)) last x
settled_limit_cases true can_reach w last x whole none h = record {
  reached = omega (arith, ap (λ z. one_word * z) (whole refl last));
  not_passed = λ n. omega (arith, ap (λ z. one_word * z) (whole refl n));
}
settled_limit_cases false true w last x whole none h = h
settled_limit_cases false false w last x whole none h = record {
  reached = omega arith;
  not_passed = λ n. omega (arith, none false≢true n);
}

pub settled_narrow : (is_goal can_reach : Bool) (w : WordBracket) (width : ℕ) → w.upper ≤ w.lower + width
    → (settle is_goal can_reach w).upper ≤ (settle is_goal can_reach w).lower + width
settled_narrow true can_reach w width h = omega arith
settled_narrow false true w width h = h
settled_narrow false false w width h = omega arith

-- values that are all 1, and values that are all 0
term_whole : (w v p q q' : ℕ) → p ≡ q * q' → v ≡ q → w * v * q' ≡ p * w
term_whole w v p q q' e h = rw (e, h) (omega arith)

whole_average : (load : Fraction) (total : ℕ) (value : ℕ → ℕ) → ((k : ℕ) → value k ≡ total ^ k) → (n : ℕ)
    → (poisson_average load total value n).num ≡ (poisson_average load total value n).den
whole_average load total value h n =
    sum_below-same (suc n) _ (λ k. total ^ n * poisson_weight load.num load.den n k)
    (λ k l. term_whole (poisson_weight load.num load.den n k) (value k) (total ^ n) (total ^ k) (total ^ (n - k))
    (power_split total k n (omega arith)) (h k))
    ∙ sum_below-mul (suc n) (total ^ n) (poisson_weight load.num load.den n)

term_none : (w v q' : ℕ) → v ≡ 0 → w * v * q' ≡ 0 * w
term_none w v q' h = rw h (omega arith)

no_average : (load : Fraction) (total : ℕ) (value : ℕ → ℕ) → ((k : ℕ) → value k ≡ 0) → (n : ℕ)
    → (poisson_average load total value n).num ≡ 0
no_average load total value h n =
    let none : (poisson_average load total value n).num ≡ 0 * sum_below (suc n) (poisson_weight load.num load.den n) =
    sum_below-same (suc n) _ (λ k. 0 * poisson_weight load.num load.den n k)
    (λ k l. term_none (poisson_weight load.num load.den n k) (value k) (total ^ (n - k)) (h k))
    ∙ sum_below-mul (suc n) 0 (poisson_weight load.num load.den n) in
    omega (arith, none)

goal_case : (g : Bool) (p x : ℕ) → IsTrue g → cond g p x ≡ p
goal_case true p x h = refl
goal_case false p x h = absurd (false≢true h)

goal_value : (j : Jumps) (live goal : ℕ → Bool) (s : ℕ) → IsTrue (goal s) → (k : ℕ) → jump_value j live goal k s ≡ j.total ^ k
goal_value j live goal s h zero = goal_case (goal s) 1 0 h ∙ sym (pow-zero j.total)
goal_value j live goal s h (suc k) = goal_case (goal s) (j.total ^ suc k) _ h

pub settled_contains : (r : Rows) (j : Jumps) (load : Fraction) (bits : ℕ) (sets : KnownSets) (live goal reach : ℕ → Bool) (s : ℕ)
    → IsRowsOf r j → IsStochastic j → 0 < j.total → 0 < load.den → bits ≤ 62 → s < j.states
    → LieBetween sets live goal → ReachesBack r sets.live_may sets.goal_may reach
    → ContainsFrom (word_bracket (settle (sets.goal_must s) (reach s) (until_words r load bits sets s)))
    (horizon load bits) (until_average j load live goal s)
settled_contains r j load bits sets live goal reach s is stochastic some pos b inside between closed =
    settled_cases (sets.goal_must s) (reach s) (until_words r load bits sets s) (horizon load bits) (until_average j load live goal s)
    (λ g. whole_average load j.total (λ k. jump_value j live goal k s) (goal_value j live goal s (between.goal_has s g)))
    (λ outside. no_average load j.total (λ k. jump_value j live goal k s)
    (λ k. omega (
      arith,
      unreached r j is stochastic some sets.live_may sets.goal_may reach closed k s inside outside,
      values_grow j stochastic live sets.live_may goal sets.goal_may between.live_fits between.goal_fits k s inside,
    )))
    (mix_contains r j load bits sets live goal s is stochastic some pos b inside between)

pub settled_last_contains : (r : Rows) (j : Jumps) (last : ℕ) (sets : KnownSets) (live goal reach : ℕ → Bool) (s : ℕ)
    → IsRowsOf r j → IsStochastic j → 0 < j.total → s < j.states
    → LieBetween sets live goal → ReachesBack r sets.live_may sets.goal_may reach
    → ContainsLimit (word_bracket (settle (sets.goal_must s) (reach s) (last_words r last sets reach s))) last
    (jump_fraction j live goal s)
settled_last_contains r j last sets live goal reach s is stochastic some inside between closed =
    settled_limit_cases (sets.goal_must s) (reach s) (last_words r last sets reach s) last (jump_fraction j live goal s)
    (λ g. goal_value j live goal s (between.goal_has s g))
    (λ outside k. omega (
      arith,
      unreached r j is stochastic some sets.live_may sets.goal_may reach closed k s inside outside,
      values_grow j stochastic live sets.live_may goal sets.goal_may between.live_fits between.goal_fits k s inside,
    ))
    (last_words_contain r j last sets live goal reach s is stochastic some inside between closed)
