-- The bracket of a state contains its until.
use Rattle.std.proofs.Common.{ℕ, ◌+◌, ◌*◌, ◌^◌, ◌≤◌, ◌<◌, Bool, sym, subst, arith}
use Rattle.std.proofs.Math.Nat.{mul-le-mul_left, le_of_mul-le-mul_right, one-le-pow}
use Rattle.ctmc_semantics.specs.Jumps.{Jumps, IsStochastic}
use Rattle.ctmc_semantics.specs.JumpValue.{jump_value}
use Rattle.ctmc_semantics.specs.Sets.{KnownSets, IsSubset, LieBetween}
use Rattle.ctmc_semantics.specs.Fraction.{Fraction}
use Rattle.ctmc_semantics.specs.Poisson.{until_average}
use Rattle.ctmc_semantics.specs.Bracket.{ContainsFrom}
use Rattle.ctmc_semantics.specs.Horizon.{horizon}
use Rattle.ctmc_semantics.specs.WordBracket.{word_bracket, until_words}
use Rattle.ctmc_semantics.proofs.MixBounds.{low_end, high_end}
use Rattle.ctmc_semantics.specs.RoundedTables.{one_word, low_table, high_table, set_words}
use Rattle.ctmc_semantics.specs.Rows.{Rows, IsRowsOf}
use Rattle.ctmc_semantics.proofs.LowTables.{low_below, low_above}
use Rattle.ctmc_semantics.proofs.HighTables.{high_over, high_under, goal_starts}
use Rattle.ctmc_semantics.proofs.JumpsRise.{jump_value_rises, jump_value_capped}
use Rattle.ctmc_semantics.proofs.SameRows.{values_grow}

module _ (r : Rows) (j : Jumps) (is : IsRowsOf r j) (stochastic : IsStochastic j) (s : ℕ) (inside : s < j.states) where
  row_inside : s < r.states
  row_inside = subst (λ (n : ℕ). s < n) (sym is.same_states) inside

  pub low_value : (live_must live goal_must goal : ℕ → Bool) → IsSubset live_must live → IsSubset goal_must goal
      → (k : ℕ) → low_table r live_must goal_must k s * j.total ^ k ≤ one_word * jump_value j live goal k s
  low_value live_must live goal_must goal u v k =
      omega (
        arith,
        low_below r j is live_must goal_must k s row_inside,
        mul-le-mul_left one_word (values_grow j stochastic live_must live goal_must goal u v k s inside),
      )

  pub high_value : (live live_may goal goal_may : ℕ → Bool) → IsSubset live live_may → IsSubset goal goal_may
      → (k : ℕ) → one_word * jump_value j live goal k s ≤ high_table r live_may goal_may (set_words goal_may) k s * j.total ^ k
  high_value live live_may goal goal_may u v k =
      omega (
        arith,
        high_over r j is live_may goal_may (set_words goal_may) k s row_inside,
        goal_starts j live_may goal_may k s,
        mul-le-mul_left one_word (values_grow j stochastic live live_may goal goal_may u v k s inside),
      )

  module _ (some : 0 < j.total) (live goal : ℕ → Bool) (k : ℕ) where
    pub low_at_most_one : low_table r live goal k s ≤ one_word
    low_at_most_one =
        le_of_mul-le-mul_right {k = j.total ^ k}
        (omega (
          arith,
          low_below r j is live goal k s row_inside,
          mul-le-mul_left one_word (jump_value_capped j stochastic live goal k s inside),
        ))
        (one-le-pow k j.total some)

    pub high_near_low : high_table r live goal (set_words goal) k s ≤ low_table r live goal k s + 2 * k
    high_near_low =
        le_of_mul-le-mul_right {k = j.total ^ k}
        (omega (
          arith,
          high_under r j is live goal (set_words goal) k s row_inside,
          goal_starts j live goal k s,
          low_above r j is live goal k s row_inside,
        ))
        (one-le-pow k j.total some)

pub mix_contains : (r : Rows) (j : Jumps) (load : Fraction) (bits : ℕ) (sets : KnownSets) (live goal : ℕ → Bool) (s : ℕ)
    → IsRowsOf r j → IsStochastic j → 0 < j.total → 0 < load.den → bits ≤ 62 → s < j.states → LieBetween sets live goal
    → ContainsFrom (word_bracket (until_words r load bits sets s)) (horizon load bits) (until_average j load live goal s)
mix_contains r j load bits sets live goal s is stochastic some pos b inside between n past = record {
  from_low =
      low_end load pos bits j.total (λ k. jump_value j live goal k s) some n (λ k. low_table r sets.live_must sets.goal_must k s) past
      (λ k. jump_value_rises j live goal k s)
      (λ k i. low_value r j is stochastic s inside sets.live_must live sets.goal_must goal between.live_has between.goal_has k);
  to_high =
      high_end load pos bits j.total (λ k. jump_value j live goal k s) some n
      (λ k. high_table r sets.live_may sets.goal_may (set_words sets.goal_may) k s) past b
      (λ k. jump_value_capped j stochastic live goal k s inside)
      (λ k i. high_value r j is stochastic s inside live sets.live_may goal sets.goal_may between.live_fits between.goal_fits k);
}
