-- The bracket of a bounded until of sets that are known exactly is narrow.
use Rattle.std.proofs.Common.{ℕ, ◌+◌, ◌≤◌, ◌<◌, Bool, arith}
use Rattle.ctmc_semantics.specs.Fraction.{Fraction}
use Rattle.ctmc_semantics.specs.Jumps.{Jumps, IsStochastic}
use Rattle.ctmc_semantics.specs.Rows.{Rows, IsRowsOf}
use Rattle.ctmc_semantics.specs.RoundedTables.{low_table, high_table, set_words}
use Rattle.ctmc_semantics.specs.Horizon.{horizon, greatest_width}
use Rattle.ctmc_semantics.specs.Sets.{known_exactly}
use Rattle.ctmc_semantics.specs.WordBracket.{settle, until_words}
use Rattle.ctmc_semantics.proofs.MixNarrow.{narrow_mix}
use Rattle.ctmc_semantics.proofs.BracketLemmas.{low_at_most_one, high_near_low}
use Rattle.ctmc_semantics.proofs.Settled.{settled_narrow}

module _ (r : Rows) (j : Jumps) (load : Fraction) (bits : ℕ) (live goal : ℕ → Bool) where
  pub bracket_narrow : (s : ℕ) → IsRowsOf r j → IsStochastic j → 0 < j.total → 0 < load.den → bits ≤ 48 → horizon load bits ≤ 16384
      → s < j.states
      → (until_words r load bits (known_exactly live goal) s).upper
      ≤ (until_words r load bits (known_exactly live goal) s).lower + greatest_width (horizon load bits) bits
  bracket_narrow s is stochastic some pos few short inside =
      narrow_mix load pos bits few short (λ k. low_table r live goal k s) (λ k. high_table r live goal (set_words goal) k s)
      (λ k l. low_at_most_one r j is stochastic s inside some live goal k)
      (λ k l. omega (arith, high_near_low r j is stochastic s inside some live goal k))

  pub settled_bracket_narrow : (reach : ℕ → Bool) (s : ℕ) → IsRowsOf r j → IsStochastic j → 0 < j.total → 0 < load.den → bits ≤ 48
      → horizon load bits ≤ 16384
      → s < j.states
      → (settle (goal s) (reach s) (until_words r load bits (known_exactly live goal) s)).upper
      ≤ (settle (goal s) (reach s) (until_words r load bits (known_exactly live goal) s)).lower + greatest_width (horizon load bits) bits
  settled_bracket_narrow reach s is stochastic some pos few short inside =
      settled_narrow (goal s) (reach s) (until_words r load bits (known_exactly live goal) s) (greatest_width (horizon load bits) bits)
      (bracket_narrow s is stochastic some pos few short inside)
