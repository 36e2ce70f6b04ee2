-- Brackets of words.
use Rattle.std.specs.Prelude.{ℕ, Bool, if◌then◌else◌}
use Rattle.ctmc_semantics.specs.Fraction.{Fraction, fraction}
use Rattle.ctmc_semantics.specs.Bracket.{Bracket}
use Rattle.ctmc_semantics.specs.Rows.{Rows}
use Rattle.ctmc_semantics.specs.RoundedTables.{one_word, set_words, low_table, high_table}
use Rattle.ctmc_semantics.specs.Weights.{low_weight, high_weight}
use Rattle.ctmc_semantics.specs.Horizon.{horizon}
use Rattle.ctmc_semantics.specs.Mix.{mix_low, mix_high}
use Rattle.ctmc_semantics.specs.Sets.{KnownSets}

-- two words, of fractions of `2^62`
pub record WordBracket : Type 0 where
  pub lower : ℕ
  pub upper : ℕ

-- the bracket of fractions for which the words stand
abbrev pub word_bracket : WordBracket → Bracket
word_bracket w = record { low = fraction w.lower one_word; high = fraction w.upper one_word }

-- 1 for a state that surely is the goal, 0 for one that can't reach it, and the mix for the others
abbrev pub settle : Bool → Bool → WordBracket → WordBracket
settle is_goal can_reach mixed =
    if is_goal then record { lower = one_word; upper = one_word }
    else (if can_reach then mixed else record { lower = 0; upper = 0 })

-- the mix of a state's columns for a bounded until: of its lower words over the must sets, and its upper words over the may sets
abbrev pub until_words : Rows → Fraction → ℕ → KnownSets → ℕ → WordBracket
until_words r load bits sets s =
    let last = horizon load bits in
    record {
      lower = mix_low last (low_weight load) (high_weight load) (λ k. low_table r sets.live_must sets.goal_must k s);
      upper =
          mix_high last bits (low_weight load) (high_weight load)
          (λ k. high_table r sets.live_may sets.goal_may (set_words sets.goal_may) k s);
    }

-- the last words of a state's columns, for an unbounded until: the upper ones start from the states that can reach the goal
abbrev pub last_words : Rows → ℕ → KnownSets → (ℕ → Bool) → ℕ → WordBracket
last_words r last sets reach s =
    record {
      lower = low_table r sets.live_must sets.goal_must last s;
      upper = high_table r sets.live_may sets.goal_may (set_words reach) last s;
    }
