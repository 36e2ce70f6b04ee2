-- What it is for a bracket to contain the until of a plan.
use Rattle.std.specs.Prelude.{◌≡◌, ℕ, ◌+◌, ◌*◌, ◌^◌, ◌<◌, ◌≤◌, Bool, length}
use Rattle.ctmc_semantics.specs.Bracket.{ContainsFrom, ContainsLimit}
use Rattle.ctmc_semantics.specs.Fraction.{Fraction}
use Rattle.ctmc_semantics.specs.Horizon.{greatest_width}
use Rattle.ctmc_semantics.specs.Jumps.{Jumps}
use Rattle.ctmc_semantics.specs.JumpValue.{jump_value, jump_fraction}
use Rattle.ctmc_semantics.specs.Poisson.{until_average}
use Rattle.ctmc_semantics.specs.RoundedTables.{one_word, set_words, exact_word}
use Rattle.ctmc_semantics.specs.Sets.{KnownSets, LieBetween, IsSubset, holds_at}
use Rattle.ctmc_semantics.specs.WordBracket.{WordBracket, word_bracket}
use Rattle.mix_columns.specs.Mixed.{one_thread_words}
use Rattle.mix_columns.specs.MixLaws.{EnclosesWords}
use Rattle.step_core.specs.FrameLists.{SetLists}
use Rattle.step_core.specs.FrameRows.{StandFor}
use Rattle.step_core.specs.PlanLists.{PlanLists}
use Rattle.step_core.specs.PlanLoad.{FitsPoisson, FitsPlan}
use Rattle.step_core.specs.SoundPlan.{IsSoundPlan}
use Rattle.step_core.specs.WeightLists.{WeightLists}
use Rattle.step_core.specs.declared.mix.Mix.{Mix}
use Rattle.step_core.specs.declared.mix.Mix.TheVariants.{Poisson, Last}

-- what lists of truth values say of an until's live states and of its goal
abbrev pub known_sets : SetLists → KnownSets
known_sets sets = record {
  live_must = holds_at sets.live_must;
  live_may = holds_at sets.live_may;
  goal_must = holds_at sets.goal_must;
  goal_may = holds_at sets.goal_may;
}

-- the bracket contains the until of a chain at the state: a bounded one for each load that fits the mix, and an unbounded one by the
-- probabilities of reaching the goal within any number of jumps
abbrev pub ContainsMixed : ℕ → Mix → Jumps → (ℕ → Bool) → (ℕ → Bool) → ℕ → WordBracket → Type 0
ContainsMixed last (Poisson weights bits) j live goal s words =
    (load : Fraction) → FitsPoisson load last weights bits → ContainsFrom (word_bracket words) last (until_average j load live goal s)
ContainsMixed last Last j live goal s words = ContainsLimit (word_bracket words) last (jump_fraction j live goal s)

-- the bracket contains the until of the plan at the state: for every chain for whose jumps the plan's rows stand, and for all live states
-- and goals between what surely is and what may be
abbrev pub ContainsUntil : PlanLists → ℕ → WordBracket → Type 0
ContainsUntil plan s words =
    (j : Jumps) (live goal : ℕ → Bool) → StandFor plan.frame.rows j → 0 < j.total → LieBetween (known_sets plan.frame.sets) live goal
    → ContainsMixed plan.layers plan.mix j live goal s words

-- a state's bracket as one thread computes it contains the plan's until
abbrev pub OneThreadContains : Type 0
OneThreadContains =
    (plan : PlanLists) (s : ℕ) → IsSoundPlan plan → s < length plan.frame.rows → ContainsUntil plan s (one_thread_words plan s)

-- and so does each bracket that encloses one that does
abbrev pub EnclosingContainsUntil : Type 0
EnclosingContainsUntil =
    (plan : PlanLists) (s : ℕ) (outer inner : WordBracket) → EnclosesWords outer inner → ContainsUntil plan s inner
    → ContainsUntil plan s outer

-- both sets of a plan are known exactly
pub record AreKnown (sets : SetLists) : Type 0 where
  pub live : IsSubset (holds_at sets.live_may) (holds_at sets.live_must)
  pub goal : IsSubset (holds_at sets.goal_may) (holds_at sets.goal_must)

-- where both sets are known exactly, a bounded until's bracket as one thread computes it is narrow
abbrev pub OneThreadIsNarrow : Type 0
OneThreadIsNarrow =
    (plan : PlanLists) (load : Fraction) (weights : WeightLists) (bits s : ℕ) (j : Jumps) → IsSoundPlan plan → plan.mix ≡ Poisson weights bits
    → FitsPlan load plan → AreKnown plan.frame.sets → StandFor plan.frame.rows j → 0 < j.total → s < length plan.frame.rows
    → (one_thread_words plan s).upper ≤ (one_thread_words plan s).lower + greatest_width plan.layers bits

-- the words of an unbounded until are near the exact ones: the lower word is below that of reaching the goal within `last` jumps by at most
-- `last`, and the upper word is above that of being, after `last` jumps, at the goal or in a state from which it can still be reached, by at
-- most `last`
pub record IsNearLast (last : ℕ) (j : Jumps) (live goal reach : ℕ → Bool) (s : ℕ) (words : WordBracket) : Type 0 where
  pub lower : one_word * jump_value j live goal last s ≤ (words.lower + last) * j.total ^ last
  pub upper : words.upper * j.total ^ last ≤ exact_word j live goal (set_words reach) last s + last * j.total ^ last

-- where both sets are known exactly, the bracket of an unbounded until as one thread computes it is near the exact words
abbrev pub OneThreadIsNear : Type 0
OneThreadIsNear =
    (plan : PlanLists) (s : ℕ) (j : Jumps) → IsSoundPlan plan → plan.mix ≡ Last → AreKnown plan.frame.sets → StandFor plan.frame.rows j
    → 0 < j.total → s < length plan.frame.rows
    → IsNearLast plan.layers j (holds_at plan.frame.sets.live_must) (holds_at plan.frame.sets.goal_must) (holds_at plan.reach) s
    (one_thread_words plan s)
