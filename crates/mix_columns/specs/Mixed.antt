-- The bracket of a state in words, by its columns and its plan's mix.
use Rattle.std.specs.Prelude.{ℕ, List, slice_index, slice_index_or}
use Rattle.ctmc_semantics.specs.Mix.{mix_low, mix_high}
use Rattle.ctmc_semantics.specs.RoundedTables.{one_word}
use Rattle.ctmc_semantics.specs.Sets.{holds_at}
use Rattle.ctmc_semantics.specs.WordBracket.{WordBracket, settle}
use Rattle.step_core.specs.PlanLists.{PlanLists}
use Rattle.step_core.specs.PlanTables.{plan_low, plan_high}
use Rattle.step_core.specs.declared.bracket.Bracket.{Bracket}
use Rattle.step_core.specs.declared.mix.Mix.{Mix}
use Rattle.step_core.specs.declared.mix.Mix.TheVariants.{Poisson, Last}

-- the mix of a state's lower words x and upper words y of the layers 0 to `last`: of a bounded until the averages by the weights, of an
-- unbounded one the words of the last layer
abbrev pub mixed_words : ℕ → Mix → (ℕ → ℕ) → (ℕ → ℕ) → WordBracket
mixed_words last (Poisson weights bits) x y = record {
  lower = mix_low last (slice_index weights.low) (slice_index weights.high) x;
  upper = mix_high last bits (slice_index weights.low) (slice_index weights.high) y;
}
mixed_words last Last x y = record { lower = x last; upper = y last }

-- the mix of a state's words, by the plan
abbrev pub plan_mix : PlanLists → (ℕ → ℕ) → (ℕ → ℕ) → WordBracket
plan_mix plan = mixed_words plan.layers plan.mix

-- the mix of two whole columns
abbrev pub whole_mix : PlanLists → List ℕ → List ℕ → WordBracket
whole_mix plan xs ys = plan_mix plan (slice_index xs) (slice_index ys)

-- the mix of the first words of two columns: each lower word that is missing counts as 0, and each upper one as 1
abbrev pub rest_mix : PlanLists → List ℕ → List ℕ → WordBracket
rest_mix plan xs ys = plan_mix plan (λ k. slice_index_or xs k 0) (λ k. slice_index_or ys k one_word)

-- the state's settled bracket: 1 where it surely is the goal, 0 where it can't reach the goal, and else its mix
abbrev pub plan_settle : PlanLists → ℕ → WordBracket → WordBracket
plan_settle plan s mixed = settle (holds_at plan.frame.sets.goal_must s) (holds_at plan.reach s) mixed

-- a state's bracket as one thread computes it: the settled mix of its words in the plan's tables
abbrev pub one_thread_words : PlanLists → ℕ → WordBracket
one_thread_words plan s = plan_settle plan s (plan_mix plan (λ k. plan_low plan k s) (λ k. plan_high plan k s))

-- the words that a bracket has
abbrev pub words_of : Bracket → WordBracket
words_of b = record { lower = b.lower; upper = b.upper }
