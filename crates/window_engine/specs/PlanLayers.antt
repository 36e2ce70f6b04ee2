-- The layers of a plan as an engine has them.
use Rattle.std.specs.Prelude.{◌≡◌, ℕ, ◌<◌, List, length, map}
use Rattle.std.specs.List.{range_with_len}
use Rattle.step_core.specs.PlanLists.{PlanLists}
use Rattle.step_core.specs.PlanTables.{plan_low, plan_high}
use Rattle.step_core.specs.WordPairs.{words_at}
use Rattle.step_core.specs.declared.words.Words.{Words}
use Rattle.mix_columns.specs.MixNumbers.{MixNumbers, StandsFor}
use Rattle.mix_columns.specs.SideBySide.{mixer_at}

-- the words are those of the plan's tables after k jumps
pub record IsPlanLayer (plan : PlanLists) (k : ℕ) (layer : List Words) : Type 0 where
  pub states : length layer ≡ length plan.frame.rows
  pub words : (s : ℕ) → s < length plan.frame.rows → words_at layer s ≡ record { low = plan_low plan k s; high = plan_high plan k s }

-- the state's lower words in the first n layers of the plan's tables
abbrev pub first_lows : PlanLists → ℕ → ℕ → List ℕ
first_lows plan n s = map (λ k. plan_low plan k s) (range_with_len 0 n)

-- the state's upper words in the first n layers of the plan's tables
abbrev pub first_highs : PlanLists → ℕ → ℕ → List ℕ
first_highs plan n s = map (λ k. plan_high plan k s) (range_with_len 0 n)

-- there is a mixer of each state, and it took the state's words in the first n layers
pub record TookLayers (plan : PlanLists) (n : ℕ) (mixers : List MixNumbers) : Type 0 where
  pub states : length mixers ≡ length plan.frame.rows
  pub took : (s : ℕ) → s < length plan.frame.rows → StandsFor plan (mixer_at mixers s) (first_lows plan n s) (first_highs plan n s)

-- the words are those after k jumps, fewer than the plan's layers, and the mixers took the layers before
pub record AreAtLayer (plan : PlanLists) (k : ℕ) (layer : List Words) (mixers : List MixNumbers) : Type 0 where
  pub before_last : k < plan.layers
  pub words : IsPlanLayer plan k layer
  pub took : TookLayers plan k mixers
