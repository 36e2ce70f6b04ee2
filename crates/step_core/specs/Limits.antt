-- How far the words of a plan's board may go, and how they start.
use Rattle.std.specs.Prelude.{ℕ, ◌+◌, ◌*◌, ◌/◌, ◌%◌, List, [], ◌∷◌, ◌++◌, map, length, replicate, if◌then◌else◌}
use Rattle.std.specs.List.{range_with_len}
use Rattle.ctmc_semantics.specs.RoundedTables.{one_word}
use Rattle.step_core.specs.Places.{Sizes, cells, blocks}
use Rattle.step_core.specs.PlanLists.{PlanLists}
use Rattle.step_core.specs.PlanTables.{plan_low, plan_high}
use Rattle.step_core.specs.declared.draws.TheConstants.{MOST_DRAWS}

abbrev pub sizes_of : PlanLists → Sizes
sizes_of plan = record { layers = plan.layers; states = length plan.frame.rows }

-- the words of a table, layer by layer
unfoldable pub table_words : Sizes → (ℕ → ℕ → ℕ) → List ℕ
table_words z word = map (λ i. word (i / z.states) (i % z.states)) (range_with_len 0 (cells z))

-- the limits of the words behind the tables: 1 for each seal, the number of draws for the tickets' word, and 1 for the stop word
abbrev pub seal_limits : PlanLists → List ℕ
seal_limits plan = replicate ((plan.layers + 1) * blocks (sizes_of plan)) 1

abbrev pub last_limits : List ℕ
last_limits = MOST_DRAWS ∷ 1 ∷ []

-- the limit of each word: 0 for word 0, the lower table, the upper table, and these
abbrev pub limits_of : PlanLists → List ℕ
limits_of plan =
    0 ∷ (table_words (sizes_of plan) (plan_low plan) ++ table_words (sizes_of plan) (plan_high plan)
    ++ (seal_limits plan ++ last_limits))

-- 1 for each state that surely is of the goal, and 0 for each other
abbrev pub goal_words : PlanLists → List ℕ
goal_words plan = map (λ holds. if holds then one_word else 0) plan.frame.sets.goal_must

-- the words at the start: layer 0 is at its limits and sealed; the other lower words are 0, the other upper words 1, and the other seals 0;
-- so are the tickets' word and the stop word
abbrev pub lower_start : PlanLists → List ℕ
lower_start plan = goal_words plan ++ replicate (plan.layers * length plan.frame.rows) 0

abbrev pub upper_start : PlanLists → List ℕ
upper_start plan = plan.start_upper ++ replicate (plan.layers * length plan.frame.rows) one_word

abbrev pub seal_start : PlanLists → List ℕ
seal_start plan = replicate (blocks (sizes_of plan)) 1 ++ replicate (plan.layers * blocks (sizes_of plan)) 0

abbrev pub opening_words : PlanLists → List ℕ
opening_words plan = 0 ∷ (lower_start plan ++ upper_start plan ++ (seal_start plan ++ replicate 2 0))
