-- What the three files of a model hold, as plain lists.
use Rattle.std.specs.Prelude.{ℕ, ◌^◌, ◌<◌, ◌≤◌, List, length, All, AllPairs, ◌≢◌}
use Rattle.model_core.specs.declared.limits.TheConstants.{MOST_STATES, MOST_LABELS, AMOUNT_LIMIT}
use Rattle.model_core.specs.declared.rate.Rate.{Rate}
use Rattle.model_core.specs.Transitions.{exit_sum, IsEachPairOnce}

-- a chain: n states, the number of decimals that the rates have, and the transitions
pub record TraLists : Type 0 where
  pub n : ℕ
  pub scale : ℕ
  pub rates : List Rate

-- labels: their names, and for each state a word whose bit j says that it has label j
pub record LabLists : Type 0 where
  pub names : List (List ℕ)
  pub marks : List ℕ

-- rewards: the number of decimals that they have, and one for each state
pub record RewLists : Type 0 where
  pub scale : ℕ
  pub rewards : List ℕ

-- a transition between states below n, at a positive rate
pub record IsTransition (n : ℕ) (r : Rate) : Type 0 where
  pub from_within : r.from < n
  pub to_within : r.to < n
  pub positive : 1 ≤ r.rate

-- at most 65,536 states, rates of at most 18 decimals, one transition at most for each pair of states, and exit rates
-- below 2^63
pub record IsTra (tra : TraLists) : Type 0 where
  pub some_state : 1 ≤ tra.n
  pub few_states : tra.n ≤ MOST_STATES
  pub decimals : tra.scale ≤ 18
  pub transitions : All (IsTransition tra.n) tra.rates
  pub once : IsEachPairOnce tra.rates
  pub exits : (s : ℕ) → exit_sum tra.rates s < AMOUNT_LIMIT

-- at most 64 names, all different, and no mark of a label that has no name
pub record IsLab (lab : LabLists) : Type 0 where
  pub few_names : length lab.names ≤ MOST_LABELS
  pub distinct : AllPairs ◌≢◌ lab.names
  pub declared : All (λ marks. marks < 2 ^ length lab.names) lab.marks

-- rewards of at most 18 decimals, each below 2^63
pub record IsRew (rew : RewLists) : Type 0 where
  pub decimals : rew.scale ≤ 18
  pub within : All (λ reward. reward < AMOUNT_LIMIT) rew.rewards
