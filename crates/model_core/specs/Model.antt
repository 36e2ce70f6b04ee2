-- A model: a chain with labels and perhaps rewards, as plain lists.
use Rattle.std.specs.Prelude.{◌≡◌, ℕ, Bool, ◌==◌, ◌+◌, List, length, slice_index, Option, option_map, IsPermutation}
use Rattle.std.specs.Option.{ForSome}
use Rattle.std.specs.Int.{bit_at}
use Rattle.ctmc_semantics.specs.Chain.{Chain}
use Rattle.model_core.specs.declared.rate.Rate.{Rate}
use Rattle.model_core.specs.Transitions.{chain_of, rate_between, IsInOrder, AreRowStarts}
use Rattle.model_core.specs.Files.{TraLists, LabLists, RewLists, IsTra, IsLab}

pub record ModelLists : Type 0 where
  pub n : ℕ
  pub scale : ℕ
  pub rates : List Rate
  pub names : List (List ℕ)
  pub marks : List ℕ
  pub rewards : Option RewLists

-- the model's chain
abbrev pub model_chain : ModelLists → Chain
model_chain model = chain_of model.n model.rates

-- whether a state has a label
abbrev pub has_label : List ℕ → ℕ → ℕ → Bool
has_label marks label s = bit_at (slice_index marks s) label == 1

-- what each state earns for each unit of time, in whole numbers, and the number of decimals that they have
pub record Rewards : Type 0 where
  pub decimals : ℕ
  pub reward : ℕ → ℕ

abbrev pub listed_rewards : RewLists → Rewards
listed_rewards rew = record { decimals = rew.scale; reward = slice_index rew.rewards }

-- a chain with labels, as formulas see it: the number of decimals of its rates, the names of its labels, whether a state has a label, and
-- perhaps rewards
pub record LabelledChain : Type 0 where
  pub chain : Chain
  pub rate_decimals : ℕ
  pub names : List (List ℕ)
  pub has : ℕ → ℕ → Bool
  pub rewards : Option Rewards

-- the labelled chain that a model holds
abbrev pub labelled_chain : ModelLists → LabelledChain
labelled_chain model = record {
  chain = model_chain model;
  rate_decimals = model.scale;
  names = model.names;
  has = has_label model.marks;
  rewards = option_map listed_rewards model.rewards;
}

-- the labelled chain for which the files stand
abbrev pub files_chain : TraLists → LabLists → Option RewLists → LabelledChain
files_chain tra lab rew = record {
  chain = chain_of tra.n tra.rates;
  rate_decimals = tra.scale;
  names = lab.names;
  has = has_label lab.marks;
  rewards = option_map listed_rewards rew;
}

-- what holds of the files, one mark and perhaps one reward for each state, and the transitions in order
pub record IsModel (model : ModelLists) : Type 0 where
  pub tra : IsTra (record { n = model.n; scale = model.scale; rates = model.rates })
  pub lab : IsLab (record { names = model.names; marks = model.marks })
  pub each_mark : length model.marks ≡ model.n
  pub each_reward : ForSome model.rewards (λ rew. length rew.rewards ≡ model.n)
  pub order : IsInOrder model.rates

-- a table with one start for each state, and one past the last
pub record HasRowStarts (model : ModelLists) (starts : List ℕ) : Type 0 where
  pub lists : IsModel model
  pub long : length starts ≡ model.n + 1
  pub begins : AreRowStarts model.rates starts

-- what a model is built of
pub record IsBuiltOf (model : ModelLists) (tra : TraLists) (lab : LabLists) (rew : Option RewLists) : Type 0 where
  pub n : model.n ≡ tra.n
  pub scale : model.scale ≡ tra.scale
  pub rates : IsPermutation tra.rates model.rates
  pub order : IsInOrder model.rates
  pub names : model.names ≡ lab.names
  pub marks : model.marks ≡ lab.marks
  pub rewards : model.rewards ≡ rew
  pub same_chain : (s t : ℕ) → rate_between model.rates s t ≡ rate_between tra.rates s t
