-- The chain for which a `.tra` file stands.
use Rattle.std.specs.Prelude.{◌≡◌, ℕ, ◌-◌, ◌<◌, ◌≤◌, nat_lt, List, length, map, filter}
use Rattle.decimal_text.specs.Scale.{scaled}
use Rattle.model_core.specs.Files.{TraLists}
use Rattle.model_core.specs.Transitions.{exit_sum}
use Rattle.model_core.specs.declared.limits.TheConstants.{AMOUNT_LIMIT}
use Rattle.model_core.specs.declared.rate.Rate.{Rate}
use Rattle.text_lines.specs.Entries.{AreEntries, scale_of}
use Rattle.text_lines.specs.WordLines.{WordLine, word_lines_of}
use Rattle.tra_reader.specs.Entries.{Transition, transition_lines}
use Rattle.tra_reader.specs.Head.{HasHead}

-- the transition with its states numbered from 0 and its rate in units of `10^-scale`
abbrev pub scaled_rate : ℕ → Transition → Rate
scaled_rate scale e = record { from = e.key.from - 1; to = e.key.to - 1; rate = scaled scale e.value }

-- the transitions at the scale, in their order
abbrev pub scaled_rates : ℕ → List Transition → List Rate
scaled_rates scale entries = map (scaled_rate scale) entries

-- the transitions of the chain: those whose rate isn't 0
abbrev pub chain_rates : ℕ → List Transition → List Rate
chain_rates scale entries = filter (λ r. nat_lt 0 r.rate) (scaled_rates scale entries)

-- out of no state do the rates add up to `2^63`
abbrev pub AreWithin : ℕ → List Transition → Type 0
AreWithin scale entries = (s : ℕ) → exit_sum (scaled_rates scale entries) s < AMOUNT_LIMIT

-- out of some state they do, or to more
abbrev pub HasTooLarge : ℕ → List Transition → Type 0
HasTooLarge scale entries = (s : ℕ) × (AMOUNT_LIMIT ≤ exit_sum (scaled_rates scale entries) s)

-- the lines stand for the chain: the two of the head, and as many lines of transitions as it says; the rates are taken at the greatest
-- number of decimals, and out of no state do they add up to `2^63`
pub record LinesSayTra (lines : List WordLine) (tra : TraLists) : Type 0 where
  pub count : ℕ
  pub body : List WordLine
  pub head : HasHead lines tra.n count body
  pub entries : List Transition
  pub are : AreEntries (transition_lines tra.n) body entries
  pub all : length body ≡ count
  pub scale : tra.scale ≡ scale_of entries
  pub rates : tra.rates ≡ chain_rates tra.scale entries
  pub exits : (s : ℕ) → exit_sum tra.rates s < AMOUNT_LIMIT

-- the text of a `.tra` file stands for the chain
abbrev pub TraSays : List ℕ → TraLists → Type 0
TraSays text tra = LinesSayTra (word_lines_of text) tra
