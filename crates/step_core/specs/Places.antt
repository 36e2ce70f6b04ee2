-- Where each word of a board stands, which way it goes, and which words a seal vouches for.
use Rattle.std.specs.Prelude.{◌≡◌, ℕ, ◌+◌, ◌-◌, ◌*◌, ◌/◌, ◌<◌, ◌≤◌, ◌⊎◌, Bool, ◌&&◌, nat_lt}
use Rattle.step_core.specs.declared.blocks.TheConstants.{BLOCK_STATES}

-- a board's last layer, and its number of states
pub record Sizes : Type 0 where
  pub layers : ℕ
  pub states : ℕ

-- the cells: a state in a layer
abbrev pub cells : Sizes → ℕ
cells z = (z.layers + 1) * z.states

-- the block in which a state is
abbrev pub block_of : ℕ → ℕ
block_of s = s / BLOCK_STATES

-- the blocks of a layer; the last one has what is left
abbrev pub blocks : Sizes → ℕ
blocks z = (z.states + (BLOCK_STATES - 1)) / BLOCK_STATES

-- word 0 is 0; then come the lower words layer by layer,
abbrev pub lower_place : Sizes → ℕ → ℕ → ℕ
lower_place z k s = 1 + (k * z.states + s)

-- the upper words layer by layer,
abbrev pub upper_place : Sizes → ℕ → ℕ → ℕ
upper_place z k s = 1 + (cells z + (k * z.states + s))

-- a seal for each layer and block,
abbrev pub seal_place : Sizes → ℕ → ℕ → ℕ
seal_place z k b = 1 + (2 * cells z + (k * blocks z + b))

-- the word from which tickets are drawn,
abbrev pub ticket_place : Sizes → ℕ
ticket_place z = 1 + (2 * cells z + (z.layers + 1) * blocks z)

-- and the word that tells whether to stop
abbrev pub stop_place : Sizes → ℕ
stop_place z = 1 + (2 * cells z + ((z.layers + 1) * blocks z + 1))

abbrev pub word_count : Sizes → ℕ
word_count z = 1 + (2 * cells z + ((z.layers + 1) * blocks z + 2))

-- an upper word falls; each other word rises
unfoldable pub falls : Sizes → ℕ → Bool
falls z i = nat_lt (cells z) i && nat_lt i (1 + 2 * cells z)

-- the word at i is the seal of the block in which the word at j stands
pub record IsSealOf (z : Sizes) (i j : ℕ) : Type 0 where
  pub layer : ℕ
  pub state : ℕ
  pub layer_in : layer ≤ z.layers
  pub state_in : state < z.states
  pub is_seal : i ≡ seal_place z layer (block_of state)
  pub is_word : (j ≡ lower_place z layer state) ⊎ (j ≡ upper_place z layer state)

-- the word at i is one of layer 0
pub data IsOfLayerZero (z : Sizes) (i : ℕ) : Type 0 where
  lower : (s : ℕ) → s < z.states → i ≡ lower_place z 0 s → IsOfLayerZero z i
  upper : (s : ℕ) → s < z.states → i ≡ upper_place z 0 s → IsOfLayerZero z i
  seal : (b : ℕ) → b < blocks z → i ≡ seal_place z 0 b → IsOfLayerZero z i
