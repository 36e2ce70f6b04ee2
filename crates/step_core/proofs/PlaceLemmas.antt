-- Where the words of a board stand, and which way each goes.
use Rattle.std.proofs.Common.{◌≡◌, ℕ, suc, ◌+◌, ◌*◌, ◌/◌, ◌<◌, ◌≤◌, true, false, refl, sym, ap, ◌∙◌, inl, inr, arith}
use Rattle.std.proofs.Math.Nat.{mul-le-mul_right, suc-mul}
use Rattle.std.proofs.lemmas.Bool.{lt-ltb, le-ltb}
use Rattle.std.proofs.lemmas.Nat.{div-mul-add}
use Rattle.std.specs.Prelude.{Bool, ◌&&◌, nat_lt}
use Rattle.step_core.specs.Places.{Sizes, cells, blocks, lower_place, upper_place, seal_place, ticket_place, stop_place, word_count, falls, IsSealOf, block_of}

-- a place in rows of n
pub in_row : (most k n s : ℕ) → k ≤ most → s < n → k * n + s < (most + 1) * n
in_row most k n s le lt =
    let h : suc k ≤ most + 1 = omega arith in
    let m : suc k * n ≤ (most + 1) * n = mul-le-mul_right n h in
    omega (arith, suc-mul k n)

-- two places in rows of n are one in one row only
pub same_row : (n k s k' s' : ℕ) → s < n → s' < n → k * n + s ≡ k' * n + s' → k ≡ k'
same_row n k s k' s' h h' e = sym (div-mul-add k n s h) ∙ (ap (λ (x : ℕ). x / n) e ∙ div-mul-add k' n s' h')

module _ (z : Sizes) where
  -- ---- which way a word goes
  pub rises_low : (i : ℕ) → i ≤ cells z → falls z i ≡ false
  unfolding falls
  rises_low i h = ap (λ (b : Bool). b && nat_lt i (1 + 2 * cells z)) (le-ltb (cells z) i h)

  pub falls_mid : (i : ℕ) → cells z < i → i < 1 + 2 * cells z → falls z i ≡ true
  unfolding falls
  falls_mid i h l = λ t. lt-ltb (cells z) i h t && lt-ltb i (1 + 2 * cells z) l t

  pub rises_high : (i : ℕ) → 2 * cells z < i → falls z i ≡ false
  unfolding falls
  rises_high i h =
      let a : cells z < i = omega arith in
      let b : 1 + 2 * cells z ≤ i = omega arith in
      λ t. lt-ltb (cells z) i a t && le-ltb i (1 + 2 * cells z) b t

  pub seal_rises : (k b : ℕ) → falls z (seal_place z k b) ≡ false
  seal_rises k b = rises_high _ (omega arith)

  pub ticket_rises : falls z (ticket_place z) ≡ false
  ticket_rises = rises_high _ (omega arith)

  pub stop_rises : falls z (stop_place z) ≡ false
  stop_rises = rises_high _ (omega arith)

  pub seal_of_rises : (i j : ℕ) → IsSealOf z i j → falls z i ≡ false
  seal_of_rises i j g = let e = g.is_seal in rises_high i (omega (arith, e))

  module _ (k s : ℕ) (le : k ≤ z.layers) (lt : s < z.states) where
    row : k * z.states + s < cells z
    row = in_row z.layers k z.states s le lt

    pub lower_rises : falls z (lower_place z k s) ≡ false
    lower_rises = let h = row in rises_low _ (omega arith)

    pub upper_falls : falls z (upper_place z k s) ≡ true
    upper_falls = let h = row in falls_mid _ (omega arith) (omega arith)

    -- ---- a word is in the table
    pub lower_in : lower_place z k s < word_count z
    lower_in = let h = row in omega arith

    pub upper_in : upper_place z k s < word_count z
    upper_in = let h = row in omega arith

    -- ---- no lower or upper word is a seal
    pub lower_is_no_seal : (j : ℕ) → IsSealOf z (lower_place z k s) j → ⊥
    lower_is_no_seal j g = let h = row in let e = g.is_seal in omega (arith, e)

    pub upper_is_no_seal : (j : ℕ) → IsSealOf z (upper_place z k s) j → ⊥
    upper_is_no_seal j g = let h = row in let e = g.is_seal in omega (arith, e)

    -- ---- the seal of a word
    pub seal_of_lower : IsSealOf z (seal_place z k (block_of s)) (lower_place z k s)
    seal_of_lower = record { layer = k; state = s; layer_in = le; state_in = lt; is_seal = refl; is_word = inl refl }

    pub seal_of_upper : IsSealOf z (seal_place z k (block_of s)) (upper_place z k s)
    seal_of_upper = record { layer = k; state = s; layer_in = le; state_in = lt; is_seal = refl; is_word = inr refl }

    pub block_in : block_of s < blocks z
    block_in = omega arith

  pub seal_in : (k b : ℕ) → k ≤ z.layers → b < blocks z → seal_place z k b < word_count z
  seal_in k b le lt = let h = in_row z.layers k (blocks z) b le lt in omega arith

  pub ticket_in : ticket_place z < word_count z
  ticket_in = omega arith

  pub stop_in : stop_place z < word_count z
  stop_in = omega arith

  -- ---- the words behind the seals are none
  pub seal_before : (k b : ℕ) → k ≤ z.layers → b < blocks z → seal_place z k b < ticket_place z
  seal_before k b le lt = let h = in_row z.layers k (blocks z) b le lt in omega arith

  pub ticket_is_no_seal : (j : ℕ) → IsSealOf z (ticket_place z) j → ⊥
  ticket_is_no_seal j g =
      let h = seal_before g.layer (block_of g.state) g.layer_in (block_in g.layer g.state g.layer_in g.state_in) in
      let e = g.is_seal in
      omega (arith, e, h)

  pub stop_is_no_seal : (j : ℕ) → IsSealOf z (stop_place z) j → ⊥
  stop_is_no_seal j g =
      let h = seal_before g.layer (block_of g.state) g.layer_in (block_in g.layer g.state g.layer_in g.state_in) in
      let e = g.is_seal in
      omega (arith, e, h)

  -- ---- no other word is the tickets' word, and none is the stop word
  module _ (k s : ℕ) (le : k ≤ z.layers) (lt : s < z.states) where
    pub lower_before : lower_place z k s < ticket_place z
    lower_before = let h = in_row z.layers k z.states s le lt in omega arith

    pub upper_before : upper_place z k s < ticket_place z
    upper_before = let h = in_row z.layers k z.states s le lt in omega arith

  pub ticket_before_stop : ticket_place z < stop_place z
  ticket_before_stop = omega arith

  -- a seal vouches for the words of its own block alone
  pub sealed_block : (k b j : ℕ) → b < blocks z → (g : IsSealOf z (seal_place z k b) j) → (k ≡ g.layer) × (b ≡ block_of g.state)
  sealed_block k b j lt g =
      let n : ℕ = blocks z in
      let b' : ℕ = block_of g.state in
      let inside : b' < n = block_in g.layer g.state g.layer_in g.state_in in
      let is = g.is_seal in
      let e : k * n + b ≡ g.layer * n + b' = omega (arith, is) in
      let row = same_row n k b g.layer b' lt inside e in
      let same : k * n ≡ g.layer * n = ap (λ (x : ℕ). x * n) row in
      (row, omega (arith, e, same))
