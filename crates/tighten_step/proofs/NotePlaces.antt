-- A note of one word that is set, and the notes of all else.
use Rattle.std.proofs.Common.{◌≡◌, ◌≢◌, ℕ, ◌+◌, ◌*◌, ◌<◌, ◌≤◌, List, length, set, arith}
use Rattle.std.proofs.lemmas.List.{get_or-set_same, get_or-set_other}
use Rattle.step_core.specs.CoreLists.{lower_at, upper_at, seal_at}
use Rattle.step_core.specs.Places.{Sizes, cells, lower_place, upper_place, seal_place, word_count}
use Rattle.step_core.proofs.PlaceLemmas.{in_row, same_row, lower_in, upper_in}

module _ (z : Sizes) (ns : List ℕ) (k s x : ℕ) (le : k ≤ z.layers) (lt : s < z.states) where
  row : k * z.states + s < cells z
  row = in_row z.layers k z.states s le lt

  -- ---- a lower word
  abbrev low : List ℕ
  low = set ns (lower_place z k s) x

  pub lower_here : length ns ≡ word_count z → lower_at z low k s ≡ x
  lower_here size = get_or-set_same ns (lower_place z k s) x 0 (let h = lower_in z k s le lt in omega (arith, size, h))

  pub lower_else : (t : ℕ) → t ≢ s → lower_at z low k t ≡ lower_at z ns k t
  lower_else t ne =
      get_or-set_other ns (lower_place z k s) (lower_place z k t) x 0 (λ e. ne (omega (arith, e)))

  pub lower_before : (j t : ℕ) → j < k → t < z.states → lower_at z low j t ≡ lower_at z ns j t
  lower_before j t less inside =
      get_or-set_other ns (lower_place z k s) (lower_place z j t) x 0 (λ e.
      let same : j ≡ k = same_row z.states j t k s inside lt (omega (arith, e)) in
      absurd (omega (arith, same, less)))

  pub lower_upper : (j t : ℕ) → upper_at z low j t ≡ upper_at z ns j t
  lower_upper j t =
      let h = row in
      get_or-set_other ns (lower_place z k s) (upper_place z j t) x 0 (λ e. absurd (omega (arith, e, h)))

  pub lower_seal : (j b : ℕ) → seal_at z low j b ≡ seal_at z ns j b
  lower_seal j b =
      let h = row in
      get_or-set_other ns (lower_place z k s) (seal_place z j b) x 0 (λ e. absurd (omega (arith, e, h)))

  -- ---- an upper word
  abbrev high : List ℕ
  high = set ns (upper_place z k s) x

  pub upper_here : length ns ≡ word_count z → upper_at z high k s ≡ x
  upper_here size = get_or-set_same ns (upper_place z k s) x 0 (let h = upper_in z k s le lt in omega (arith, size, h))

  pub upper_else : (t : ℕ) → t ≢ s → upper_at z high k t ≡ upper_at z ns k t
  upper_else t ne =
      get_or-set_other ns (upper_place z k s) (upper_place z k t) x 0 (λ e. ne (omega (arith, e)))

  pub upper_before : (j t : ℕ) → j < k → t < z.states → upper_at z high j t ≡ upper_at z ns j t
  upper_before j t less inside =
      get_or-set_other ns (upper_place z k s) (upper_place z j t) x 0 (λ e.
      let same : j ≡ k = same_row z.states j t k s inside lt (omega (arith, e)) in
      absurd (omega (arith, same, less)))

  pub upper_lower : (j t : ℕ) → j ≤ z.layers → t < z.states → lower_at z high j t ≡ lower_at z ns j t
  upper_lower j t j_le t_lt =
      let h = in_row z.layers j z.states t j_le t_lt in
      get_or-set_other ns (upper_place z k s) (lower_place z j t) x 0 (λ e. absurd (omega (arith, e, h)))

  pub upper_seal : (j b : ℕ) → seal_at z high j b ≡ seal_at z ns j b
  upper_seal j b =
      let h = row in
      get_or-set_other ns (upper_place z k s) (seal_place z j b) x 0 (λ e. absurd (omega (arith, e, h)))
