-- What a step on a word tells the pass that makes it.
use Rattle.std.specs.Prelude.{◌≡◌, ℕ, ◌<◌, All, min, max, bit_or, slice_index}
use Rattle.atomic_table.specs.Table.{Me, Step}
use Rattle.step_core.specs.BoardRule.{Better, IsWithin}
use Rattle.step_core.specs.Places.{falls, IsSealOf, IsOfLayerZero}
use Rattle.step_core.specs.declared.draws.TheConstants.{MOST_DRAWS}
use Rattle.bound_grid.specs.PassView.{PassView, with_note, with_drawn}

-- the pass finds x at i: it is no worse than the note, it lies within the word's limits, and it is at its limit in layer 0 and where the
-- pass notes a seal of it
pub record Finds (view : PassView) (i x : ℕ) : Type 0 where
  pub note : Better (falls view.sizes i) (slice_index view.notes i) x
  pub within : IsWithin view.sizes view.limits i x
  pub layer_zero : IsOfLayerZero view.sizes i → x ≡ slice_index view.limits i
  pub sealed : (j : ℕ) → IsSealOf view.sizes j i → 0 < slice_index view.notes j → x ≡ slice_index view.limits i

-- the pass finds x at i, which becomes y, and notes y
abbrev pub Turned : ℕ → Me ℕ PassView → ℕ → ℕ → Me ℕ PassView → Type 0
Turned i before x y after = Finds before.0 i x × (after ≡ (with_note before.0 i y, before.1))

abbrev pub Loaded : Step ℕ → Me ℕ PassView → ℕ → Me ℕ PassView → Type 0
Loaded step before x after = Turned step.word before x x after

abbrev pub Raised : Step ℕ → Me ℕ PassView → ℕ → Me ℕ PassView → Type 0
Raised step before x after = Turned step.word before x (max x step.first) after

abbrev pub Cut : Step ℕ → Me ℕ PassView → ℕ → Me ℕ PassView → Type 0
Cut step before x after = Turned step.word before x (min x step.first) after

abbrev pub Sealed : Step ℕ → Me ℕ PassView → ℕ → Me ℕ PassView → Type 0
Sealed step before x after = Turned step.word before x (bit_or x step.first) after

-- the pass finds the ticket x at i: there is room for it, and it is above all tickets that the pass has
pub record FindsTicket (view : PassView) (i x : ℕ) : Type 0 where
  pub word : Finds view i x
  pub room : x < MOST_DRAWS
  pub rises : All (λ t. t < x) view.tickets

-- and draws it
abbrev pub Drawn : Step ℕ → Me ℕ PassView → ℕ → Me ℕ PassView → Type 0
Drawn step before x after =
    FindsTicket before.0 step.word x × (after ≡ (with_drawn before.0 step.word x, before.1))
