-- The seals of a layer that were looked at so far.
use Rattle.std.proofs.Common.{◌≡◌, ◌≢◌, ℕ, suc, ◌+◌, ◌*◌, ◌<◌, ◌≤◌, List, set, Bool, true, false, true≢false, ◌&&◌, refl, sym, ap, ◌∙◌, inl, inr, arith}
use Rattle.std.specs.Prelude.{IsTrue, if◌then◌else◌}
use Rattle.std.proofs.Math.Nat.{mul-le-mul_right}
use Rattle.std.proofs.lemmas.Bool.{cases_eq, and_parts}
use Rattle.std.proofs.lemmas.List.{get_or-set_other}
use Rattle.bound_grid.specs.Passes.{KnowsMore, notes_of, seal_note}
use Rattle.bound_grid.specs.SealNotes.{NotesLayer}
use Rattle.bound_grid.specs.declared.board.Board.{Board}
use Rattle.bound_grid.specs.declared.board.Pass.{Pass}
use Rattle.bound_grid.proofs.KnownLemmas.{seal_stays}
use Rattle.step_core.specs.CoreLists.{seal_at}
use Rattle.step_core.specs.Limits.{sizes_of}
use Rattle.step_core.specs.Places.{Sizes, blocks, seal_place}

-- `all` says whether the first c seals of the layer are noted as set
pub record Seen (z : Sizes) (k c : ℕ) (ns : List ℕ) (all : Bool) : Type 0 where
  pub yes : IsTrue all → (d : ℕ) → d < c → seal_at z ns k d ≡ 1
  pub no : ((d : ℕ) → d < c → seal_at z ns k d ≡ 1) → IsTrue all

pub seen_none : (z : Sizes) (k : ℕ) (ns : List ℕ) → Seen z k 0 ns true
seen_none z k ns = record { yes = λ _ d lt. absurd (omega arith); no = λ _. refl }

pub both_true : (a b : Bool) → IsTrue a → IsTrue b → IsTrue (a && b)
both_true true b x y = y
both_true false b x y = absurd (true≢false (sym x))

set_is_true : (one : Bool) → ◌≡◌ {A = ℕ} (if one then 1 else 0) 1 → IsTrue one
set_is_true true e = refl
set_is_true false e = absurd (omega (arith, e))

seal_apart : (z : Sizes) (ns : List ℕ) (k c x d : ℕ) → d ≢ c → seal_at z (set ns (seal_place z k c) x) k d ≡ seal_at z ns k d
seal_apart z ns k c x d ne = get_or-set_other ns (seal_place z k c) (seal_place z k d) x 0 (λ e. ne (omega (arith, e)))

-- one seal more
pub seen_next : (z : Sizes) (k c : ℕ) (ns after : List ℕ) (all one : Bool) → after ≡ set ns (seal_place z k c) (if one then 1 else 0)
    → seal_at z after k c ≡ (if one then 1 else 0) → Seen z k c ns all → Seen z k (c + 1) after (all && one)
seen_next z k c ns after all one is noted seen =
    let kept : (d : ℕ) → d < c → seal_at z after k d ≡ seal_at z ns k d =
    λ d less. ap (λ ms. seal_at z ms k d) is ∙ seal_apart z ns k c (if one then 1 else 0) d (λ e. omega (arith, e, less)) in
    record {
      yes = λ both d lt.
          let parts = and_parts all one both in
          elim (cases_eq d c) [
            | inl e ↦ ap (λ g. seal_at z after k g) e ∙ (noted ∙ ap (λ (x : Bool). if x then 1 else 0) parts.1)
            | inr ne ↦ (let less : d < c = omega (arith, lt, ne) in kept d less ∙ seen.yes parts.0 d less)
          ];
      no = λ all_set. both_true all one
          (seen.no (λ d less. sym (kept d less) ∙ all_set d (omega (arith, less))))
          (set_is_true one (sym noted ∙ all_set c (omega arith)));
    }

-- a layer whose seals are noted as set stays so
pub layer_stays : (b : Board) (p q : Pass) (k : ℕ) → KnowsMore b p q → k ≤ b.plan.layers → NotesLayer b.plan (notes_of p) k
    → NotesLayer b.plan (notes_of q) k
layer_stays b p q k more le noted = record { at = λ c lt. seal_stays b p q more k c le lt (noted.at c lt) }

-- notes of the same seals
pub layer_same : (b : Board) (p q : Pass) (k : ℕ) → ((c : ℕ) → c < blocks (sizes_of b.plan) → seal_note b q k c ≡ seal_note b p k c)
    → NotesLayer b.plan (notes_of p) k → NotesLayer b.plan (notes_of q) k
layer_same b p q k same noted = record { at = λ c lt. same c lt ∙ noted.at c lt }

-- a seal of another layer stays
pub seal_else : (z : Sizes) (ns : List ℕ) (k c x j d : ℕ) → j < k → d < blocks z
    → seal_at z (set ns (seal_place z k c) x) j d ≡ seal_at z ns j d
seal_else z ns k c x j d less lt =
    let far : suc j * blocks z ≤ k * blocks z = mul-le-mul_right (blocks z) less in
    get_or-set_other ns (seal_place z k c) (seal_place z j d) x 0 (λ e. absurd (omega (arith, e, far, lt)))
