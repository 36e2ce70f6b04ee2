-- States whose rows are laid flat, one after another.
use Rattle.std.proofs.Common.{◌≡◌, ℕ, ◌+◌, ◌<◌, suc, Bool, true, ap, subst, ◌∙◌, arith}
use Rattle.std.proofs.Math.Decide.{dec_le}

-- one more place, of each that needs one
pub more_places : (needs : ℕ → Bool) (has : ℕ → Type 0) (i : ℕ) → ((p : ℕ) → p < i → needs p ≡ true → has p)
    → (needs i ≡ true → has i) → (p : ℕ) → p < i + 1 → needs p ≡ true → has p
more_places needs has i before here p l t =
    elim (dec_le (suc p) i) [
      | yes j ↦ before p j t
      | no g ↦ (let e : i ≡ p = omega arith in subst has e (here (ap needs e ∙ t)))
    ]
