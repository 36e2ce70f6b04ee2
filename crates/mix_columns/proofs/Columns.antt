-- Columns of words, and one word more.
use Rattle.std.proofs.Common.{◌≡◌, ℕ, suc, ◌^◌, ◌≤◌, ◌<◌, List, [], ◌∷◌, ◌++◌, length, get_or, ap, ◌∙◌, arith}
use Rattle.std.proofs.Math.Decide.{dec_le}
use Rattle.std.proofs.lemmas.Grind.{common_steps}
use Rattle.std.proofs.lemmas.List.{get_or_default, get_or_past}
use Rattle.std.specs.List.{All}

pub read_word : (xs ys : List ℕ) (k r : ℕ) → xs ≡ ys → k < length ys → r ≡ get_or xs k r → r ≡ get_or ys k 0
read_word xs ys k r same l e = e ∙ (ap (λ z. get_or z k r) same ∙ get_or_default ys k r 0 l)

pub old_word : (xs : List ℕ) (x k d : ℕ) → k < length xs → get_or (xs ++ x ∷ []) k d ≡ get_or xs k d
old_word xs x k d l = grind (arith, common_steps)

pub new_word : (xs : List ℕ) (x k d : ℕ) → k ≡ length xs → get_or (xs ++ x ∷ []) k d ≡ x
new_word xs x k d e = grind (arith, common_steps)

pub capped_word : (xs : List ℕ) → All (λ w. w ≤ 2 ^ 62) xs → (k d : ℕ) → d ≤ 2 ^ 62 → get_or xs k d ≤ 2 ^ 62
capped_word xs h k d l =
    elim (dec_le (suc k) (length xs)) [
      | yes i ↦ h k d (omega arith)
      | no i ↦ (let e = get_or_past xs k d (omega arith) in omega (arith, e))
    ]
