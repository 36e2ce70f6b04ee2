-- A fact about each of a list that is lent.
use Rattle.std.proofs.Common.{◌≡◌, ℕ, List, ◌++◌, length, take, sym, ap, ◌∙◌, subst}
use Rattle.std.specs.List.{All}
use Rattle.std.proofs.Math.Seq.{take-append_seam}

-- what holds of each of a slice holds of each of the vector that it was lent from
pub all_lent : {X : Type 0} (P : X → Type 0) (n : ℕ) (xs ys : List X) → n ≡ length xs → All P xs → All P (take n (xs ++ ys))
all_lent {X} P n xs ys e all = subst (λ (zs : List X). All P zs) (sym (ap (λ (m : ℕ). take m (xs ++ ys)) e ∙ take-append_seam xs ys)) all
