-- A row as a list of entries, against the row as a function of the target.
use Rattle.std.proofs.Common.{◌≡◌, ℕ, zero, suc, ◌+◌, ◌*◌, ◌≤◌, ◌<◌, true, false, cond, eqb, List, [], ◌∷◌, refl, ap, sym, ◌∙◌, arith}
use Rattle.std.specs.List.{All, sum_by}
use Rattle.std.proofs.lemmas.Bool.Decides.{nat_tests}
use Rattle.std.proofs.lemmas.List.Sums.{sum_by-cons}
use Rattle.std.proofs.lemmas.List.Elements.{All-head, All-tail}
use Rattle.std.proofs.Math.Decide.{dec_le}
use Rattle.std.proofs.Math.Nat.{add-mul}
use Rattle.ctmc_semantics.specs.Sum.{sum_below}
use Rattle.ctmc_semantics.proofs.Sums.{sum_below-add, sum_below-same}
use Rattle.round_out.specs.declared.entry.Entry.{Entry}
use Rattle.step_core.specs.FrameRows.{number_to}

-- of one entry's numbers no term is past its target, and one is at it
none_past : (n s c : ℕ) (x : ℕ → ℕ) → n ≤ s → sum_below n (λ t. cond (eqb s t) c 0 * x t) ≡ 0
none_past zero s c x l = refl
none_past (suc n) s c x l =
    let ne : eqb s n ≡ false = grind (arith, nat_tests) in
    rw ne (omega (arith, none_past n s c x (omega arith)))

one_target : (n s c : ℕ) (x : ℕ → ℕ) → s < n → sum_below n (λ t. cond (eqb s t) c 0 * x t) ≡ c * x s
one_target zero s c x l = absurd (omega arith)
one_target (suc n) s c x l =
    elim (dec_le (suc s) n) [
      | yes i ↦ (let ne : eqb s n ≡ false = grind (arith, nat_tests) in rw ne (omega (arith, one_target n s c x i)))
      | no g ↦ (
          let e : eqb s n ≡ true = grind (arith, nat_tests) in
          let q : s ≡ n = omega arith in
          rw e (omega (arith, none_past n s c x (omega arith), ap (λ z. c * x z) q)))
    ]

nothing : (n : ℕ) (x : ℕ → ℕ) → sum_below n (λ t. 0 * x t) ≡ 0
nothing zero x = refl
nothing (suc n) x = omega (arith, nothing n x)

-- the entries' numbers times their targets' words add up to the numbers to each target times its word
pub entries_sum : (n : ℕ) (es : List Entry) (x : ℕ → ℕ) → All (λ e. e.to < n) es
    → sum_by (λ e. e.num * x e.to) es ≡ sum_below n (λ t. number_to es t * x t)
entries_sum n [] x h = sym (nothing n x)
entries_sum n (e ∷ es) x h =
    let here : sum_below n (λ t. cond (eqb e.to t) e.num 0 * x t) ≡ e.num * x e.to =
    one_target n e.to e.num x (All-head (λ f. f.to < n) e es h) in
    let there : sum_by (λ f. f.num * x f.to) es ≡ sum_below n (λ t. number_to es t * x t) =
    entries_sum n es x (All-tail (λ f. f.to < n) e es h) in
    let split : sum_below n (λ t. number_to (e ∷ es) t * x t)
    ≡ sum_below n (λ t. cond (eqb e.to t) e.num 0 * x t + number_to es t * x t) =
    sum_below-same n _ _ (λ t l. ap (λ z. z * x t) (sum_by-cons (λ f. cond (eqb f.to t) f.num 0) e es)
    ∙ add-mul (cond (eqb e.to t) e.num 0) (number_to es t) (x t)) in
    sum_by-cons (λ f. f.num * x f.to) e es
    ∙ omega (arith, here, there, split, sum_below-add n (λ t. cond (eqb e.to t) e.num 0 * x t) (λ t. number_to es t * x t))
