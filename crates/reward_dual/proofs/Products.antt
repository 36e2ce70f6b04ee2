-- The products of rewards, and the exit rates of the dual chain.
use Rattle.std.proofs.Common.{◌≡◌, ℕ, zero, suc, ◌*◌, ◌<◌, true, false, cond, eqb, refl, ap, ◌∙◌, arith}
use Rattle.std.proofs.Math.Decide.{dec_le}
use Rattle.std.proofs.lemmas.Bool.Decides.{nat_tests}
use Rattle.ctmc_semantics.specs.Chain.{Chain, exit_rate}
use Rattle.ctmc_semantics.proofs.Sums.{sum_below-same, sum_below-mul}
use Rattle.csl_semantics.specs.Dual.{product_below, others_product, dual}

product_same : (n : ℕ) (f g : ℕ → ℕ) → ((t : ℕ) → t < n → f t ≡ g t) → product_below n f ≡ product_below n g
product_same zero f g h = refl
product_same (suc n) f g h =
    ap (λ x. x * f n) (product_same n f g (λ t l. h t (omega (arith, l)))) ∙ ap (λ y. product_below n g * y) (h n (omega arith))

-- a factor is the others' product short of all
pub others_times : (n s : ℕ) (f : ℕ → ℕ) → s < n → others_product n f s * f s ≡ product_below n f
others_times zero s f l = absurd (omega (arith, l))
others_times (suc n) s f l =
    elim (dec_le (suc s) n) [
      | yes i ↦
          let ne : eqb n s ≡ false = grind (arith, nat_tests) in
          let before = others_times n s f i in
          let rest : ℕ = others_product n f s in
          let last : cond (eqb n s) 1 (f n) ≡ f n = rw ne refl in
          let here : others_product (suc n) f s ≡ rest * f n = ap (λ x. rest * x) last in
          ap (λ x. x * f s) here ∙ moved rest (f n) (f s) ∙ ap (λ x. x * f n) before
      | no g ↦
          let same : s ≡ n = omega (arith, g, l) in
          let e : eqb n s ≡ true = grind (arith, nat_tests) in
          let last : cond (eqb n s) 1 (f n) ≡ 1 = rw e refl in
          let rest : others_product n f s ≡ product_below n f =
          product_same n (λ t. cond (eqb t s) 1 (f t)) f (λ t m. other t s (f t) (omega (arith, m, same))) in
          let here : others_product (suc n) f s ≡ product_below n f * 1 =
          ap (λ x. x * cond (eqb n s) 1 (f n)) rest ∙ ap (λ x. product_below n f * x) last in
          ap (λ x. x * f s) here ∙ ap (λ x. product_below n f * 1 * f x) same ∙ ap (λ x. x * f n) (unit (product_below n f))
    ]
  where
    moved : (a b c : ℕ) → a * b * c ≡ a * c * b
    moved a b c = omega arith

    unit : (a : ℕ) → a * 1 ≡ a
    unit a = omega arith

    other : (t s x : ℕ) → t < s → cond (eqb t s) 1 x ≡ x
    other t s x l = let ne : eqb t s ≡ false = grind (arith, nat_tests) in rw ne refl

pub positive_times : (a b : ℕ) → 0 < a → 0 < b → 0 < a * b
positive_times (suc a) (suc b) h k = omega arith
positive_times zero b h k = absurd (omega (arith, h))
positive_times (suc a) zero h k = absurd (omega (arith, k))

pub product_positive : (n : ℕ) (f : ℕ → ℕ) → ((t : ℕ) → t < n → 0 < f t) → 0 < product_below n f
product_positive zero f h = omega arith
product_positive (suc n) f h =
    positive_times (product_below n f) (f n) (product_positive n f (λ t l. h t (omega (arith, l)))) (h n (omega arith))

-- the dual chain leaves a state at its own exit rate, as many times as the others' product
pub dual_exit : (chain : Chain) (reward : ℕ → ℕ) (s : ℕ)
    → exit_rate (dual chain reward) s ≡ exit_rate chain s * others_product chain.states reward s
dual_exit chain reward s =
    let others = others_product chain.states reward s in
    sum_below-same chain.states (λ t. chain.rate s t * others) (λ t. others * chain.rate s t) (λ t l. omega arith)
    ∙ sum_below-mul chain.states others (chain.rate s)
    ∙ swap others (exit_rate chain s)
  where
    swap : (a b : ℕ) → a * b ≡ b * a
    swap a b = omega arith
