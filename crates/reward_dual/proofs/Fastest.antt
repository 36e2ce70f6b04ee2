-- The deciding state is left fastest, so its rate is the dual chain's.
use Rattle.std.proofs.Common.{◌≡◌, ℕ, zero, suc, ◌*◌, ◌<◌, ◌≤◌, Bool, true, false, if◌then◌else◌, refl, sym, ap, subst, ◌∙◌, arith}
use Rattle.std.proofs.Math.Decide.{dec_le}
use Rattle.std.proofs.Math.Nat.{le_of_mul-le-mul_right, mul-le-mul_left, mul-le-mul_right}
use Rattle.std.proofs.lemmas.Bool.{ltb-false, ltb-true}
use Rattle.ctmc_semantics.specs.Chain.{Chain, exit_rate}
use Rattle.ctmc_semantics.specs.Sum.{max_below}
use Rattle.ctmc_semantics.specs.Uniformised.{greatest_exit_rate}
use Rattle.ctmc_semantics.proofs.Sums.{le_max_below}
use Rattle.csl_semantics.specs.Dual.{product_below, others_product, dual}
use Rattle.reward_dual.specs.Deciding.{is_left_faster, fastest_below, deciding_state, deciding_rate}
use Rattle.reward_dual.proofs.Products.{dual_exit, others_times}

module _ (chain : Chain) (reward : ℕ → ℕ) where
  abbrev exit : ℕ → ℕ
  exit = exit_rate chain

  -- z is left at least as fast as s
  abbrev AsFast : ℕ → ℕ → Type 0
  AsFast z s = exit s * reward z ≤ exit z * reward s

  as_fast_on : (a b c : ℕ) → 0 < reward b → AsFast b a → AsFast c b → AsFast c a
  as_fast_on a b c some h k =
      le_of_mul-le-mul_right {k = reward b}
      (omega (arith, mul-le-mul_right (reward c) h, mul-le-mul_right (reward a) k)) some

  fastest_inside : (n : ℕ) → 0 < n → fastest_below chain reward n < n
  fastest_inside zero l = absurd (omega (arith, l))
  fastest_inside (suc zero) l = by_test (is_left_faster chain reward 0 0)
    where
      by_test : (b : Bool) → (if b then 0 else 0) < 1
      by_test true = omega arith
      by_test false = omega arith
  fastest_inside (suc (suc n)) l =
      by_test (is_left_faster chain reward (suc n) (fastest_below chain reward (suc n))) (fastest_below chain reward (suc n))
      (fastest_inside (suc n) (omega arith))
    where
      by_test : (b : Bool) (z : ℕ) → z < suc n → (if b then suc n else z) < suc (suc n)
      by_test true z h = omega arith
      by_test false z h = omega (arith, h)

  -- the first n states are left no faster
  pub fastest : (n : ℕ) → ((s : ℕ) → s < n → 0 < reward s) → (s : ℕ) → s < n → AsFast (fastest_below chain reward n) s
  fastest zero positive s l = absurd (omega (arith, l))
  fastest (suc n) positive s l =
      one_more n s (fastest_below chain reward n) l (is_left_faster chain reward n (fastest_below chain reward n)) refl
      (λ i. positive (fastest_below chain reward n) (omega (arith, fastest_inside n (omega (arith, i)))))
      (λ i. fastest n (λ t m. positive t (omega (arith, m))) s i)
    where
      one_more : (n s z : ℕ) → s < suc n → (b : Bool) → is_left_faster chain reward n z ≡ b → (s < n → 0 < reward z)
          → (s < n → AsFast z s) → AsFast (if b then n else z) s
      one_more n s z l true e some before =
          let faster : exit z * reward n < exit n * reward z = ltb-true (exit z * reward n) (exit n * reward z) e in
          elim (dec_le (suc s) n) [
            | yes i ↦ as_fast_on s z n (some i) (before i) (omega (arith, faster))
            | no g ↦ (let same : s ≡ n = omega (arith, g, l) in subst (AsFast n) (sym same) (omega arith))
          ]
      one_more n s z l false e some before =
          let slower : exit n * reward z ≤ exit z * reward n = ltb-false (exit z * reward n) (exit n * reward z) e in
          elim (dec_le (suc s) n) [
            | yes i ↦ before i
            | no g ↦ (let same : s ≡ n = omega (arith, g, l) in subst (AsFast z) (sym same) slower)
          ]

-- a value that no other passes is the greatest
greatest : (n : ℕ) (f : ℕ → ℕ) (z : ℕ) → z < n → ((s : ℕ) → s < n → f s ≤ f z) → max_below n f ≡ f z
greatest n f z l h = omega (arith, le_max_below n f z l, at_most n (λ s m. h s m))
  where
    at_most : (m : ℕ) → ((s : ℕ) → s < m → f s ≤ f z) → max_below m f ≤ f z
    at_most zero k = omega arith
    at_most (suc m) k = omega (arith, at_most m (λ s i. k s (omega (arith, i))), k m (omega arith))

module _ (chain : Chain) (reward : ℕ → ℕ) (some : 0 < chain.states) (positive : (s : ℕ) → s < chain.states → 0 < reward s) where
  abbrev n : ℕ
  n = chain.states

  abbrev others : ℕ → ℕ
  others = others_product n reward

  abbrev all : ℕ
  all = product_below n reward

  abbrev decides : ℕ
  decides = deciding_state chain reward

  abbrev rate : ℕ
  rate = deciding_rate chain reward

  pub decides_inside : decides < n
  decides_inside = fastest_inside chain reward n some

  -- no state is left faster, as a rate of the dual chain
  pub slower : (s : ℕ) → s < n → exit_rate chain s * others s ≤ rate * others decides
  slower s l =
      let own : others s * reward s ≡ all = others_times n s reward l in
      let its : others decides * reward decides ≡ all = others_times n decides reward decides_inside in
      let both : 0 < reward s * reward decides = positive_times (reward s) (reward decides) (positive s l) (positive decides decides_inside) in
      let e : ℕ = exit_rate chain s in
      le_of_mul-le-mul_right {k = reward s * reward decides}
      (omega (
        arith,
        ap (λ x. e * x * reward decides) own,
        ap (λ x. rate * x * reward s) its,
        mul-le-mul_left all (fastest chain reward n positive s l),
      )) both
    where
      positive_times : (a b : ℕ) → 0 < a → 0 < b → 0 < a * b
      positive_times (suc a) (suc b) h k = omega arith
      positive_times zero b h k = absurd (omega (arith, h))
      positive_times (suc a) zero h k = absurd (omega (arith, k))

  -- the greatest rate of the dual chain is that of the deciding state
  pub dual_greatest : greatest_exit_rate (dual chain reward) ≡ rate * others decides
  dual_greatest =
      greatest n (exit_rate (dual chain reward)) decides decides_inside
      (λ s l. omega (arith, dual_exit chain reward s, dual_exit chain reward decides, slower s l))
      ∙ dual_exit chain reward decides
