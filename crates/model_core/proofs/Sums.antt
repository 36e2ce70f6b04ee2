-- Sums over the numbers below a bound, and sums over lists.
use Rattle.std.proofs.Common.{◌≡◌, ◌≢◌, ℕ, zero, suc, ◌+◌, ◌<◌, Bool, true, false, cond, List, [], ◌∷◌, filter, sum_by, inl, inr, refl, ap}
use Rattle.std.proofs.Common.{arith}
use Rattle.std.proofs.lemmas.List.Sums.{sum_by-cons}
use Rattle.std.proofs.lemmas.Bool.Decides.{eqb_tells}
use Rattle.ctmc_semantics.specs.Sum.{sum_below}

-- sums of equal numbers are equal
pub sum_below-agree : (n : ℕ) (f g : ℕ → ℕ) → ((t : ℕ) → t < n → f t ≡ g t) → sum_below n f ≡ sum_below n g
sum_below-agree zero f g h = refl
sum_below-agree (suc n) f g h = omega (arith, sum_below-agree n f g (λ t l. h t (omega arith)), h n (omega arith))

-- the sums of two functions, added up
pub sum_below-add : (n : ℕ) (f g : ℕ → ℕ) → sum_below n (λ t. f t + g t) ≡ sum_below n f + sum_below n g
sum_below-add zero f g = refl
sum_below-add (suc n) f g = omega (arith, sum_below-add n f g)

-- a sum of zeros
pub sum_below-none : (n : ℕ) (f : ℕ → ℕ) → ((t : ℕ) → t < n → f t ≡ 0) → sum_below n f ≡ 0
sum_below-none zero f h = refl
sum_below-none (suc n) f h = omega (arith, sum_below-none n f (λ t l. h t (omega arith)), h n (omega arith))

-- a sum in which one number alone is not 0
pub sum_below-one : (n k : ℕ) (f : ℕ → ℕ) → k < n → ((t : ℕ) → t ≢ k → f t ≡ 0) → sum_below n f ≡ f k
sum_below-one zero k f l h = absurd (omega arith)
sum_below-one (suc n) k f l h =
    elim (eqb_tells n k) [
      | inl e ↦ let same : f n ≡ f k = ap f e.1 in omega (arith, same, sum_below-none n f (λ t below. h t (omega arith)))
      | inr e ↦ let before : k < n = omega (arith, e.1) in omega (arith, h n e.1, sum_below-one n k f before h)
    ]

-- one element more, which a filter keeps or drops
pub sum_by-kept : {X : Type 0} (f : X → ℕ) (x : X) (xs : List X) (keeps : Bool)
    → sum_by f (cond keeps (x ∷ xs) xs) ≡ cond keeps (f x) 0 + sum_by f xs
sum_by-kept f x xs true = sum_by-cons f x xs
sum_by-kept f x xs false = omega arith

-- a sum over what a filter keeps
pub sum_by-filter : {X : Type 0} (f : X → ℕ) (p : X → Bool) (xs : List X) → sum_by f (filter p xs) ≡ sum_by (λ x. cond (p x) (f x) 0) xs
sum_by-filter f p [] = refl
sum_by-filter f p (x ∷ xs) =
    omega (arith, sum_by-kept f x (filter p xs) (p x), sum_by-cons (λ x. cond (p x) (f x) 0) x xs, sum_by-filter f p xs)
