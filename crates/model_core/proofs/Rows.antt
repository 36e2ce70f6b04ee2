-- The row of a state as a part of the transitions in order.
use Rattle.std.proofs.Common.{◌≡◌, ℕ, zero, suc, ◌+◌, ◌-◌, ◌<◌, ◌≤◌, ◌==◌, Bool, true, false, cond, List, [], ◌∷◌, length, take, drop}
use Rattle.std.proofs.Common.{filter, count_by, inl, inr, refl, sym, ◌∙◌, ap, ltb, arith}
use Rattle.std.specs.List.{slice_range, All}
use Rattle.std.specs.List.Sorted.{IsPartitionPoint, IsNonDecreasingBy}
use Rattle.std.proofs.lemmas.Bool.{ne_eqb, lt-ltb, le-ltb}
use Rattle.std.proofs.lemmas.Bool.Decides.{leb_tells, eqb_tells, nat_tests}
use Rattle.std.proofs.lemmas.List.Elements.{All-tail, All-head}
use Rattle.std.proofs.lemmas.List.Sums.{sum_by-cons, sum_by-le-sum_by, count_by-le-length}

-- a choice where the test passes
pub chosen : {A : Type 0} (b : Bool) (u v : A) → b ≡ true → cond b u v ≡ u
chosen true u v e = refl
chosen false u v e = cc

-- a choice where the test fails
pub passed_over : {A : Type 0} (b : Bool) (u v : A) → b ≡ false → cond b u v ≡ v
passed_over true u v e = cc
passed_over false u v e = refl

-- what is below s is below s + 1
one_more : (a s : ℕ) → cond (ltb a s) 1 0 ≤ cond (ltb a (s + 1)) 1 0
one_more a s = grind (arith, nat_tests)

module _ {X : Type 0} where
  -- one element more that passes
  count_by-yes : (p : X → Bool) (x : X) (xs : List X) → p x ≡ true → count_by p (x ∷ xs) ≡ suc (count_by p xs)
  count_by-yes p x xs e = omega (arith, sum_by-cons (λ y. cond (p y) 1 0) x xs, chosen {A = ℕ} (p x) 1 0 e)

  -- one element more that fails
  count_by-no : (p : X → Bool) (x : X) (xs : List X) → p x ≡ false → count_by p (x ∷ xs) ≡ count_by p xs
  count_by-no p x xs e = omega (arith, sum_by-cons (λ y. cond (p y) 1 0) x xs, passed_over {A = ℕ} (p x) 1 0 e)

  -- where a test passes up to a place and no further, as many pass as stand before that place
  pub count_by-partition_point : (p : X → Bool) (xs : List X) (i : ℕ) → i ≤ length xs
      → IsPartitionPoint (λ x. p x ≡ true) (λ x. p x ≡ false) xs i → count_by p xs ≡ i
  count_by-partition_point p [] zero l h = refl
  count_by-partition_point p [] (suc i) l h = absurd (omega arith)
  count_by-partition_point p (x ∷ xs) zero l h =
      count_by-no p x xs (h.1 0 x (omega arith) (omega arith))
      ∙ count_by-partition_point p xs 0 (omega arith)
      ((λ k d low high. absurd (omega arith)), λ k d low high. h.1 (suc k) d (omega arith) (omega arith))
  count_by-partition_point p (x ∷ xs) (suc i) l h =
      count_by-yes p x xs (h.0 0 x (omega arith) (omega arith))
      ∙ ap suc
      (count_by-partition_point p xs i (omega arith)
      ((λ k d low high. h.0 (suc k) d (omega arith) (omega arith)), λ k d low high. h.1 (suc k) d (omega arith) (omega arith)))

  -- a part that begins past the first element
  slice_range-both : (x : X) (xs : List X) (a b a' b' : ℕ) → a' ≡ suc a → b' ≡ suc b → slice_range (x ∷ xs) a' b' ≡ slice_range xs a b
  slice_range-both x xs a b a' b' e f = rw (e, f) (let less : suc b - suc a ≡ b - a = omega arith in ap (λ k. take k (drop a xs)) less)

  -- a part that begins with the first element
  slice_range-first : (x : X) (xs : List X) (a b a' b' : ℕ) → a ≡ 0 → a' ≡ 0 → b' ≡ suc b
      → slice_range (x ∷ xs) a' b' ≡ x ∷ slice_range xs a b
  slice_range-first x xs a b a' b' o e f =
      rw (o, e, f) (let less : suc b - 0 ≡ suc (b - 0) = omega arith in ap (λ k. take k (x ∷ xs)) less)

  -- an empty part
  slice_range-none : (xs : List X) (a b : ℕ) → b ≤ a → slice_range xs a b ≡ []
  slice_range-none xs a b l = let none : b - a ≡ 0 = omega arith in ap (λ k. take k (drop a xs)) none

  -- how many elements have a number below s
  abbrev pub below : (X → ℕ) → ℕ → List X → ℕ
  below n s xs = count_by (λ x. ltb (n x) s) xs

  -- where no element's number is below s, none is counted
  below-none : (n : X → ℕ) (s : ℕ) (xs : List X) → All (λ x. s ≤ n x) xs → below n s xs ≡ 0
  below-none n s [] h = refl
  below-none n s (x ∷ xs) h =
      count_by-no (λ x. ltb (n x) s) x xs (le-ltb (n x) s (All-head (λ (y : X). s ≤ n y) x xs h))
      ∙ below-none n s xs (All-tail (λ (y : X). s ≤ n y) x xs h)

  -- in ascending order, the elements of number s stand between those below s and those below s + 1
  pub filter-slice_range : (n : X → ℕ) (s : ℕ) (xs : List X) → IsNonDecreasingBy n xs
      → filter (λ x. n x == s) xs ≡ slice_range xs (below n s xs) (below n (s + 1) xs)
  filter-slice_range n s [] h = refl
  filter-slice_range n s (x ∷ xs) h =
      let front : All (λ y. n x ≤ n y) xs = λ k d l. h 0 (suc k) d (omega arith) (omega arith) in
      let rest : filter (λ y. n y == s) xs ≡ slice_range xs (below n s xs) (below n (s + 1) xs) =
      filter-slice_range n s xs (λ i j d l b. h (suc i) (suc j) d (omega arith) (omega arith))
      in
      elim (leb_tells s (n x)) [
        | inr lower ↦
            let l : n x < s = lower.1 in
            passed_over (n x == s) _ _ (ne_eqb (n x) s (λ e. omega arith))
            ∙ rest
            ∙ sym
            (slice_range-both x xs (below n s xs) (below n (s + 1) xs) _ _ (count_by-yes (λ y. ltb (n y) s) x xs (lt-ltb (n x) s l))
            (count_by-yes (λ y. ltb (n y) (s + 1)) x xs (lt-ltb (n x) (s + 1) (omega arith))))
        | inl higher ↦
            let none : below n s xs ≡ 0 = below-none n s xs (λ k d l. omega (arith, front k d l, higher.1)) in
            let no : below n s (x ∷ xs) ≡ 0 = count_by-no (λ y. ltb (n y) s) x xs (le-ltb (n x) s higher.1) ∙ none in
            elim (eqb_tells (n x) s) [
              | inl same ↦
                  chosen (n x == s) _ _ same.0
                  ∙ ap (λ ys. x ∷ ys) rest
                  ∙ sym
                  (slice_range-first x xs (below n s xs) (below n (s + 1) xs) _ _ none no
                  (count_by-yes (λ y. ltb (n y) (s + 1)) x xs (lt-ltb (n x) (s + 1) (omega (arith, same.1)))))
              | inr other ↦
                  let above : s + 1 ≤ n x = omega (arith, other.1, higher.1) in
                  let none_next : below n (s + 1) xs ≡ 0 = below-none n (s + 1) xs (λ k d l. omega (arith, front k d l)) in
                  let no_next : below n (s + 1) (x ∷ xs) ≡ 0 =
                  count_by-no (λ y. ltb (n y) (s + 1)) x xs (le-ltb (n x) (s + 1) above) ∙ none_next
                  in
                  passed_over (n x == s) _ _ other.0
                  ∙ rest
                  ∙ slice_range-none xs _ _ (omega arith)
                  ∙ sym (slice_range-none (x ∷ xs) _ _ (omega arith))
            ]
      ]

  -- no fewer are below a greater bound
  pub below-mono : (n : X → ℕ) (s : ℕ) (xs : List X) → below n s xs ≤ below n (s + 1) xs
  below-mono n s xs = sum_by-le-sum_by (λ x. cond (ltb (n x) s) 1 0) (λ x. cond (ltb (n x) (s + 1)) 1 0) xs (λ x. one_more (n x) s)

  -- no more are below a bound than there are
  pub below-le-length : (n : X → ℕ) (s : ℕ) (xs : List X) → below n s xs ≤ length xs
  below-le-length n s xs = count_by-le-length (λ x. ltb (n x) s) xs

  -- a part between equal numbers
  pub slice_range-at : (xs : List X) (a b a' b' : ℕ) → a ≡ a' → b ≡ b' → slice_range xs a b ≡ slice_range xs a' b'
  slice_range-at xs a b a' b' e f = rw (e, f) refl
