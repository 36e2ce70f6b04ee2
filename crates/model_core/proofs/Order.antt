-- Transitions in order of their pairs of states.
use Rattle.std.proofs.Common.{◌≡◌, ℕ, zero, suc, ◌+◌, ◌^◌, ◌<◌, ◌≤◌, ◌==◌, ◌&&◌, Bool, true, false, cond, List, [], ◌∷◌, length, get_or}
use Rattle.std.proofs.Common.{map, count_by, inl, inr, refl, ap, eq-eqb, arith}
use Rattle.std.specs.List.{All, AllPairs}
use Rattle.std.specs.List.Sorted.{IsNonDecreasingBy, IsStrictlyIncreasing}
use Rattle.std.proofs.lemmas.Bool.{eqb-true}
use Rattle.std.proofs.lemmas.Bool.Decides.{eqb_tells}
use Rattle.std.proofs.lemmas.List.{get_or-map, length-map}
use Rattle.std.proofs.lemmas.List.Elements.{filter_passes}
use Rattle.std.proofs.lemmas.List.Kept.{AllPairs-from_increasing, AllPairs-filter}
use Rattle.std.proofs.lemmas.List.Sums.{sum_by-cons, get_or-le-sum_by}
use Rattle.model_core.specs.declared.rate.Rate.{Rate}
use Rattle.model_core.specs.Pairs.{pair_number}
use Rattle.model_core.specs.Transitions.{IsInOrder, IsEachPairOnce, row_of}
use Rattle.model_core.specs.Files.{IsTransition}
use Rattle.model_core.proofs.Rows.{chosen}

-- two tests that pass
both : (a b : Bool) → a ≡ true → b ≡ true → (a && b) ≡ true
both true b e f = f
both false b e f = cc

module _ {X : Type 0} where
  -- of numbers that rise, each is below all later ones
  pub AllPairs-from_rising : (n : X → ℕ) (xs : List X) → IsStrictlyIncreasing (map n xs) → AllPairs (λ x y. n x < n y) xs
  AllPairs-from_rising n xs h i j d l b =
      let long : length (map n xs) ≡ length xs = length-map xs n in
      omega (
        arith,
        AllPairs-from_increasing (map n xs) h i j (n d) l (omega arith),
        get_or-map n xs i d (n d) (omega arith),
        get_or-map n xs j d
            (n d) b,
      )

  -- where each number is below all later ones, the numbers rise
  pub rising-from_AllPairs : (n : X → ℕ) (xs : List X) → AllPairs (λ x y. n x < n y) xs → IsStrictlyIncreasing (map n xs)
  rising-from_AllPairs n [] h k l = absurd (omega arith)
  rising-from_AllPairs n (x ∷ xs) h k l =
      let long : length (map n (x ∷ xs)) ≡ length (x ∷ xs) = length-map (x ∷ xs) n in
      omega (
        arith,
        h k (k + 1) x (omega arith) (omega arith),
        get_or-map n (x ∷ xs) k x 0 (omega arith),
        get_or-map n (x ∷ xs) (k + 1) x 0
            (omega arith),
      )

  -- a test that two places pass is passed twice
  pub two_pass : (p : X → Bool) (xs : List X) (i j : ℕ) (d : X) → i < j → j < length xs → p (get_or xs i d) ≡ true
      → p (get_or xs j d) ≡ true → 2 ≤ count_by p xs
  two_pass p [] i j d l b h k = absurd (omega arith)
  two_pass p (x ∷ xs) i zero d l b h k = absurd (omega arith)
  two_pass p (x ∷ xs) zero (suc j) d l b h k =
      omega (
        arith,
        sum_by-cons (λ y. cond (p y) 1 0) x xs,
        chosen {A =
            ℕ} (p x) 1 0 h,
        get_or-le-sum_by (λ y. cond (p y) 1 0) xs j d (omega arith),
        chosen {A = ℕ} (p (get_or xs j d)) 1 0 k,
      )
  two_pass p (x ∷ xs) (suc i) (suc j) d l b h k =
      omega (arith, sum_by-cons (λ y. cond (p y) 1 0) x xs, two_pass p xs i j d (omega arith) (omega arith) h k)

-- pairs of 32-bit numbers have numbers of their own
pub pair_number-injective : (a b c d : ℕ) → b < 2 ^ 32 → d < 2 ^ 32 → pair_number a b ≡ pair_number c d → (a ≡ c) × (b ≡ d)
pair_number-injective a b c d l m e = (omega arith, omega arith)

-- each transition of a row leaves the row's state
pub row_of-leaves : (rates : List Rate) (s : ℕ) → All (λ r. r.from ≡ s) (row_of rates s)
row_of-leaves rates s = λ k d l. eqb-true _ _ (filter_passes (λ r. r.from == s) rates k d l)

-- the row of a state is ascending by target
pub row_of-ascends : (rates : List Rate) (s : ℕ) → IsInOrder rates → IsStrictlyIncreasing (map (λ r. r.to) (row_of rates s))
row_of-ascends rates s h =
    rising-from_AllPairs (λ (r : Rate). r.to) (row_of rates s)
    (λ i j d l b.
    let rises =
    AllPairs-filter (λ (x y : Rate). pair_number x.from x.to < pair_number y.from y.to) (λ r. r.from == s) rates
    (AllPairs-from_rising (λ (r : Rate). pair_number r.from r.to) rates h) i j d l b
    in
    omega (arith, rises, row_of-leaves rates s i d (omega arith), row_of-leaves rates s j d b))

-- in order, no number falls
pub IsNonDecreasingBy-from_order : (rates : List Rate) → IsInOrder rates → IsNonDecreasingBy (λ r. pair_number r.from r.to) rates
IsNonDecreasingBy-from_order rates h i j d l b =
    elim (eqb_tells i j) [
      | inl same ↦
          let e : pair_number (get_or rates i d).from (get_or rates i d).to ≡ pair_number (get_or rates j d).from
          (get_or rates j d).to = ap (λ k. pair_number (get_or rates k d).from (get_or rates k d).to) same.1 in omega (arith, e)
      | inr other ↦
          let rises = AllPairs-from_rising (λ (r : Rate). pair_number r.from r.to) rates h i j d (omega (arith, other.1)) b in omega
          (arith, rises)
    ]

-- where the numbers don't fall, the states that are left don't
pub IsNonDecreasingBy-from_numbers : (n : ℕ) (rates : List Rate) → n ≤ 65536 → All (IsTransition n) rates
    → IsNonDecreasingBy (λ r. pair_number r.from r.to) rates → IsNonDecreasingBy (λ r. r.from) rates
IsNonDecreasingBy-from_numbers n rates few all h i j d l b =
    let first = all i d (omega arith) in
    let second = all j d b in
    omega (arith, h i j d l b, first.to_within, second.to_within)

-- numbers that don't fall rise, where no pair occurs twice
pub IsInOrder-from_sorted : (n : ℕ) (rates : List Rate) → n ≤ 65536 → All (IsTransition n) rates → IsEachPairOnce rates
    → IsNonDecreasingBy (λ r. pair_number r.from r.to) rates → IsInOrder rates
IsInOrder-from_sorted n rates few all once h =
    rising-from_AllPairs (λ (r : Rate). pair_number r.from r.to) rates
    (λ i j d l b.
    let x : Rate = get_or rates i d in
    let y : Rate = get_or rates j d in
    elim (eqb_tells (pair_number x.from x.to) (pair_number y.from y.to)) [
      | inl same ↦
          let first = all i d (omega arith) in
          let second = all j d b in
          let pair =
          pair_number-injective x.from x.to y.from y.to (omega (arith, first.to_within)) (omega (arith, second.to_within)) same.1
          in
          absurd (omega (
            arith,
            once y.from y.to,
            two_pass (λ (r : Rate). (r.from == y.from) && (r.to == y.to)) rates i j d l b
                (both (x.from == y.from) (x.to == y.to) (eq-eqb _ _ pair.0) (eq-eqb _ _ pair.1))
                (both (y.from == y.from) (y.to == y.to) (eq-eqb y.from y.from refl) (eq-eqb y.to y.to refl)),
          ))
      | inr other ↦ omega (arith, other.1, h i j d (omega arith) b)
    ])
