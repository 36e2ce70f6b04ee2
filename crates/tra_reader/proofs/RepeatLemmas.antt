-- Where numbers stand twice, by their sorted keys.
use Rattle.std.proofs.Common.{◌≡◌, ◌≢◌, ℕ, ◌+◌, ◌-◌, ◌*◌, ◌/◌, ◌%◌, ◌<◌, ◌≤◌, min, List, length, take, get_or, inl, inr, sym, ap, ◌∙◌}
use Rattle.std.proofs.Common.{arith}
use Rattle.std.proofs.lemmas.Bool.{cases_lt, cases_eq, cases_Bool, eqb-true, eqb-false, eq-eqb, ne_eqb}
use Rattle.std.proofs.lemmas.Bool.Decides.{Decides-eqb}
use Rattle.std.proofs.lemmas.List.{get_or_default, get_or-take, length-take}
use Rattle.std.proofs.lemmas.List.Kept.{AllPairs-from_increasing}
use Rattle.std.proofs.lemmas.List.Sorted.{IsPermutation-sym, IsNonDecreasingBy-from_sort, Contains-permutation, length_permutation}
use Rattle.std.proofs.lemmas.Map.Keys.{IsDistinct-IsPermutation, IsStrictlyIncreasing-from_distinct}
use Rattle.std.proofs.lemmas.Map.Made.{IsDistinct-from_AllPairs}
use Rattle.std.specs.Bool.{◌==◌}
use Rattle.std.specs.List.{AllPairs, Contains}
use Rattle.std.specs.List.Sorted.{IsPermutation, IsSorted, IsNonDecreasing, IsStrictlyIncreasing}
use Rattle.std.specs.Ordering.{nat_cmp}
use Rattle.model_core.specs.declared.limits.TheConstants.{MOST_TRANSITIONS}
use Rattle.tra_reader.specs.Repeats.{AreKeys, IsSameAsNext, IsLeastMark, IsFirstRepeat}
use Rattle.tra_reader.specs.declared.repeats.TheConstants.{PLACES}

-- what a mark is after the keys below i
pub record IsLeastSoFar (keys : List ℕ) (i mark : ℕ) : Type 0 where
  pub within : mark ≤ length keys
  pub found : mark < length keys → (k : ℕ) × (k + 1 < length keys) × IsSameAsNext keys k × (mark ≡ get_or keys (k + 1) 0 % PLACES)
  pub least : (k : ℕ) → k + 1 < i → IsSameAsNext keys k → mark ≤ get_or keys (k + 1) 0 % PLACES

-- one more key, whose number is that of the key before it
pub mark-same : (keys : List ℕ) (i mark new : ℕ) → 1 ≤ i → i < length keys → get_or keys (i - 1) 0 / PLACES ≡ get_or keys i 0 / PLACES
    → new ≡ min mark (get_or keys i 0 % PLACES) → IsLeastSoFar keys i mark → IsLeastSoFar keys (i + 1) new
mark-same keys i mark new some within same is h =
    let e : i - 1 + 1 ≡ i = omega arith in
    record {
      within = omega (arith, h.within);
      found = λ less. elim (cases_lt mark (get_or keys i 0 % PLACES)) [
        | inl kept ↦ let f = h.found (omega arith) in (f.0, f.1, f.2, omega (arith, f.3))
        | inr moved ↦ (i - 1, omega arith, rw e same, rw e (omega arith))
      ];
      least = λ j below at. elim (cases_eq (j + 1) i) [
        | inl last ↦ rw last (omega arith)
        | inr other ↦ let old : mark ≤ get_or keys (j + 1) 0 % PLACES = h.least j (omega arith) at in omega arith
      ];
    }

-- one more key, whose number is another
pub mark-other : (keys : List ℕ) (i mark : ℕ) → 1 ≤ i → get_or keys (i - 1) 0 / PLACES ≢ get_or keys i 0 / PLACES
    → IsLeastSoFar keys i mark → IsLeastSoFar keys (i + 1) mark
mark-other keys i mark some other h = record {
  within = h.within;
  found = h.found;
  least = λ j below at. elim (cases_eq (j + 1) i) [
    | inl last ↦
        let before : i - 1 ≡ j = omega arith in
        absurd (other (rw (before, ← last) at))
    | inr earlier ↦ h.least j (omega arith) at
  ];
}

-- one more number that rises
pub rises-more : (numbers : List ℕ) (i : ℕ) → 1 ≤ i → get_or numbers (i - 1) 0 < get_or numbers i 0
    → ((k : ℕ) → k + 1 < i → get_or numbers k 0 < get_or numbers (k + 1) 0) → (k : ℕ) → k + 1 < i + 1
    → get_or numbers k 0 < get_or numbers (k + 1) 0
rises-more numbers i some up h k below =
    elim (cases_eq (k + 1) i) [
      | inl last ↦
          let before : i - 1 ≡ k = omega arith in
          let up_here = rw before at up in
          rw last up_here
      | inr earlier ↦ h k (omega arith)
    ]

-- numbers that differ below a place
once-below : (numbers : List ℕ) (place : ℕ) → place ≤ length numbers
    → ((a b : ℕ) → a < b → b < place → get_or numbers a 0 ≢ get_or numbers b 0) → AllPairs ◌≢◌ (take place numbers)
once-below numbers place within apart i j d below inside =
    let in_place : j < place = omega (arith, length-take place numbers) in
    let left : get_or (take place numbers) i d ≡ get_or numbers i 0 =
    get_or-take place numbers i d (omega arith) ∙ get_or_default numbers i d 0 (omega arith)
    in
    let right : get_or (take place numbers) j d ≡ get_or numbers j 0 =
    get_or-take place numbers j d in_place ∙ get_or_default numbers j d 0 (omega arith)
    in
    λ e. apart i j below in_place (sym left ∙ e ∙ right)

-- numbers that rise differ
pub none-repeats : (numbers : List ℕ) → IsStrictlyIncreasing numbers → IsFirstRepeat numbers (length numbers)
none-repeats numbers rises = record {
  within = omega arith;
  once =
      once-below numbers (length numbers) (omega arith)
      (λ a b below inside e. let less : get_or numbers a 0 < get_or numbers b 0 = AllPairs-from_increasing numbers rises a b 0 below inside
      in omega arith);
  repeats = λ past. absurd (omega arith);
}

turned : (x y : ℕ) → (x == y) ≡ (y == x)
turned x y =
    elim (cases_Bool (x == y)) [
      | inl same ↦ same ∙ sym (eq-eqb y x (sym (eqb-true x y same)))
      | inr other ↦ other ∙ sym (ne_eqb y x (λ e. eqb-false x y other (sym e)))
    ]

module _ (numbers keys sorted : List ℕ) (few : length numbers ≤ MOST_TRANSITIONS) (are : AreKeys numbers keys)
    (moved : IsPermutation keys sorted) (in_order : IsSorted nat_cmp sorted) where
  -- where the key of a place stands
  sorted_of : (i : ℕ) → i < length numbers → (p : ℕ) × (p < length sorted) × (get_or sorted p 0 ≡ get_or numbers i 0 * PLACES + i)
  sorted_of i within =
      let k = get_or keys i 0 in
      let there : Contains keys k = (i, omega (arith, are.long), get_or_default keys i k 0 (omega (arith, are.long))) in
      let found = Contains-permutation keys sorted k moved there in
      (found.0, found.1, get_or_default sorted found.0 0 k found.1 ∙ found.2 ∙ are.each i within)

  -- the place whose key it is
  place_of : (p : ℕ) → p < length sorted → (i : ℕ) × (i < length numbers) × (get_or sorted p 0 ≡ get_or numbers i 0 * PLACES + i)
  place_of p within =
      let k = get_or sorted p 0 in
      let there : Contains sorted k = (p, within, get_or_default sorted p k 0 within) in
      let found = Contains-permutation sorted keys k (IsPermutation-sym keys sorted moved) there in
      let inside : found.0 < length numbers = omega (arith, are.long, found.1) in
      (found.0, inside, sym found.2 ∙ get_or_default keys found.0 k 0 found.1 ∙ are.each found.0 inside)

  no_fall : IsNonDecreasing sorted
  no_fall = IsNonDecreasingBy-from_sort (λ x. x) sorted in_order

  apart : AllPairs ◌≢◌ keys
  apart i j d below inside =
      let left : get_or keys i d ≡ get_or numbers i 0 * PLACES + i =
      get_or_default keys i d 0 (omega arith) ∙ are.each i (omega (arith, are.long))
      in
      let right : get_or keys j d ≡ get_or numbers j 0 * PLACES + j =
      get_or_default keys j d 0 inside ∙ are.each j (omega (arith, are.long))
      in
      λ e. omega (arith, left, right, e, are.long)

  rises : IsStrictlyIncreasing sorted
  rises =
      IsStrictlyIncreasing-from_distinct sorted no_fall
      (IsDistinct-IsPermutation ◌==◌ turned keys sorted moved (IsDistinct-from_AllPairs Decides-eqb keys apart))

  -- the least mark is the first repeat
  pub first-repeats : (mark : ℕ) → IsLeastMark sorted mark → IsFirstRepeat numbers mark
  first-repeats mark h =
      let long : length sorted ≡ length numbers = length_permutation keys sorted moved ∙ are.long in
      record {
        within = omega (arith, h.within);
        once = once-below numbers mark (omega (arith, h.within)) (λ a b below inside same.
            let p = sorted_of a (omega (arith, h.within)) in
            let q = sorted_of b (omega (arith, h.within)) in
            elim (cases_lt p.0 q.0) [
              | inl less ↦
                  let last : q.0 - 1 + 1 ≡ q.0 = omega arith in
                  let low : get_or sorted p.0 0 ≤ get_or sorted (q.0 - 1) 0 = no_fall p.0 (q.0 - 1) 0 (omega arith) (omega (arith, q.1)) in
                  let high : get_or sorted (q.0 - 1) 0 ≤ get_or sorted q.0 0 = no_fall (q.0 - 1) q.0 0 (omega arith) q.1 in
                  let both : get_or sorted (q.0 - 1) 0 / PLACES ≡ get_or sorted q.0 0 / PLACES = omega (arith, p.2, q.2, same, h.within) in
                  let past = h.least (q.0 - 1) (omega (arith, q.1)) (rw last both) in
                  let mark_past : mark ≤ get_or sorted q.0 0 % PLACES = rw last at past in
                  omega (arith, q.2, h.within)
              | inr other ↦
                  let fall : get_or sorted q.0 0 ≤ get_or sorted p.0 0 = no_fall q.0 p.0 0 other p.1 in
                  omega (arith, p.2, q.2, same)
            ]);
        repeats = λ less.
            let found = h.found (omega arith) in
            let k = found.0 in
            let i = place_of k (omega (arith, found.1)) in
            let j = place_of (k + 1) found.1 in
            let is : mark ≡ j.0 = omega (arith, found.3, j.2, j.1) in
            let up : get_or sorted k 0 < get_or sorted (k + 1) 0 = rises k found.1 in
            let same : get_or numbers i.0 0 ≡ get_or numbers j.0 0 = omega (arith, found.2, i.2, j.2, i.1, j.1) in
            (i.0, omega (arith, i.2, j.2), same ∙ ap (λ z. get_or numbers z 0) (sym is));
      }
