-- Walks are found exactly where they lead.
use Rattle.std.proofs.Common.{◌≡◌, ℕ, zero, suc, ◌≤◌, ◌<◌, inl, inr, Bool, IsTrue, sym, ◌∙◌, subst, zero-add, arith}
use Rattle.std.proofs.lemmas.Bool.{and_parts, and_from, or_cases, or_left, or_right, ltb-true, lt-ltb, cases_eq}
use Rattle.std.proofs.lemmas.List.Folds.{Any-from_list_any, list_any_at}
use Rattle.std.proofs.lemmas.List.FromFn.{get_or-range_with_len, length-range_with_len}
use Rattle.std.specs.List.{list_any, range_with_len}
use Rattle.std.specs.Prelude.{◌&&◌, ◌↔◌, nat_lt}
use Rattle.step_core.specs.Walk.{Walk, arrives, goes}
use Rattle.step_core.specs.WalkFound.{leads, can_reach}

-- ---- a number below n that passes
record Passing (n : ℕ) (p : ℕ → Bool) : Type 0 where
  place : ℕ
  inside : place < n
  passes : IsTrue (p place)

passing : (n : ℕ) (p : ℕ → Bool) → IsTrue (list_any p (range_with_len 0 n)) → Passing n p
passing n p h =
    let found = Any-from_list_any p (range_with_len 0 n) h in
    let inside : found.0 < n = omega (arith, found.2, length-range_with_len 0 n) in
    let is : found.1 ≡ found.0 = sym found.3 ∙ get_or-range_with_len 0 n found.0 _ inside ∙ zero-add found.0 in
    record { place = found.0; inside = inside; passes = subst (λ t. IsTrue (p t)) is found.4 }

passes_below : (n : ℕ) (p : ℕ → Bool) (t : ℕ) → t < n → IsTrue (p t) → IsTrue (list_any p (range_with_len 0 n))
passes_below n p t l h =
    list_any_at p (range_with_len 0 n) t 0 (omega (arith, l, length-range_with_len 0 n))
    (subst (λ u. IsTrue (p u)) (sym (get_or-range_with_len 0 n t 0 l ∙ zero-add t)) h)

module _ (weight : ℕ → ℕ → ℕ) (live : ℕ → Bool) where
  -- ---- what is found leads
  pub walks_on : (n : ℕ) (goal : ℕ → Bool) (k s t : ℕ) → k ≤ n → t < n → IsTrue (leads weight live k s t) → Walk n weight live goal t
      → Walk n weight live goal s
  unfolding leads
  walks_on n goal zero s t few inside h walk =
      let parts = and_parts (live s) (nat_lt 0 (weight s t)) h in
      goes parts.0 inside (ltb-true 0 (weight s t) parts.1) walk
  walks_on n goal (suc k) s t few inside h walk =
      elim (or_cases (leads weight live k s t) (leads weight live k s k && leads weight live k k t) h) [
        | inl past ↦ walks_on n goal k s t (omega arith) inside past walk
        | inr over ↦ (
            let parts = and_parts (leads weight live k s k) (leads weight live k k t) over in
            walks_on n goal k s k (omega arith) (omega arith) parts.0 (walks_on n goal k k t (omega arith) inside parts.1 walk))
      ]

  -- ---- what leads is found
  -- more states between
  more_between : (k s t : ℕ) → IsTrue (leads weight live k s t) → IsTrue (leads weight live (suc k) s t)
  unfolding leads
  more_between k s t h = or_left (leads weight live k s t) _ h

  over_last : (k s t : ℕ) → IsTrue (leads weight live k s k) → IsTrue (leads weight live k k t) → IsTrue (leads weight live (suc k) s t)
  unfolding leads
  over_last k s t g h = or_right (leads weight live k s t) _ (and_from (leads weight live k s k) (leads weight live k k t) g h)

  from_start : (k s t : ℕ) → IsTrue (live s) → 0 < weight s t → IsTrue (leads weight live k s t)
  unfolding leads
  from_start zero s t is_live positive = and_from (live s) (nat_lt 0 (weight s t)) is_live (lt-ltb 0 (weight s t) positive)
  from_start (suc k) s t is_live positive = more_between k s t (from_start k s t is_live positive)

  -- to the state that was let in last, and from it, nothing new leads
  to_last : (k s : ℕ) → IsTrue (leads weight live (suc k) s k) → IsTrue (leads weight live k s k)
  unfolding leads
  to_last k s h =
      elim (or_cases (leads weight live k s k) _ h) [
        | inl past ↦ past
        | inr over ↦ (and_parts (leads weight live k s k) _ over).0
      ]

  from_last : (k t : ℕ) → IsTrue (leads weight live (suc k) k t) → IsTrue (leads weight live k k t)
  unfolding leads
  from_last k t h =
      elim (or_cases (leads weight live k k t) _ h) [
        | inl past ↦ past
        | inr over ↦ (and_parts (leads weight live k k k) _ over).1
      ]

  -- what leads to one of the first k states, and from there, leads over it
  joined : (k s u t : ℕ) → u < k → IsTrue (leads weight live k s u) → IsTrue (leads weight live k u t) → IsTrue (leads weight live k s t)
  unfolding leads
  joined zero s u t l g h = absurd (omega arith)
  joined (suc k) s u t l g h =
      elim (cases_eq u k) [
        | inl is ↦ (
            over_last k s t (to_last k s (subst (λ v. IsTrue (leads weight live (suc k) s v)) is g))
            (from_last k t (subst (λ v. IsTrue (leads weight live (suc k) v t)) is h)))
        | inr other ↦ (
            let below : u < k = omega (arith, l, other) in
            elim (or_cases (leads weight live k s u) _ g) [
              | inl first ↦ (
                  elim (or_cases (leads weight live k u t) _ h) [
                    | inl second ↦ more_between k s t (joined k s u t below first second)
                    | inr over ↦ (
                        let parts = and_parts (leads weight live k u k) (leads weight live k k t) over in
                        over_last k s t (joined k s u k below first parts.0) parts.1)
                  ])
              | inr over ↦ (
                  let parts = and_parts (leads weight live k s k) (leads weight live k k u) over in
                  elim (or_cases (leads weight live k u t) _ h) [
                    | inl second ↦ over_last k s t parts.0 (joined k k u t below parts.1 second)
                    | inr again ↦ over_last k s t parts.0 (and_parts (leads weight live k u k) (leads weight live k k t) again).1
                  ])
            ])
      ]

-- ---- a walk is found exactly where one leads
module _ (n : ℕ) (weight : ℕ → ℕ → ℕ) (live goal : ℕ → Bool) where
  abbrev ends : ℕ → ℕ → Bool
  ends s t = leads weight live n s t && goal t

  pub walk_of : (s : ℕ) → IsTrue (can_reach n weight live goal s) → Walk n weight live goal s
  unfolding can_reach
  walk_of s h =
      elim (or_cases (goal s) (list_any (ends s) (range_with_len 0 n)) h) [
        | inl here ↦ arrives here
        | inr there ↦ (
            let last = passing n (ends s) there in
            let parts = and_parts (leads weight live n s last.place) (goal last.place) last.passes in
            walks_on weight live n goal n s last.place (omega arith) last.inside parts.0 (arrives parts.1))
      ]

  one_more : (s t : ℕ) → IsTrue (live s) → t < n → 0 < weight s t → IsTrue (can_reach n weight live goal t)
      → IsTrue (can_reach n weight live goal s)
  unfolding can_reach
  one_more s t is_live inside positive h =
      let first = from_start weight live n s t is_live positive in
      or_right (goal s) (list_any (ends s) (range_with_len 0 n))
      (elim (or_cases (goal t) (list_any (ends t) (range_with_len 0 n)) h) [
        | inl here ↦ passes_below n (ends s) t inside (and_from (leads weight live n s t) (goal t) first here)
        | inr there ↦ (
            let last = passing n (ends t) there in
            let parts = and_parts (leads weight live n t last.place) (goal last.place) last.passes in
            passes_below n (ends s) last.place last.inside
            (and_from (leads weight live n s last.place) (goal last.place) (joined weight live n s t last.place inside first parts.0)
            parts.1))
      ])

  pub found_of : (s : ℕ) → Walk n weight live goal s → IsTrue (can_reach n weight live goal s)
  unfolding can_reach
  found_of s (arrives here) = or_left (goal s) _ here
  found_of s (goes {t} is_live inside positive walk) = one_more s t is_live inside positive (found_of t walk)

pub walks_are_found : (n : ℕ) (weight : ℕ → ℕ → ℕ) (live goal : ℕ → Bool) (s : ℕ)
    → IsTrue (can_reach n weight live goal s) ↔ Walk n weight live goal s
walks_are_found n weight live goal s = (walk_of n weight live goal s, found_of n weight live goal s)
