-- The rate between two states, by a search for the number of the pair.
use Rattle.std.proofs.Common.{◌≡◌, ◌≢◌, ℕ, zero, suc, ◌<◌, ◌≤◌, ◌==◌, ◌&&◌, ◌^◌, Bool, true, false, cond, List, [], ◌∷◌, length, get_or}
use Rattle.std.proofs.Common.{sum_by, inl, inr, refl, sym, ◌∙◌, ap, subst, eq-eqb, arith}
use Rattle.std.specs.List.{AllPairs, HoldsAt}
use Rattle.std.specs.List.Sorted.{IsNonDecreasingBy, IsPartitionPoint}
use Rattle.std.specs.Ordering.{MatchOrdering, nat_cmp, ordering_index}
use Rattle.std.specs.declared.cmp.Ordering.{Ordering}
use Rattle.std.specs.declared.cmp.Ordering.TheVariants.{Less, Equal, Greater}
use Rattle.std.proofs.lemmas.Bool.{ne_eqb}
use Rattle.std.proofs.lemmas.Bool.Decides.{eqb_tells, leb_tells}
use Rattle.std.proofs.lemmas.Cmp.{ranked}
use Rattle.std.proofs.lemmas.List.{get_or_default}
use Rattle.std.proofs.lemmas.List.Sums.{sum_by-cons}
use Rattle.model_core.specs.declared.rate.Rate.{Rate}
use Rattle.model_core.specs.Pairs.{pair_number}
use Rattle.model_core.specs.Transitions.{rate_between}
use Rattle.model_core.specs.Model.{ModelLists, IsModel}
use Rattle.model_core.proofs.Order.{AllPairs-from_rising, IsNonDecreasingBy-from_order, pair_number-injective}

module _ {X : Type 0} (f : X → ℕ) where
  -- a sum of zeros
  pub sum_by-none : (xs : List X) → ((k : ℕ) (d : X) → k < length xs → f (get_or xs k d) ≡ 0) → sum_by f xs ≡ 0
  sum_by-none [] h = refl
  sum_by-none (x ∷ xs) h = omega (arith, sum_by-cons f x xs, h 0 x (omega arith), sum_by-none xs (λ k d l. h (suc k) d (omega arith)))

  -- a sum in which one place alone is not 0
  pub sum_by-one : (xs : List X) (i : ℕ) (d : X) → i < length xs → ((k : ℕ) (e : X) → k < length xs → k ≢ i → f (get_or xs k e) ≡ 0)
      → sum_by f xs ≡ f (get_or xs i d)
  sum_by-one [] i d l h = absurd (omega arith)
  sum_by-one (x ∷ xs) zero d l h =
      omega (arith, sum_by-cons f x xs, sum_by-none xs (λ k e b. h (suc k) e (omega arith) (λ same. omega (arith, same))))
  sum_by-one (x ∷ xs) (suc i) d l h =
      omega (
        arith,
        sum_by-cons f x xs,
        h 0 x (omega arith) (λ same. omega (arith, same)),
        sum_by-one xs i d (omega arith)
            (λ k e b other. h (suc k) e (omega arith) (λ same. other (omega (arith, same)))),
      )

-- a number under two tests that pass
where_both : (a b : Bool) (x : ℕ) → a ≡ true → b ≡ true → cond (a && b) x 0 ≡ x
where_both true true x e f = refl
where_both true false x e f = cc
where_both false b x e f = cc

-- a number under two tests, of which the first fails
where_first_not : (a b : Bool) (x : ℕ) → a ≡ false → cond (a && b) x 0 ≡ 0
where_first_not true b x e = cc
where_first_not false b x e = refl

-- a number under two tests, of which the second fails
where_second_not : (a b : Bool) (x : ℕ) → b ≡ false → cond (a && b) x 0 ≡ 0
where_second_not true true x e = cc
where_second_not true false x e = refl
where_second_not false b x e = refl

-- what a transition between another pair of states adds to the rate
other_pair : (r : Rate) (s t : ℕ) → pair_number r.from r.to ≢ pair_number s t → cond ((r.from == s) && (r.to == t)) r.rate 0 ≡ 0
other_pair r s t other =
    elim (eqb_tells r.from s) [
      | inr not_from ↦ where_first_not (r.from == s) (r.to == t) r.rate not_from.0
      | inl same_from ↦
          where_second_not (r.from == s) (r.to == t) r.rate (ne_eqb r.to t (λ same_to. other (omega (arith, same_from.1, same_to))))
    ]

-- no transition between the two states
pub rate_between-none : (rates : List Rate) (s t : ℕ)
    → ((k : ℕ) (d : Rate) → k < length rates → pair_number (get_or rates k d).from (get_or rates k d).to ≢ pair_number s t)
    → rate_between rates s t ≡ 0
rate_between-none rates s t h =
    sum_by-none (λ (r : Rate). cond ((r.from == s) && (r.to == t)) r.rate 0) rates (λ k d l. other_pair (get_or rates k d) s t (h k d l))

-- the transition between the two states
pub rate_between-found : (rates : List Rate) (s t i : ℕ) (d : Rate)
    → AllPairs (λ x y. pair_number x.from x.to < pair_number y.from y.to) rates → i < length rates → (get_or rates i d).from ≡ s
    → (get_or rates i d).to ≡ t → rate_between rates s t ≡ (get_or rates i d).rate
rate_between-found rates s t i d order l from to =
    let here : (e : Rate) → pair_number (get_or rates i e).from (get_or rates i e).to ≡ pair_number s t =
    λ e. rw (get_or_default rates i e d l, from, to) refl
    in
    sum_by-one (λ (r : Rate). cond ((r.from == s) && (r.to == t)) r.rate 0) rates i d l
    (λ k e b other. other_pair (get_or rates k e) s t
    (elim (leb_tells k i) [
      | inl before ↦ let rises = order k i e (omega (arith, before.1, other)) l in λ same. omega (arith, rises, same, here e)
      | inr after ↦ let rises = order i k e after.1 b in λ same. omega (arith, rises, same, here e)
    ]))
    ∙ where_both _ _ _ (eq-eqb _ _ from) (eq-eqb _ _ to)

-- a greater number compares no lower
index_rises : (a b v : ℕ) (r q : Ordering) → a ≤ b → MatchOrdering r (a < v) (a ≡ v) (v < a) → MatchOrdering q (b < v) (b ≡ v) (v < b)
    → ordering_index r ≤ ordering_index q
index_rises a b v Less q l h k = omega arith
index_rises a b v Equal Less l h k = absurd (omega (arith, h, k))
index_rises a b v Equal Equal l h k = omega arith
index_rises a b v Equal Greater l h k = omega arith
index_rises a b v Greater Less l h k = absurd (omega (arith, h, k))
index_rises a b v Greater Equal l h k = absurd (omega (arith, h, k))
index_rises a b v Greater Greater l h k = omega arith

-- a number that compares lower is another
less_differs : (a v : ℕ) → nat_cmp a v ≡ Less → a ≢ v
less_differs a v e = let l : a < v = ranked a v Less (sym e) in λ same. omega (arith, same)

-- a number that compares greater is another
greater_differs : (a v : ℕ) → nat_cmp a v ≡ Greater → a ≢ v
greater_differs a v e = let l : v < a = ranked a v Greater (sym e) in λ same. omega (arith, same)

-- what a search for the number of a pair says of the rate between the two states
pub rate_at_place : (model : ModelLists) (s t i : ℕ) (d : Rate) → IsModel model → t < 2 ^ 32 → i < length model.rates
    → HoldsAt (λ r. nat_cmp (pair_number r.from r.to) (pair_number s t) ≡ Equal) model.rates i
    → rate_between model.rates s t ≡ (get_or model.rates i d).rate
rate_at_place model s t i d m small l found =
    let r : Rate = get_or model.rates i d in
    let same : pair_number r.from r.to ≡ pair_number s t = ranked (pair_number r.from r.to) (pair_number s t) Equal (sym (found d)) in
    let pair = pair_number-injective r.from r.to s t (omega (arith, (m.tra.transitions i d l).to_within, m.tra.few_states)) small same in
    rate_between-found model.rates s t i d
    (AllPairs-from_rising (λ (x : Rate). pair_number x.from x.to) model.rates m.order) l pair.0 pair.1

-- where the search finds no place, the rate is 0
pub rate_at_none : (model : ModelLists) (s t i : ℕ) → IsModel model
    → (IsNonDecreasingBy (λ r. ordering_index (nat_cmp (pair_number r.from r.to) (pair_number s t))) model.rates → IsPartitionPoint
    (λ r. nat_cmp (pair_number r.from r.to) (pair_number s t) ≡ Less) (λ r. nat_cmp (pair_number r.from r.to) (pair_number s t) ≡ Greater)
    model.rates i)
    → rate_between model.rates s t ≡ 0
rate_at_none model s t i m searched =
    let number : ℕ = pair_number s t in
    let at : ℕ → Rate → ℕ = λ k d. pair_number (get_or model.rates k d).from (get_or model.rates k d).to in
    let point : IsPartitionPoint (λ (r : Rate). nat_cmp (pair_number r.from r.to) number ≡ Less)
    (λ (r : Rate). nat_cmp (pair_number r.from r.to) number ≡ Greater) model.rates i =
    searched
    (λ k j d l b. index_rises (at k d) (at j d) number (nat_cmp (at k d) number) (nat_cmp (at j d) number)
    (IsNonDecreasingBy-from_order model.rates m.order k j d l b) (ranked (at k d) number _ refl) (ranked (at j d) number _ refl)) in
    rate_between-none model.rates s t
    (λ k d b. elim (leb_tells i k) [
      | inl after ↦ greater_differs (at k d) number (point.1 k d after.1 b)
      | inr before ↦ less_differs (at k d) number (point.0 k d (omega arith) before.1)
    ])

-- the same of lists and numbers that are equal to a model's
module _ (inside model : ModelLists) (s t number : ℕ) (rates : List Rate) (same : inside ≡ model) (m : IsModel inside)
    (all : rates ≡ inside.rates) (is : number ≡ pair_number s t) where
  -- the search found the transition
  pub found_rate : (i : ℕ) (r : Rate) → t < 2 ^ 32 → i < length rates
      → HoldsAt (λ x. nat_cmp (pair_number x.from x.to) number ≡ Equal) rates i → r ≡ get_or inside.rates i r
      → r.rate ≡ rate_between model.rates s t
  found_rate i r small l found here =
      let holds : HoldsAt (λ x. nat_cmp (pair_number x.from x.to) (pair_number s t) ≡ Equal) inside.rates i =
      subst (λ (n : ℕ). HoldsAt (λ x. nat_cmp (pair_number x.from x.to) n ≡ Equal) inside.rates i) is
      (subst (λ (xs : List Rate). HoldsAt (λ x. nat_cmp (pair_number x.from x.to) number ≡ Equal) xs i) all found) in
      ap (λ (x : Rate). x.rate) here
      ∙ sym (rate_at_place inside s t i r m small (subst (λ (xs : List Rate). i < length xs) all l) holds)
      ∙ ap (λ (lists : ModelLists). rate_between lists.rates s t) same

  -- the search found none
  pub no_rate : (i : ℕ)
      → (IsNonDecreasingBy (λ r. ordering_index (nat_cmp (pair_number r.from r.to) number)) rates → IsPartitionPoint
      (λ r. nat_cmp (pair_number r.from r.to) number ≡ Less) (λ r. nat_cmp (pair_number r.from r.to) number ≡ Greater) rates i)
      → 0 ≡ rate_between model.rates s t
  no_rate i searched =
      let claim : ℕ → List Rate → Type 0 =
      λ n xs. IsNonDecreasingBy (λ (r : Rate). ordering_index (nat_cmp (pair_number r.from r.to) n)) xs → IsPartitionPoint
      (λ (r : Rate). nat_cmp (pair_number r.from r.to) n ≡ Less) (λ (r : Rate). nat_cmp (pair_number r.from r.to) n ≡ Greater) xs i
      in
      sym
      (rate_at_none inside s t i m (subst (λ (n : ℕ). claim n inside.rates) is (subst (λ (xs : List Rate). claim number xs) all searched)))
      ∙ ap (λ (lists : ModelLists). rate_between lists.rates s t) same
