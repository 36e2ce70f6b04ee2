-- The rates at the scale, one entry after another.
use Rattle.std.proofs.Common.{◌≡◌, ℕ, ◌+◌, ◌-◌, ◌<◌, ◌≤◌, Bool, true, false, cond, List, [], ◌∷◌, ◌++◌, length, map, take, set, replicate}
use Rattle.std.proofs.Common.{get_or, inl, inr, refl, sym, ap, subst, ◌∙◌, arith}
use Rattle.std.proofs.lemmas.Bool.{cases_eq, eq-eqb, ne_eqb}
use Rattle.std.proofs.lemmas.List.{map-append, append-nil, take_all, get_or_default, get_or-set_same, get_or-set_other, length-set}
use Rattle.std.proofs.lemmas.List.{length-replicate, get_or-replicate}
use Rattle.std.proofs.lemmas.List.Elements.{All-nil, All-cons, filter-append}
use Rattle.std.proofs.lemmas.List.Sums.{sum_by_push, sum_by-cons}
use Rattle.std.specs.Bool.{◌==◌, nat_lt}
use Rattle.std.specs.List.{All, filter, sum_by}
use Rattle.decimal_text.specs.Scale.{scaled}
use Rattle.model_core.specs.Transitions.{exit_sum}
use Rattle.model_core.specs.declared.limits.TheConstants.{AMOUNT_LIMIT}
use Rattle.model_core.specs.declared.rate.Rate.{Rate}
use Rattle.text_lines.proofs.EntryScales.{map-more}
use Rattle.text_lines.specs.EntryLines.{value_of, entry_of, entries_of}
use Rattle.text_lines.specs.declared.entry_line.EntryLine.{EntryLine}
use Rattle.tra_reader.specs.Entries.{Transition}
use Rattle.tra_reader.specs.Pairs.{pair_of}
use Rattle.tra_reader.specs.Rates.{IsFirstLarge}
use Rattle.tra_reader.specs.TraText.{AreWithin, scaled_rate, scaled_rates, chain_rates}
use Rattle.tra_reader.specs.declared.entry.Pair.{Pair}

-- the entry that is kept
abbrev entry : EntryLine Pair → Transition
entry e = entry_of pair_of e

abbrev entries : List (EntryLine Pair) → List Transition
entries es = entries_of pair_of es

-- its rate at the scale
abbrev pub rate_at : ℕ → EntryLine Pair → ℕ
rate_at scale e = scaled scale (value_of e)

-- the rates out of the state at the scale, added up
abbrev sum_of : ℕ → List (EntryLine Pair) → ℕ → ℕ
sum_of scale es s = exit_sum (scaled_rates scale (entries es)) s

-- ---- with one entry more

rates-more : (scale : ℕ) (es : List (EntryLine Pair)) (i : ℕ) (d : EntryLine Pair) → i < length es
    → scaled_rates scale (entries (take (i + 1) es)) ≡ scaled_rates scale (entries (take i es)) ++ scaled_rate scale
    (entry (get_or es i d)) ∷ []
rates-more scale es i d within =
    ap (map (scaled_rate scale)) (map-more (entry_of pair_of) es i d within)
    ∙ map-append (scaled_rate scale) (entries (take i es)) (entry (get_or es i d) ∷ [])

-- what a transition adds to the sum of a state
abbrev pick : ℕ → Rate → ℕ
pick s r = cond (r.from == s) r.rate 0

pick-here : (s : ℕ) (r : Rate) → r.from ≡ s → pick s r ≡ r.rate
pick-here s r e = ap (λ b. cond b r.rate 0) (eq-eqb r.from s e)

pick-elsewhere : (s : ℕ) (r : Rate) → (r.from ≡ s → ⊥) → pick s r ≡ 0
pick-elsewhere s r n = ap (λ b. cond b r.rate 0) (ne_eqb r.from s n)

sum_of-more : (scale : ℕ) (es : List (EntryLine Pair)) (i : ℕ) (d : EntryLine Pair) (s : ℕ) → i < length es
    → sum_of scale (take (i + 1) es) s ≡ sum_of scale (take i es) s + pick s (scaled_rate scale (entry (get_or es i d)))
sum_of-more scale es i d s within =
    ap (sum_by (pick s)) (rates-more scale es i d within)
    ∙ sum_by_push (pick s) (scaled_rates scale (entries (take i es))) (scaled_rate scale (entry (get_or es i d)))

sum_of-same : (scale : ℕ) (es : List (EntryLine Pair)) (i : ℕ) (d : EntryLine Pair) → i < length es
    → sum_of scale (take (i + 1) es) (get_or es i d).key.from ≡ sum_of scale (take i es) (get_or es i d).key.from + rate_at scale
    (get_or es i d)
sum_of-same scale es i d within =
    let e = get_or es i d in
    sum_of-more scale es i d e.key.from within
    ∙ ap (λ z. sum_of scale (take i es) e.key.from + z) (pick-here e.key.from (scaled_rate scale (entry e)) (omega arith))

sum_of-other : (scale : ℕ) (es : List (EntryLine Pair)) (i : ℕ) (d : EntryLine Pair) (s : ℕ) → i < length es
    → ((get_or es i d).key.from ≡ s → ⊥)
    → sum_of scale (take (i + 1) es) s ≡ sum_of scale (take i es) s
sum_of-other scale es i d s within other =
    let e = get_or es i d in
    let none : pick s (scaled_rate scale (entry e)) ≡ 0 = pick-elsewhere s (scaled_rate scale (entry e)) (λ same. other (omega arith)) in
    omega (arith, sum_of-more scale es i d s within)

-- ---- the sums of the states below n, each below `2^63`

pub record AreSums (scale n : ℕ) (es : List (EntryLine Pair)) (sums : List ℕ) : Type 0 where
  pub long : length sums ≡ n
  pub each : (s : ℕ) → s < n → get_or sums s 0 ≡ sum_of scale es s
  pub below : (s : ℕ) → sum_of scale es s < AMOUNT_LIMIT

-- no sums at first
pub sums-none : (scale n : ℕ) (sums : List ℕ) → sums ≡ replicate n 0 → AreSums scale n [] sums
sums-none scale n sums is = record {
  long = ap length is ∙ length-replicate n 0;
  each = λ s within. ap (λ z. get_or z s 0) is ∙ get_or-replicate n s 0 0 within;
  below = λ s. omega arith;
}

-- the sum out of the state of the entry at i, with it
pub record IsNextSum (scale n : ℕ) (es : List (EntryLine Pair)) (i : ℕ) (d : EntryLine Pair) (sums : List ℕ) (sum : ℕ) : Type 0 where
  pub within : i < length es
  pub state : (get_or es i d).key.from < n
  pub is : sum ≡ get_or sums (get_or es i d).key.from 0 + rate_at scale (get_or es i d)
  pub before : AreSums scale n (take i es) sums

-- as the code adds it up: from is the state, and old the sum so far, which the code reads with some default
pub next_sum : (scale n : ℕ) (es : List (EntryLine Pair)) (i : ℕ) (d : EntryLine Pair) (sums : List ℕ) (from old default value : ℕ)
    → i < length es
    → (get_or es i d).key.from < n → AreSums scale n (take i es) sums → from ≡ (get_or es i d).key.from → old ≡ get_or sums from default
    → value ≡ rate_at scale (get_or es i d) → IsNextSum scale n es i d sums (old + value)
next_sum scale n es i d sums from old default value within state before from_is old_is value_is =
    let s = (get_or es i d).key.from in
    let here : old ≡ get_or sums s 0 =
    old_is ∙ ap (λ z. get_or sums z default) from_is ∙ get_or_default sums s default 0 (omega (arith, state, before.long))
    in
    record { within = within; state = state; is = omega (arith, here, value_is); before = before }

module _ (scale n : ℕ) (es : List (EntryLine Pair)) (i : ℕ) (d : EntryLine Pair) (sums : List ℕ) (sum : ℕ)
    (next : IsNextSum scale n es i d sums sum) where
  -- it stays below the limit
  pub sums-more : sum < AMOUNT_LIMIT → AreSums scale n (take (i + 1) es) (set sums (get_or es i d).key.from sum)
  sums-more small =
      let from = (get_or es i d).key.from in
      let h = next.before in
      let here : sum ≡ sum_of scale (take (i + 1) es) from =
      omega (arith, next.is, h.each from next.state, sum_of-same scale es i d next.within)
      in
      record {
        long = length-set sums from sum ∙ h.long;
        each = λ s in_range. elim (cases_eq from s) [
          | inl same ↦
              let at_from : get_or (set sums from sum) from 0 ≡ sum_of scale (take (i + 1) es) from =
              get_or-set_same sums from sum 0 (omega (arith, h.long, next.state)) ∙ here
              in
              rw (← same) at_from
          | inr other ↦
              get_or-set_other sums from s sum 0 (λ e. other (sym e))
              ∙ h.each s in_range
              ∙ sym (sum_of-other scale es i d s next.within other)
        ];
        below = λ s. elim (cases_eq from s) [
          | inl same ↦
              let at_from : sum_of scale (take (i + 1) es) from < AMOUNT_LIMIT = omega (arith, here, small) in
              rw (← same) at_from
          | inr other ↦ omega (arith, sum_of-other scale es i d s next.within other, h.below s)
        ];
      }

  -- it goes past it
  pub sums-past : AMOUNT_LIMIT ≤ sum → IsFirstLarge scale es i
  sums-past large =
      let from = (get_or es i d).key.from in
      record {
        there = next.within;
        within = next.before.below;
        past = (from, omega (arith, large, next.is, next.before.each from next.state, sum_of-same scale es i d next.within));
      }

-- no sum goes past it
pub sums-all : (scale n i : ℕ) (es : List (EntryLine Pair)) (sums : List ℕ) → length es ≤ i → AreSums scale n (take i es) sums
    → AreWithin scale (entries es)
sums-all scale n i es sums end h = subst (λ z. AreWithin scale (entries z)) (take_all i es end) h.below

-- ---- the transitions of the chain

-- the transition that is pushed
abbrev pub kept_rate : ℕ → EntryLine Pair → Rate
kept_rate scale e = record { from = e.key.from; to = e.key.to; rate = rate_at scale e }

scaled-kept : (scale : ℕ) (e : EntryLine Pair) → scaled_rate scale (entry e) ≡ kept_rate scale e
scaled-kept scale e =
    let with_from : ℕ → Rate = λ z. record { from = z; to = e.key.to + 1 - 1; rate = rate_at scale e } in
    let with_to : ℕ → Rate = λ z. record { from = e.key.from; to = z; rate = rate_at scale e } in
    let from : e.key.from + 1 - 1 ≡ e.key.from = omega arith in
    let to : e.key.to + 1 - 1 ≡ e.key.to = omega arith in
    ap with_from from ∙ ap with_to to

abbrev is_some : Rate → Bool
is_some r = nat_lt 0 r.rate

chain-more : (scale : ℕ) (es : List (EntryLine Pair)) (i : ℕ) (d : EntryLine Pair) → i < length es
    → chain_rates scale (entries (take (i + 1) es)) ≡ chain_rates scale (entries (take i es)) ++ filter is_some
    (kept_rate scale (get_or es i d) ∷ [])
chain-more scale es i d within =
    let e = get_or es i d in
    let before = scaled_rates scale (entries (take i es)) in
    ap (filter is_some) (rates-more scale es i d within)
    ∙ filter-append is_some before (scaled_rate scale (entry e) ∷ [])
    ∙ ap (λ z. filter is_some before ++ filter is_some (z ∷ [])) (scaled-kept scale e)

pub chain-kept : (scale : ℕ) (es : List (EntryLine Pair)) (i : ℕ) (d : EntryLine Pair) → i < length es
    → nat_lt 0 (rate_at scale (get_or es i d)) ≡ true
    → chain_rates scale (entries (take (i + 1) es)) ≡ chain_rates scale (entries (take i es)) ++ kept_rate scale (get_or es i d) ∷ []
chain-kept scale es i d within some =
    let r = kept_rate scale (get_or es i d) in
    chain-more scale es i d within ∙ ap (λ b. chain_rates scale (entries (take i es)) ++ cond b (r ∷ []) []) some

pub chain-dropped : (scale : ℕ) (es : List (EntryLine Pair)) (i : ℕ) (d : EntryLine Pair) → i < length es
    → nat_lt 0 (rate_at scale (get_or es i d)) ≡ false
    → chain_rates scale (entries (take (i + 1) es)) ≡ chain_rates scale (entries (take i es))
chain-dropped scale es i d within none =
    let r = kept_rate scale (get_or es i d) in
    let before = chain_rates scale (entries (take i es)) in
    chain-more scale es i d within ∙ (ap (λ b. before ++ cond b (r ∷ []) []) none ∙ append-nil before)

-- how the code writes the element past a list's end
abbrev pub no_entry : EntryLine Pair
no_entry = record { line = 0; digits = 0; decimals = 0; key = record { from = 0; to = 0 } }

-- each rate is at most the sum of its state's
pub rates-fit : (scale : ℕ) (es : List (EntryLine Pair)) → AreWithin scale (entries es) → All (λ e. rate_at scale e < AMOUNT_LIMIT) es
rates-fit scale [] below = All-nil (λ e. rate_at scale e < AMOUNT_LIMIT)
rates-fit scale (e ∷ es) below =
    let from = e.key.from + 1 - 1 in
    let itself : pick from (scaled_rate scale (entry e)) ≡ rate_at scale e = pick-here from (scaled_rate scale (entry e)) refl in
    let first = λ (s : ℕ). sum_by-cons (pick s) (scaled_rate scale (entry e)) (scaled_rates scale (entries es)) in
    All-cons (λ x. rate_at scale x < AMOUNT_LIMIT) e es (omega (arith, itself, below from, first from))
    (rates-fit scale es (λ s. omega (arith, below s, first s)))
