-- The rates out of each state, added up line by line.
use Rattle.std.proofs.Common.{◌≡◌, ◌≢◌, ℕ, ◌+◌, ◌-◌, ◌<◌, ◌≤◌, inl, inr, Bool, true, false, ◌==◌, if◌then◌else◌, nat_lt, List, [], ◌∷◌}
use Rattle.std.proofs.Common.{◌++◌, ap, refl, sym, subst, ◌∙◌, append_assoc, arith}
use Rattle.std.specs.List.{filter}
use Rattle.std.proofs.lemmas.Bool.{cases_lt, cases_eq, lt-ltb, le-ltb, ltb-true, ltb-false, cond-true, cond-false, ne_eqb}
use Rattle.std.proofs.lemmas.List.Sums.{sum_by-append, sum_by-cons}
use Rattle.model_core.specs.Transitions.{exit_sum}
use Rattle.model_core.specs.declared.rate.Rate.{Rate}
use Rattle.model_core.specs.declared.limits.TheConstants.{AMOUNT_LIMIT}
use Rattle.text_lines.proofs.PastCases.{IsLimit}
use Rattle.tra_reader.specs.Entries.{Transition}
use Rattle.tra_reader.specs.TraText.{AreWithin, HasTooLarge, scaled_rate, scaled_rates, chain_rates}

-- the rates of these entries out of s, at a scale
abbrev pub total : ℕ → List Transition → ℕ → ℕ
total d entries s = exit_sum (scaled_rates d entries) s

abbrev rate_out : ℕ → Rate → ℕ
rate_out s r = if r.from == s then r.rate else 0

scaled-append : (d : ℕ) (es fs : List Transition) → scaled_rates d (es ++ fs) ≡ scaled_rates d es ++ scaled_rates d fs
scaled-append d [] fs = refl
scaled-append d (e ∷ es) fs = ap (λ z. scaled_rate d e ∷ z) (scaled-append d es fs)

pub total-append : (d : ℕ) (es fs : List Transition) (s : ℕ) → total d (es ++ fs) s ≡ total d es s + total d fs s
total-append d es fs s =
    ap (λ z. exit_sum z s) (scaled-append d es fs) ∙ sum_by-append (rate_out s) (scaled_rates d es) (scaled_rates d fs)

-- an entry that leaves another state adds nothing
pub total-other : (d : ℕ) (es : List Transition) (e : Transition) (s : ℕ) → e.key.from - 1 ≢ s → total d (es ++ e ∷ []) s ≡ total d es s
total-other d es e s n =
    let one : total d (e ∷ []) s ≡ 0 = ap (λ b. 0 + (if b then (scaled_rate d e).rate else 0)) (ne_eqb (e.key.from - 1) s n) in
    omega (arith, total-append d es (e ∷ []) s, one)

-- entries at the front have no more than all
pub total-front : (d : ℕ) (before : List Transition) (e : Transition) (es : List Transition) (s : ℕ)
    → total d (before ++ e ∷ []) s ≤ total d (before ++ e ∷ es) s
total-front d before e es s =
    let joined : (before ++ e ∷ []) ++ es ≡ before ++ e ∷ es = append_assoc before (e ∷ []) es in
    omega (arith, total-append d (before ++ e ∷ []) es s, ap (λ z. total d z s) joined)

-- the transitions whose rate is 0 count for nothing
filtered : (rates : List Rate) (s : ℕ) → exit_sum (filter (λ r. nat_lt 0 r.rate) rates) s ≡ exit_sum rates s
filtered [] s = refl
filtered (r ∷ rs) s =
    let rest = filter (λ (r : Rate). nat_lt 0 r.rate) rs in
    elim (cases_lt 0 r.rate) [
      | inl some ↦
          ap (λ z. exit_sum z s) (cond-true (nat_lt 0 r.rate) (r ∷ rest) rest (lt-ltb 0 r.rate some))
          ∙ sum_by-cons (rate_out s) r rest
          ∙ ap (λ z. rate_out s r + z) (filtered rs s)
          ∙ sym (sum_by-cons (rate_out s) r rs)
      | inr none ↦
          let zero_rate : rate_out s r ≡ 0 = nothing (r.from == s) r.rate (omega arith) in
          ap (λ z. exit_sum z s) (cond-false (nat_lt 0 r.rate) (r ∷ rest) rest (le-ltb 0 r.rate none))
          ∙ filtered rs s
          ∙ (let split =
          sum_by-cons (rate_out s) r rs in let same : exit_sum rs s ≡ exit_sum (r ∷ rs) s = omega (arith, split, zero_rate) in same)
    ]
  where
    nothing : (b : Bool) (n : ℕ) → n ≡ 0 → (if b then n else 0) ≡ 0
    nothing true n e = e
    nothing false n e = refl

pub exit_sum-chain : (d : ℕ) (entries : List Transition) (s : ℕ) → exit_sum (chain_rates d entries) s ≡ total d entries s
exit_sum-chain d entries s = filtered (scaled_rates d entries) s

-- a sum can only pass the limit at the state that the entry leaves
only_there : (d : ℕ) (before : List Transition) (e : Transition) (s : ℕ) → total d before s < AMOUNT_LIMIT
    → AMOUNT_LIMIT ≤ total d (before ++ e ∷ []) s → AMOUNT_LIMIT ≤ total d (before ++ e ∷ []) (e.key.from - 1)
only_there d before e s within past =
    elim (cases_eq (e.key.from - 1) s) [
      | inl same ↦ subst (λ z. AMOUNT_LIMIT ≤ total d (before ++ e ∷ []) z) (sym same) past
      | inr other ↦ absurd (omega (arith, within, past, total-other d before e s other))
    ]

-- within the limit with the entry too
within_more : (d : ℕ) (before : List Transition) (e : Transition) → AreWithin d before
    → total d (before ++ e ∷ []) (e.key.from - 1) < AMOUNT_LIMIT → AreWithin d (before ++ e ∷ [])
within_more d before e h l s =
    elim (cases_eq (e.key.from - 1) s) [
      | inl same ↦ subst (λ z. total d (before ++ e ∷ []) z < AMOUNT_LIMIT) same l
      | inr other ↦ omega (arith, h s, total-other d before e s other)
    ]

-- the limit of the sums, one entry after another
pub rate_limit : (d : ℕ) → IsLimit (AreWithin d) (HasTooLarge d)
rate_limit d = record {
  none = λ s. omega arith;
  fits = λ es e. nat_lt (total d (es ++ e ∷ []) (e.key.from - 1)) AMOUNT_LIMIT;
  more = λ es e h t. within_more d es e h (ltb-true (total d (es ++ e ∷ []) (e.key.from - 1)) AMOUNT_LIMIT t);
  over = λ es e f. (e.key.from - 1, ltb-false (total d (es ++ e ∷ []) (e.key.from - 1)) AMOUNT_LIMIT f);
  front = λ es e fs h.
      lt-ltb (total d (es ++ e ∷ []) (e.key.from - 1)) AMOUNT_LIMIT
      (omega (arith, total-front d es e fs (e.key.from - 1), h (e.key.from - 1)));
  past = λ es e h large. le-ltb (total d (es ++ e ∷ []) (e.key.from - 1)) AMOUNT_LIMIT (only_there d es e large.0 (h large.0) large.1);
}
