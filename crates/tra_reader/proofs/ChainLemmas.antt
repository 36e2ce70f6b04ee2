-- The chain of entries keeps the limits of a chain.
use Rattle.std.proofs.Common.{◌≡◌, ◌≢◌, ℕ, suc, ◌<◌, ◌≤◌, inl, inr, Bool, true, false, ◌&&◌, ◌==◌, cond, nat_lt, List, [], ◌∷◌, length}
use Rattle.std.proofs.Common.{map, get_or, count_by, ap, refl, sym, subst, ◌∙◌, arith}
use Rattle.std.specs.List.{All, AllPairs, AllZip}
use Rattle.std.proofs.lemmas.Bool.{cases_Bool, and_parts, eqb-true, ltb-true, cond-true, cond-false, false_from_ne_true}
use Rattle.std.proofs.lemmas.List.{get_or-map, length-map}
use Rattle.std.proofs.lemmas.List.Elements.{All-filter, All-map, filter_passes}
use Rattle.std.proofs.lemmas.List.Kept.{AllPairs-filter}
use Rattle.std.proofs.lemmas.List.Sums.{sum_by-cons}
use Rattle.decimal_text.specs.DecimalNumber.{DecimalNumber}
use Rattle.decimal_text.specs.Scale.{greatest_decimals}
use Rattle.decimal_text.proofs.Scales.{greatest_within}
use Rattle.model_core.specs.Files.{IsTransition, IsTra}
use Rattle.model_core.specs.Transitions.{exit_sum, IsEachPairOnce}
use Rattle.model_core.specs.declared.limits.TheConstants.{MOST_STATES, AMOUNT_LIMIT}
use Rattle.model_core.specs.declared.rate.Rate.{Rate}
use Rattle.text_lines.proofs.EntryReads.{zip_right}
use Rattle.text_lines.specs.Entries.{keys_of}
use Rattle.text_lines.specs.EntryLines.{value_of, entry_of, entries_of, IsEntryLine}
use Rattle.text_lines.specs.WordLines.{WordLine}
use Rattle.text_lines.specs.declared.entry_line.EntryLine.{EntryLine}
use Rattle.tra_reader.specs.Entries.{StatePair, Transition, AreStates, transition_lines}
use Rattle.tra_reader.specs.Pairs.{pair_of}
use Rattle.tra_reader.specs.Rates.{IsKept}
use Rattle.tra_reader.specs.TraText.{AreWithin, scaled_rate, scaled_rates, chain_rates}
use Rattle.tra_reader.specs.declared.entry.Pair.{Pair}
use Rattle.tra_reader.proofs.RateLimits.{exit_sum-chain}
use Rattle.tra_reader.proofs.TransitionKinds.{same_pair}

-- the entries of lines are between states, with rates that words can write
pub kept_lines : (n : ℕ) (lines : List WordLine) (es : List (EntryLine Pair)) → AllZip (IsEntryLine (transition_lines n) pair_of) lines es
    → All (IsKept n) es
kept_lines n lines es h =
    zip_right (IsEntryLine (transition_lines n) pair_of) (IsKept n)
    (λ line e is. let states = is.is.key.in_range in record {
      from_state = omega (arith, states.from_state.1);
      to_state = omega (arith, states.to_state.1);
      decimals = is.is.value.short.decimals;
    }) lines es h

-- ---- the transitions of n states

pub few_decimals : (n : ℕ) (es : List (EntryLine Pair)) → All (IsKept n) es → greatest_decimals (map value_of es) ≤ 18
few_decimals n es h =
    greatest_within 18 (map value_of es) (All-map (λ (d : DecimalNumber). d.x ≤ 18) value_of es (λ k d l. (h k d l).decimals))

-- the states of entries that are kept are states from 1
states_are : (n : ℕ) (es : List (EntryLine Pair)) → All (IsKept n) es → All (λ e. AreStates n e.key) (entries_of pair_of es)
states_are n es h =
    All-map (λ (e : Transition). AreStates n e.key) (entry_of pair_of) es
    (λ k d l. let is =
    h k d l in record { from_state = (omega arith, omega (arith, is.from_state)); to_state = (omega arith, omega (arith, is.to_state)) })

abbrev IsBetween : ℕ → Rate → Type 0
IsBetween n r = (r.from < n) × (r.to < n)

transitions_are : (n d : ℕ) (entries : List Transition) → All (λ e. AreStates n e.key) entries
    → All (IsTransition n) (chain_rates d entries)
transitions_are n d entries h k r l =
    let positive : Rate → Bool = λ r. nat_lt 0 r.rate in
    let all = All-map (IsBetween n) (scaled_rate d) entries
    (λ i e b. let from =
    (h i e b).from_state in let to = (h i e b).to_state in (omega (arith, from.0, from.1), omega (arith, to.0, to.1))) in
    let between = All-filter positive (IsBetween n) (scaled_rates d entries) all k r l in
    let passes = filter_passes positive (scaled_rates d entries) k r l in
    record { from_within = between.0; to_within = between.1; positive = omega (arith, ltb-true 0 _ passes) }

-- ---- no pair of states has two

-- where no two elements pass a test, one does at most
none_pass : {X : Type 0} (p : X → Bool) (xs : List X) → ((k : ℕ) (d : X) → k < length xs → p (get_or xs k d) ≡ false) → count_by p xs ≡ 0
none_pass p [] h = refl
none_pass {X} p (x ∷ xs) h =
    omega (
      arith,
      sum_by-cons (λ (y : X). cond (p y) 1 0) x xs,
      cond-false {A = ℕ} (p x) 1 0 (h 0 x (omega arith)),
      none_pass p xs
          (λ k d l. h (suc k) d (omega arith)),
    )

one_passes : {X : Type 0} (p : X → Bool) (xs : List X) → AllPairs (λ x y. p x ≡ true → p y ≡ true → ⊥) xs → count_by p xs ≤ 1
one_passes p [] h = omega arith
one_passes {X} p (x ∷ xs) h =
    elim (cases_Bool (p x)) [
      | inl t ↦
          omega (
            arith,
            sum_by-cons (λ (y : X). cond (p y) 1 0) x xs,
            cond-true {A = ℕ} (p x) 1 0 t,
            none_pass p xs
                (λ k d l. false_from_ne_true (p (get_or xs k d)) (h 0 (suc k) d (omega arith) (omega arith) t)),
          )
      | inr f ↦
          omega (
            arith,
            sum_by-cons (λ (y : X). cond (p y) 1 0) x xs,
            cond-false {A = ℕ} (p x) 1 0 f,
            one_passes p xs
                (λ i j d l k. h (suc i) (suc j) d (omega arith) (omega arith)),
          )
    ]

-- two transitions that are between the same states
abbrev IsSameRatePair : Rate → Rate → Type 0
IsSameRatePair q r = (q.from ≡ r.from) × (q.to ≡ r.to)

new_pairs : (n d : ℕ) (entries : List Transition) → All (λ e. AreStates n e.key) entries → AllPairs ◌≢◌ (keys_of entries)
    → AllPairs (λ q r. ¬ IsSameRatePair q r) (scaled_rates d entries)
new_pairs n d [] h once i j r l k same = absurd (omega arith)
new_pairs n d (e ∷ es) h once i j r l k same =
    let entries = e ∷ es in
    let long : length (scaled_rates d entries) ≡ length entries = length-map entries (scaled_rate d) in
    let keys : length (keys_of entries) ≡ length entries = length-map entries (λ e. e.key) in
    let first = get_or-map (scaled_rate d) entries i e r (omega arith) in
    let second = get_or-map (scaled_rate d) entries j e r (omega arith) in
    let a = h i e (omega arith) in
    let b = h j e (omega arith) in
    let p : StatePair = (get_or entries i e).key in
    let q : StatePair = (get_or entries j e).key in
    let froms = sym (ap (λ (z : Rate). z.from) first) ∙ same.0 ∙ ap (λ (z : Rate). z.from) second in
    let tos = sym (ap (λ (z : Rate). z.to) first) ∙ same.1 ∙ ap (λ (z : Rate). z.to) second in
    let from : p.from ≡ q.from = omega (arith, froms, a.from_state.0, b.from_state.0) in
    let to : p.to ≡ q.to = omega (arith, tos, a.to_state.0, b.to_state.0) in
    let left = get_or-map (λ (z : Transition). z.key) entries i e p (omega arith) in
    let right = get_or-map (λ (z : Transition). z.key) entries j e p (omega arith) in
    once i j p l (omega arith) (left ∙ same_pair p q from to ∙ sym right)

pairs_once : (n d : ℕ) (entries : List Transition) → All (λ e. AreStates n e.key) entries → AllPairs ◌≢◌ (keys_of entries)
    → IsEachPairOnce (chain_rates d entries)
pairs_once n d entries h once s t =
    let kept =
    AllPairs-filter (λ q r. ¬ IsSameRatePair q r) (λ (r : Rate). nat_lt 0 r.rate) (scaled_rates d entries) (new_pairs n d entries h once)
    in
    one_passes (λ (r : Rate). (r.from == s) && (r.to == t)) (chain_rates d entries)
    (λ i j r l k a b.
    let first = and_parts _ _ a in
    let second = and_parts _ _ b in
    kept i j r l k (eqb-true _ s first.0 ∙ sym (eqb-true _ s second.0), eqb-true _ t first.1 ∙ sym (eqb-true _ t second.1)))

-- ---- the exit rates

pub exits_are : (scale : ℕ) (es : List (EntryLine Pair)) (rates : List Rate) → rates ≡ chain_rates scale (entries_of pair_of es)
    → AreWithin scale (entries_of pair_of es) → (s : ℕ) → exit_sum rates s < AMOUNT_LIMIT
exits_are scale es rates is within s = omega (arith, ap (λ z. exit_sum z s) is, exit_sum-chain scale (entries_of pair_of es) s, within s)

-- so they are a chain
pub is_tra : (n scale : ℕ) (es : List (EntryLine Pair)) (rates : List Rate) → 1 ≤ n → n ≤ MOST_STATES → scale ≤ 18 → All (IsKept n) es
    → AllPairs ◌≢◌ (keys_of (entries_of pair_of es)) → AreWithin scale (entries_of pair_of es)
    → rates ≡ chain_rates scale (entries_of pair_of es)
    → IsTra (record { n = n; scale = scale; rates = rates })
is_tra n scale es rates some few short h once within is =
    let entries = entries_of pair_of es in
    let states = states_are n es h in
    subst (λ z. IsTra (record { n = n; scale = scale; rates = z })) (sym is) (record {
      some_state = some;
      few_states = few;
      decimals = short;
      transitions = transitions_are n scale entries states;
      once = pairs_once n scale entries states once;
      exits = exits_are scale es (chain_rates scale entries) refl within;
    })
