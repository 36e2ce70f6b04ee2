-- The rows of the uniformised chain: what their entries add up to, and that they are sound.
use Rattle.std.proofs.Common.{◌≡◌, ℕ, zero, suc, ◌+◌, ◌-◌, ◌*◌, ◌^◌, ◌<◌, ◌≤◌, Bool, true, false, cond, eqb, List, [], ◌∷◌, ◌++◌, length, get_or, map, refl, ap, sym, ◌∙◌, subst, drop, eq-eqb, arith}
use Rattle.std.specs.Prelude.{nat_lt}
use Rattle.std.specs.List.{All, AllPairs, sum_by}
use Rattle.std.proofs.Math.Nat.{mul-le-mul_left, mul-le-mul_right}
use Rattle.std.proofs.lemmas.Bool.{lt-ltb, le-ltb}
use Rattle.std.proofs.lemmas.Bool.Decides.{nat_tests}
use Rattle.std.proofs.lemmas.List.{append_assoc, get_or-map, get_or_append_left, length-map}
use Rattle.std.proofs.Math.Seq.{get_or-append_seam}
use Rattle.std.proofs.lemmas.List.Elements.{All-nil, All-cons, All-head, All-tail}
use Rattle.std.proofs.lemmas.List.Kept.{AllPairs-cons}
use Rattle.std.proofs.lemmas.List.Sums.{get_or-le-sum_by, sum_by-cons, sum_by-append}
use Rattle.std.proofs.Math.Decide.{dec_le}
use Rattle.std.proofs.lemmas.Bool.{ne_eqb}
use Rattle.std.proofs.Math.ListN.{drop_of_length-le}
use Rattle.std.proofs.Math.Seq.{drop-cons}
use Rattle.std.specs.List.Sorted.{IsStrictlyIncreasing}
use Rattle.ctmc_semantics.specs.Chain.{exit_rate}
use Rattle.ctmc_semantics.specs.Next.{rate_into}
use Rattle.ctmc_semantics.specs.Sum.{sum_below}
use Rattle.ctmc_semantics.specs.Uniformised.{uniform_rate, uniformised}
use Rattle.ctmc_semantics.proofs.UniformLemmas.{uniformised_stochastic}
use Rattle.ctmc_semantics.proofs.Sums.{sum_below-same}
use Rattle.ctmc_semantics.specs.Jumps.{Jumps}
use Rattle.model_core.specs.Model.{ModelLists, model_chain}
use Rattle.model_core.proofs.Order.{AllPairs-from_rising, rising-from_AllPairs}
use Rattle.model_core.proofs.Sums.{sum_below-one}
use Rattle.step_core.specs.FrameLists.{RowLists}
use Rattle.step_core.specs.FrameRows.{number_to, row_at, StandFor}
use Rattle.step_core.specs.SoundFrame.{IsSoundRow}
use Rattle.model_core.specs.declared.rate.Rate.{Rate}
use Rattle.model_core.specs.Transitions.{sum_into}
use Rattle.model_core.specs.Files.{IsTransition}
use Rattle.round_out.specs.declared.entry.Entry.{Entry}
use Rattle.uniformise.specs.JumpRow.{all_times, jump_number, times}
use Rattle.uniformise.specs.UniformisedRow.{share_entry, transition_entries}

-- the share that still has no entry after a transition
abbrev pub share_after : ℕ → ℕ → Rate → ℕ
share_after s share r = cond (nat_lt r.to s) share 0

-- the entries of a row: its transitions', and the share's in its place
pub row_entries : ℕ → ℕ → List Rate → List Entry
row_entries s share [] = share_entry s share
row_entries s share (r ∷ rs) = transition_entries s share r ++ row_entries s (share_after s share r) rs

-- an entry of its target and its number
abbrev entry : ℕ → ℕ → Entry
entry to num = record { to = to; num = num }

-- the three places that a transition has against the loop
before_loop : (s share : ℕ) (r : Rate) → r.to < s → transition_entries s share r ≡ entry r.to (r.rate + 0) ∷ []
before_loop s share r l =
    let past : nat_lt s r.to ≡ false = le-ltb s r.to (omega arith) in
    let at : eqb s r.to ≡ false = grind (arith, nat_tests) in
    rw (past, at) refl

at_loop : (s share : ℕ) (r : Rate) → s ≡ r.to → transition_entries s share r ≡ entry r.to (r.rate + share) ∷ []
at_loop s share r e =
    let past : nat_lt s r.to ≡ false = le-ltb s r.to (omega arith) in
    let at : eqb s r.to ≡ true = grind (arith, nat_tests) in
    rw (past, at) refl

past_loop : (s share : ℕ) (r : Rate) → s < r.to → transition_entries s share r ≡ share_entry s share ++ entry r.to (r.rate + 0) ∷ []
past_loop s share r l =
    let past : nat_lt s r.to ≡ true = lt-ltb s r.to l in
    let at : eqb s r.to ≡ false = grind (arith, nat_tests) in
    rw (past, at) refl

-- the share after a transition, before the loop and past it
after_before : (s share : ℕ) (r : Rate) → r.to < s → share_after s share r ≡ share
after_before s share r l = rw (lt-ltb r.to s l) refl

after_past : (s share : ℕ) (r : Rate) → s ≤ r.to → share_after s share r ≡ 0
after_past s share r l = rw (le-ltb r.to s l) refl

-- the entries of a row by its first transition
row_nil : (s share : ℕ) → row_entries s share [] ≡ share_entry s share
unfolding row_entries
row_nil s share = refl

row_cons : (s share : ℕ) (r : Rate) (rs : List Rate)
    → row_entries s share (r ∷ rs) ≡ transition_entries s share r ++ row_entries s (share_after s share r) rs
unfolding row_entries
row_cons s share r rs = refl

row_before : (s share : ℕ) (r : Rate) (rs : List Rate) → r.to < s
    → row_entries s share (r ∷ rs) ≡ entry r.to (r.rate + 0) ∷ row_entries s share rs
row_before s share r rs l =
    row_cons s share r rs
    ∙ ap (λ es. es ++ row_entries s (share_after s share r) rs) (before_loop s share r l)
    ∙ ap (λ k. entry r.to (r.rate + 0) ∷ row_entries s k rs) (after_before s share r l)

row_loop : (s share : ℕ) (r : Rate) (rs : List Rate) → s ≡ r.to
    → row_entries s share (r ∷ rs) ≡ entry r.to (r.rate + share) ∷ row_entries s 0 rs
row_loop s share r rs e =
    row_cons s share r rs
    ∙ ap (λ es. es ++ row_entries s (share_after s share r) rs) (at_loop s share r e)
    ∙ ap (λ k. entry r.to (r.rate + share) ∷ row_entries s k rs) (after_past s share r (omega arith))

row_past : (s share : ℕ) (r : Rate) (rs : List Rate) → s < r.to
    → row_entries s share (r ∷ rs) ≡ (share_entry s share ++ entry r.to (r.rate + 0) ∷ []) ++ row_entries s 0 rs
row_past s share r rs l =
    row_cons s share r rs
    ∙ ap (λ es. es ++ row_entries s (share_after s share r) rs) (past_loop s share r l)
    ∙ ap (λ k. (share_entry s share ++ entry r.to (r.rate + 0) ∷ []) ++ row_entries s k rs) (after_past s share r (omega arith))

-- a share above 0 has an entry
share_some : (s k : ℕ) → share_entry s (suc k) ≡ entry s (suc k) ∷ []
share_some s k = rw (lt-ltb 0 (suc k) (omega arith)) refl

-- numbers under a test
cond_zero : (b : Bool) → cond {A = ℕ} b 0 0 ≡ 0
cond_zero true = refl
cond_zero false = refl

cond_sum : (b : Bool) (x y : ℕ) → cond b (x + y) 0 ≡ cond b x 0 + cond b y 0
cond_sum true x y = refl
cond_sum false x y = refl

module _ (set : ℕ → Bool) where
  -- the numbers of the entries into a set of states, added up
  abbrev number_into : List Entry → ℕ
  number_into es = sum_by (λ e. cond (set e.to) e.num 0) es

  number_one : (to num : ℕ) → number_into (entry to num ∷ []) ≡ cond (set to) num 0
  number_one to num = omega (arith, sum_by-cons (λ (e : Entry). cond (set e.to) e.num 0) (entry to num) [])

  number_share : (s share : ℕ) → number_into (share_entry s share) ≡ cond (set s) share 0
  number_share s zero = sym (cond_zero (set s))
  number_share s (suc k) = ap number_into (share_some s k) ∙ number_one s (suc k)

  number_step : (s share : ℕ) (r : Rate)
      → number_into (transition_entries s share r) + cond (set s) (share_after s share r) 0 ≡ cond (set r.to) r.rate 0 + cond (set s) share
      0
  number_step s share r =
      elim (dec_le (suc r.to) s) [
        | yes l ↦
            rw (before_loop s share r l, after_before s share r l)
            (omega (arith, number_one r.to (r.rate + 0), cond_sum (set r.to) r.rate 0, cond_zero (set r.to)))
        | no g ↦ elim (dec_le (suc s) r.to) [
          | yes l ↦
              rw (past_loop s share r l, after_past s share r (omega arith))
              (omega (
                arith,
                sum_by-append (λ (e : Entry). cond (set e.to) e.num 0) (share_entry s share) (entry r.to (r.rate + 0) ∷ []),
                number_share s share,
                number_one r.to (r.rate + 0),
                cond_sum (set r.to) r.rate 0,
                cond_zero (set r.to),
                cond_zero (set s),
              ))
          | no m ↦
              let same : s ≡ r.to = omega arith in
              rw (at_loop s share r same, after_past s share r (omega arith))
              (omega (
                arith,
                number_one r.to (r.rate + share),
                cond_sum (set r.to) r.rate share,
                cond_zero (set s),
                ap (λ t. cond (set t) share 0) same,
              ))
        ]
      ]

  -- the numbers into a set are the rates into it, and the loop's share where its state is in the set
  pub number_row : (s share : ℕ) (rs : List Rate) → number_into (row_entries s share rs) ≡ sum_into set rs + cond (set s) share 0
  number_row s share [] = omega (arith, ap number_into (row_nil s share), number_share s share)
  number_row s share (r ∷ rs) =
      omega (
        arith,
        ap number_into (row_cons s share r rs),
        sum_by-append (λ (e : Entry). cond (set e.to) e.num 0) (transition_entries s share r) (row_entries s (share_after s share r) rs),
        number_row s (share_after s share r) rs,
        number_step s share r,
        sum_by-cons (λ (x : Rate). cond (set x.to) x.rate 0) r rs,
      )

module _ (P : Entry → Type 0) where
  all_share : (s share : ℕ) → (0 < share → P (entry s share)) → All P (share_entry s share)
  all_share s zero h = All-nil P
  all_share s (suc k) h = rw (share_some s k) (All-cons P (entry s (suc k)) [] (h (omega arith)) (All-nil P))

  all_share_before : (s share : ℕ) (e : Entry) (es : List Entry) → ((num : ℕ) → 0 < num → 0 < share → P (entry s num)) → P e → All P es
      → All P ((share_entry s share ++ e ∷ []) ++ es)
  all_share_before s zero e es own p h = All-cons P e es p h
  all_share_before s (suc k) e es own p h =
      rw (share_some s k) (All-cons P (entry s (suc k)) (e ∷ es) (own (suc k) (omega arith) (omega arith)) (All-cons P e es p h))

  -- what holds of the entries of transitions and of the loop holds of a row's
  pub all_row : (s share : ℕ) (rs : List Rate) → ((num : ℕ) → 0 < num → 0 < share → P (entry s num))
      → All (λ r. (num : ℕ) → 0 < num → P (entry r.to num)) rs → All (λ r. 1 ≤ r.rate) rs → All P (row_entries s share rs)
  all_row s share [] own h some = subst (All P) (sym (row_nil s share)) (all_share s share (λ l. own share l l))
  all_row s share (r ∷ rs) own h some =
      let here = All-head (λ (x : Rate). (num : ℕ) → 0 < num → P (entry x.to num)) r rs h in
      let rate : 1 ≤ r.rate = All-head (λ (x : Rate). 1 ≤ x.rate) r rs some in
      let later = All-tail (λ (x : Rate). (num : ℕ) → 0 < num → P (entry x.to num)) r rs h in
      let rates = All-tail (λ (x : Rate). 1 ≤ x.rate) r rs some in
      elim (dec_le (suc r.to) s) [
        | yes l ↦
            subst (All P) (sym (row_before s share r rs l))
            (All-cons P (entry r.to (r.rate + 0)) (row_entries s share rs) (here (r.rate + 0) (omega arith))
            (all_row s share rs own later rates))
        | no g ↦
            let rest : All P (row_entries s 0 rs) = all_row s 0 rs (λ num l m. absurd (omega arith)) later rates in
            elim (dec_le (suc s) r.to) [
              | yes l ↦
                  subst (All P) (sym (row_past s share r rs l))
                  (all_share_before s share (entry r.to (r.rate + 0)) (row_entries s 0 rs) own (here (r.rate + 0) (omega arith)) rest)
              | no m ↦
                  subst (All P) (sym (row_loop s share r rs (omega arith)))
                  (All-cons P (entry r.to (r.rate + share)) (row_entries s 0 rs) (here (r.rate + share) (omega arith)) rest)
            ]
      ]

-- an entry has a lower target
abbrev IsBefore : Entry → Entry → Type 0
IsBefore x y = x.to < y.to

-- the targets ascend, where those of the transitions do
ascending_share : (s share : ℕ) → AllPairs IsBefore (share_entry s share)
ascending_share s zero = λ i j d l b. absurd (omega arith)
ascending_share s (suc k) = rw (share_some s k) (λ i j d l b. absurd (omega arith))

ascending_share_before : (s share num : ℕ) (r : Rate) (es : List Entry) → s < r.to → All (IsBefore (entry r.to num)) es
    → AllPairs IsBefore es
    → AllPairs IsBefore ((share_entry s share ++ entry r.to num ∷ []) ++ es)
ascending_share_before s zero num r es l first h = AllPairs-cons IsBefore (entry r.to num) es first h
ascending_share_before s (suc k) num r es l first h =
    rw (share_some s k)
    (AllPairs-cons IsBefore (entry s (suc k)) (entry r.to num ∷ es)
    (All-cons (IsBefore (entry s (suc k))) (entry r.to num) es l
    (λ i d m. let later : r.to < (get_or es i d).to = first i d m in omega arith))
    (AllPairs-cons IsBefore (entry r.to num) es first h))

pub ascending_row : (s share : ℕ) (rs : List Rate) → AllPairs (λ x y. x.to < y.to) rs → All (λ r. 1 ≤ r.rate) rs
    → AllPairs IsBefore (row_entries s share rs)
ascending_row s share [] h some = subst (AllPairs IsBefore) (sym (row_nil s share)) (ascending_share s share)
ascending_row s share (r ∷ rs) h some =
    let rates = All-tail (λ (x : Rate). 1 ≤ x.rate) r rs some in
    let later : AllPairs (λ (x y : Rate). x.to < y.to) rs = λ i j d l b. h (suc i) (suc j) d (omega arith) (omega arith) in
    let first : All (λ (x : Rate). r.to < x.to) rs = λ i d l. h 0 (suc i) d (omega arith) (omega arith) in
    elim (dec_le (suc r.to) s) [
      | yes l ↦
          subst (AllPairs IsBefore) (sym (row_before s share r rs l))
          (AllPairs-cons IsBefore (entry r.to (r.rate + 0)) (row_entries s share rs)
          (all_row (IsBefore (entry r.to (r.rate + 0))) s share rs (λ num p q. l) (λ i d m num p. first i d m) rates)
          (ascending_row s share rs later rates))
      | no g ↦
          let bound : (n : ℕ) → All (IsBefore (entry r.to n)) (row_entries s 0 rs) =
          λ n. all_row (IsBefore (entry r.to n)) s 0 rs (λ num p q. absurd (omega arith)) (λ i d m num p. first i d m) rates in
          elim (dec_le (suc s) r.to) [
            | yes l ↦
                subst (AllPairs IsBefore) (sym (row_past s share r rs l))
                (ascending_share_before s share (r.rate + 0) r (row_entries s 0 rs) l (bound (r.rate + 0))
                (ascending_row s 0 rs later rates))
            | no m ↦
                subst (AllPairs IsBefore) (sym (row_loop s share r rs (omega arith)))
                (AllPairs-cons IsBefore (entry r.to (r.rate + share)) (row_entries s 0 rs) (bound (r.rate + share))
                (ascending_row s 0 rs later rates))
          ]
    ]

-- one transition more of a row
pub one_transition : (s share share' i : ℕ) (rs : List Rate) (d : Rate) (old new all : List Entry) → i < length rs
    → old ++ row_entries s share (drop i rs) ≡ all → new ≡ old ++ transition_entries s share (get_or rs i d)
    → share' ≡ share_after s share (get_or rs i d)
    → new ++ row_entries s share' (drop (i + 1) rs) ≡ all
one_transition s share share' i rs d old new all l before grown left =
    let r : Rate = get_or rs i d in
    let next : i + 1 ≡ suc i = omega arith in
    ap (λ k. new ++ row_entries s share' (drop k rs)) next
    ∙ ap (λ k. new ++ row_entries s k (drop (suc i) rs)) left
    ∙ ap (λ es. es ++ row_entries s (share_after s share r) (drop (suc i) rs)) grown
    ∙ append_assoc old (transition_entries s share r) (row_entries s (share_after s share r) (drop (suc i) rs))
    ∙ ap (λ es. old ++ es) (sym (row_cons s share r (drop (suc i) rs)))
    ∙ ap (λ part. old ++ row_entries s share part) (sym (drop-cons rs i d l))
    ∙ before

-- all transitions of a row, and the share that is left
pub whole_row : (s share i : ℕ) (rs : List Rate) (old new all : List Entry) → length rs ≤ i → old ++ row_entries s share (drop i rs) ≡ all
    → new ≡ old ++ share_entry s share → new ≡ all
whole_row s share i rs old new all l before grown =
    grown ∙ ap (λ es. old ++ es) (sym (row_nil s share)) ∙ ap (λ part. old ++ row_entries s share part) (sym (drop_of_length-le rs l))
    ∙ before

-- the share after a transition, by the test of its target
pub kept_share : (s share share' to : ℕ) → to < s → share' ≡ share → share' ≡ cond (nat_lt to s) share 0
kept_share s share share' to l e = rw (lt-ltb to s l) e

pub spent_share : (s share share' to : ℕ) → s ≤ to → share' ≡ 0 → share' ≡ cond (nat_lt to s) share 0
spent_share s share share' to l e = rw (le-ltb to s l) e

-- a state's own number among those of a set of one state
one_state : (b : Bool) (x : ℕ) → b ≡ false → cond b x 0 ≡ 0
one_state true x e = cc
one_state false x e = refl

its_own : (b : Bool) (x : ℕ) → b ≡ true → cond b x 0 ≡ x
its_own true x e = refl
its_own false x e = cc

-- ---- transitions at so many times their rates
cond_times : (b : Bool) (x k : ℕ) → cond b (x * k) 0 ≡ cond b x 0 * k
cond_times true x k = refl
cond_times false x k = omega arith

times_into : (factor : ℕ) (set : ℕ → Bool) (rs : List Rate) → sum_into set (all_times factor rs) ≡ sum_into set rs * factor
times_into factor set [] = omega arith
times_into factor set (r ∷ rs) =
    let part = λ (x : Rate). cond (set x.to) x.rate 0 in
    let more : sum_into set (all_times factor (r ∷ rs)) ≡ cond (set r.to) (r.rate * factor) 0 + sum_into set (all_times factor rs) =
    sum_by-cons part (times factor r) (all_times factor rs) in
    let own : sum_into set (r ∷ rs) ≡ cond (set r.to) r.rate 0 + sum_into set rs = sum_by-cons part r rs in
    omega (arith, more, ap (λ x. x * factor) own, times_into factor set rs, cond_times (set r.to) r.rate factor)

times_target : (factor : ℕ) (rs : List Rate) → map (λ r. r.to) (all_times factor rs) ≡ map (λ r. r.to) rs
times_target factor [] = refl
times_target factor (r ∷ rs) = ap (λ ts. r.to ∷ ts) (times_target factor rs)

times_all : (P Q : Rate → Type 0) (factor : ℕ) → ((r : Rate) → P r → Q (times factor r)) → (rs : List Rate) → All P rs
    → All Q (all_times factor rs)
times_all P Q factor h [] p = All-nil Q
times_all P Q factor h (r ∷ rs) p =
    All-cons Q (times factor r) (all_times factor rs) (h r (All-head P r rs p)) (times_all P Q factor h rs (All-tail P r rs p))

times_transition : (n factor : ℕ) → 1 ≤ factor → (r : Rate) → IsTransition n r → IsTransition n (times factor r)
times_transition n factor some r t = record {
  from_within = t.from_within;
  to_within = t.to_within;
  positive = omega (arith, mul-le-mul_left r.rate some, t.positive);
}

-- each rate is at most all of them
pub rate_within : (chain_exit factor total : ℕ) (rs : List Rate) (i : ℕ) (d : Rate) → i < length rs
    → sum_into (λ u. true) rs ≡ chain_exit → chain_exit * factor ≤ total → (get_or rs i d).rate * factor ≤ total
rate_within chain_exit factor total rs i d l whole within =
    let each : (get_or rs i d).rate ≤ sum_into (λ u. true) rs = get_or-le-sum_by (λ (r : Rate). r.rate) rs i d l in
    omega (arith, within, mul-le-mul_right factor (omega_le (get_or rs i d).rate (sum_into (λ u. true) rs) chain_exit each whole))
  where
    omega_le : (a b c : ℕ) → a ≤ b → b ≡ c → a ≤ c
    omega_le a b c h e = omega (arith, h, e)

-- a transition at so many times its rate stands in its place
pub times_at : (factor : ℕ) (rs : List Rate) (i : ℕ) (d e : Rate) → i < length rs
    → get_or (all_times factor rs) i e ≡ times factor (get_or rs i d)
times_at factor rs i d e l = get_or-map (times factor) rs i d e l

pub times_counted : (factor : ℕ) (rs : List Rate) → length (all_times factor rs) ≡ length rs
times_counted factor rs = length-map rs (times factor)

module _ (model : ModelLists) (s factor total : ℕ) (rs : List Rate) (es : List Entry) (state : s < model.n) (some : 1 ≤ factor)
    (within : exit_rate (model_chain model) s * factor ≤ total)
    (rates_into : (set : ℕ → Bool) → sum_into set rs ≡ rate_into (model_chain model) set s)
    (are : es ≡ row_entries s (total - exit_rate (model_chain model) s * factor) (all_times factor rs)) where
  abbrev share : ℕ
  share = total - exit_rate (model_chain model) s * factor

  -- the numbers into a set of states, of the whole row
  into : (set : ℕ → Bool) → number_into set es ≡ rate_into (model_chain model) set s * factor + cond (set s) share 0
  into set =
      ap (number_into set) are
      ∙ number_row set s share (all_times factor rs)
      ∙ ap (λ x. x + cond (set s) share 0) (times_into factor set rs ∙ ap (λ x. x * factor) (rates_into set))

  -- the numbers are those of the jumps
  pub row_numbers : (t : ℕ) → t < model.n → number_to es t ≡ jump_number (model_chain model) factor total s t
  row_numbers t l =
      let rate : ℕ → ℕ = (model_chain model).rate s in
      let own : rate_into (model_chain model) (λ u. eqb u t) s ≡ rate t =
      sum_below-one model.n t (λ u. cond (eqb u t) (rate u) 0) l (λ u other. one_state (eqb u t) (rate u) (ne_eqb u t other))
      ∙ its_own (eqb t t) (rate t) (eq-eqb t t refl) in
      into (λ u. eqb u t) ∙ ap (λ x. x * factor + cond (eqb s t) share 0) own

  -- the row is sound
  pub row_sound : 1 ≤ total → total < 2 ^ 63 → IsStrictlyIncreasing (map (λ r. r.to) rs) → All (IsTransition model.n) rs
      → IsSoundRow model.n (record { den = total; entries = es })
  row_sound positive fits ascending transitions =
      let all = all_times factor rs in
      let moved : All (IsTransition model.n) all =
      times_all (IsTransition model.n) (IsTransition model.n) factor (times_transition model.n factor some) rs transitions in
      let rates : All (λ (r : Rate). 1 ≤ r.rate) all = λ i d l. (moved i d l).positive in
      let whole : sum_by (λ e. e.num) es ≡ exit_rate (model_chain model) s * factor + share = into (λ u. true) in
      record {
        targets =
            subst (All (λ e. e.to < model.n)) (sym are)
            (all_row (λ e. e.to < model.n) s share all (λ num p q. state) (λ i d l num p. (moved i d l).to_within) rates);
        ascend =
            rising-from_AllPairs (λ (e : Entry). e.to) es
            (subst (AllPairs IsBefore) (sym are)
            (ascending_row s share all
            (AllPairs-from_rising (λ (r : Rate). r.to) all (subst IsStrictlyIncreasing (sym (times_target factor rs)) ascending)) rates));
        numbers =
            subst (All (λ e. 0 < e.num)) (sym are)
            (all_row (λ e. 0 < e.num) s share all (λ num p q. p) (λ i d l num p. p) rates);
        whole = omega (arith, whole, within);
        positive = positive;
        fits = fits;
      }

-- over the uniform rate the numbers are the weights of the uniformised chain
pub uniform_number : (model : ModelLists) (uniform s t : ℕ) → uniform ≡ uniform_rate (model_chain model)
    → jump_number (model_chain model) 1 uniform s t ≡ (uniformised (model_chain model)).weight s t
uniform_number model uniform s t value =
    let chain = model_chain model in
    ap (λ u. jump_number chain 1 u s t) value
    ∙ same_parts (eqb s t) (chain.rate s t) (uniform_rate chain) (exit_rate chain s)
  where
    same_parts : (b : Bool) (r u e : ℕ) → r * 1 + cond b (u - e * 1) 0 ≡ r + cond b (u - e) 0
    same_parts true r u e = omega arith
    same_parts false r u e = omega arith

abbrev no_row : RowLists
no_row = record { den = 0; entries = [] }

-- one row more
pub one_row : (n s : ℕ) (weight : ℕ → ℕ → ℕ) (rows : List RowLists) (row : RowLists) → length rows ≡ s
    → ((i t : ℕ) → i < s → t < n → number_to (row_at rows i).entries t ≡ weight i t)
    → ((t : ℕ) → t < n → number_to row.entries t ≡ weight s t)
    → (i t : ℕ) → i < s + 1 → t < n → number_to (row_at (rows ++ row ∷ []) i).entries t ≡ weight i t
one_row n s weight rows row long before here i t l m =
    elim (dec_le (suc i) s) [
      | yes inside ↦
          ap (λ (r : RowLists). number_to r.entries t) (get_or_append_left rows (row ∷ []) no_row i (omega arith)) ∙ before i t inside m
      | no past ↦
          let last : i ≡ length rows = omega arith in
          let same : i ≡ s = omega arith in
          ap (λ k. number_to (row_at (rows ++ row ∷ []) k).entries t) last
          ∙ ap (λ (r : RowLists). number_to r.entries t) (get_or-append_seam rows row [] no_row)
          ∙ here t m
          ∙ ap (λ k. weight k t) (sym same)
    ]

-- rows with the numbers and the divisor of the uniformised chain stand for it
pub rows_stand : (model : ModelLists) (uniform : ℕ) (rows : List RowLists) → length rows ≡ model.n
    → uniform ≡ uniform_rate (model_chain model)
    → All (IsSoundRow model.n) rows → All (λ row. row.den ≡ uniform) rows
    → ((s t : ℕ) → s < model.n → t < model.n → number_to (row_at rows s).entries t ≡ (uniformised (model_chain model)).weight s t)
    → StandFor rows (uniformised (model_chain model))
rows_stand model uniform rows long value sound divisors numbers =
    let jumps : Jumps = uniformised (model_chain model) in
    let den : (s : ℕ) → s < length rows → (row_at rows s).den ≡ jumps.total = λ s l. divisors s no_row l ∙ value in
    record {
      same_states = long;
      same_fractions =
          λ s t l m. ap (λ z. jumps.weight s t * z) (den s l) ∙ ap (λ z. z * jumps.total) (sym (numbers s t (omega arith) (omega arith)));
      whole = λ s l.
          ap (λ k. sum_below k (number_to (row_at rows s).entries)) long
          ∙ sum_below-same model.n (number_to (row_at rows s).entries) (jumps.weight s) (λ t m. numbers s t (omega arith) m)
          ∙ uniformised_stochastic (model_chain model) s (omega arith)
          ∙ sym (den s l);
      positive = λ s l. (sound s no_row l).positive;
    }
