-- The rewards of the states at the scale, one entry after another.
use Rattle.std.proofs.Common.{◌≡◌, ◌≢◌, ℕ, ◌+◌, ◌<◌, ◌≤◌, cond, List, [], ◌∷◌, length, map, take, set, replicate, get_or, inl, inr, refl}
use Rattle.std.proofs.Common.{sym, ap, subst, ◌∙◌, arith}
use Rattle.std.specs.Bool.{◌==◌}
use Rattle.std.specs.List.{AllPairs, sum_by, range_with_len}
use Rattle.std.proofs.lemmas.Bool.{cases_eq, eq-eqb, ne_eqb}
use Rattle.std.proofs.lemmas.Grind.{same_number_lists}
use Rattle.std.proofs.lemmas.List.{take_all, length-map, get_or-set_same, get_or-set_other, length-set, length-replicate, get_or-replicate}
use Rattle.std.proofs.lemmas.List.Elements.{All-head, All-tail, Contains-append_right}
use Rattle.std.proofs.lemmas.List.FromFn.{length-range_with_len, get_or-map-range_with_len}
use Rattle.std.proofs.lemmas.List.Sums.{sum_by_push, sum_by-cons}
use Rattle.decimal_text.specs.Scale.{scaled}
use Rattle.model_core.specs.StateNumber.{state_number}
use Rattle.model_core.specs.declared.limits.TheConstants.{AMOUNT_LIMIT}
use Rattle.text_lines.proofs.EntryCases.{IsNew}
use Rattle.text_lines.proofs.EntryReads.{new_before}
use Rattle.text_lines.proofs.EntryRuns.{distinct_head, distinct_tail}
use Rattle.text_lines.proofs.EntryScales.{map-more}
use Rattle.text_lines.specs.Entries.{keys_of}
use Rattle.text_lines.specs.EntryLines.{value_of, entry_of, entries_of}
use Rattle.text_lines.specs.declared.entry_line.EntryLine.{EntryLine}
use Rattle.rew_reader.specs.RewardLines.{StateReward}
use Rattle.rew_reader.specs.RewText.{AreWithin, reward_of}

-- the entries that are kept
abbrev entries : List (EntryLine ℕ) → List StateReward
entries es = entries_of state_number es

-- ---- what an entry adds to the reward of a state

abbrev pick : ℕ → ℕ → StateReward → ℕ
pick scale s e = cond (e.key == s + 1) (scaled scale e.value) 0

pick-here : (scale s : ℕ) (e : StateReward) → e.key ≡ s + 1 → pick scale s e ≡ scaled scale e.value
pick-here scale s e is = ap (λ b. cond b (scaled scale e.value) 0) (eq-eqb e.key (s + 1) is)

pick-elsewhere : (scale s : ℕ) (e : StateReward) → e.key ≢ s + 1 → pick scale s e ≡ 0
pick-elsewhere scale s e other = ap (λ b. cond b (scaled scale e.value) 0) (ne_eqb e.key (s + 1) other)

-- with one entry more
reward_of-more : (scale : ℕ) (es : List (EntryLine ℕ)) (i : ℕ) (d : EntryLine ℕ) (s : ℕ) → i < length es
    → reward_of scale (entries (take (i + 1) es)) s ≡ reward_of scale (entries (take i es)) s + pick scale s
    (entry_of state_number (get_or es i d))
reward_of-more scale es i d s within =
    ap (sum_by (pick scale s)) (map-more (entry_of state_number) es i d within)
    ∙ sum_by_push (pick scale s) (entries (take i es)) (entry_of state_number (get_or es i d))

-- a state that has no entry
reward_of-new : (scale : ℕ) (es : List StateReward) (s : ℕ) → IsNew es (s + 1) → reward_of scale es s ≡ 0
reward_of-new scale [] s new = refl
reward_of-new scale (e ∷ es) s new =
    let first = pick-elsewhere scale s e (λ same. new (0, omega arith, same)) in
    let rest = reward_of-new scale es s (λ there. new (Contains-append_right (e.key ∷ []) (keys_of es) (s + 1) there)) in
    omega (arith, sum_by-cons (pick scale s) e es, first, rest)

-- the reward of a state is that of its entry, or 0
pub reward_of-below : (scale : ℕ) (es : List StateReward) (s : ℕ) → AllPairs ◌≢◌ (keys_of es) → AreWithin scale es
    → reward_of scale es s < AMOUNT_LIMIT
reward_of-below scale [] s once h = omega arith
reward_of-below scale (e ∷ es) s once h =
    let Within : StateReward → Type 0 = λ e. scaled scale e.value < AMOUNT_LIMIT in
    elim (cases_eq e.key (s + 1)) [
      | inl same ↦
          let new : IsNew es (s + 1) = subst (IsNew es) same (distinct_head e.key (keys_of es) once) in
          omega (arith, sum_by-cons (pick scale s) e es, pick-here scale s e same, reward_of-new scale es s new, All-head Within e es h)
      | inr other ↦
          let rest = reward_of-below scale es s (distinct_tail e.key (keys_of es) once) (All-tail Within e es h) in
          omega (arith, sum_by-cons (pick scale s) e es, pick-elsewhere scale s e other, rest)
    ]

-- ---- the rewards of the states below n

pub record AreRewards (scale n : ℕ) (es : List (EntryLine ℕ)) (rewards : List ℕ) : Type 0 where
  pub long : length rewards ≡ n
  pub each : (s : ℕ) → s < n → get_or rewards s 0 ≡ reward_of scale (entries es) s

pub rewards-none : (scale n : ℕ) (rewards : List ℕ) → rewards ≡ replicate n 0 → AreRewards scale n [] rewards
rewards-none scale n rewards is = record {
  long = ap length is ∙ length-replicate n 0;
  each = λ s within. ap (λ z. get_or z s 0) is ∙ get_or-replicate n s 0 0 within;
}

-- with one entry more
pub rewards-more : (scale n : ℕ) (es : List (EntryLine ℕ)) (i : ℕ) (d : EntryLine ℕ) (rewards : List ℕ) (reward : ℕ) → i < length es
    → (get_or es i d).key < n → AllPairs ◌≢◌ (keys_of (entries es)) → reward ≡ scaled scale (value_of (get_or es i d))
    → AreRewards scale n (take i es) rewards → AreRewards scale n (take (i + 1) es) (set rewards (get_or es i d).key reward)
rewards-more scale n es i d rewards reward within below once is h =
    let e = get_or es i d in
    let state = (get_or es i d).key in
    record {
      long = length-set rewards state reward ∙ h.long;
      each = λ s in_range. elim (cases_eq s state) [
        | inl same ↦
            let more = reward_of-more scale es i d state within in
            let none = reward_of-new scale (entries (take i es)) state (new_before state_number es i d within once) in
            let added = pick-here scale state (entry_of state_number e) refl in
            let put = get_or-set_same rewards state reward 0 (omega (arith, h.long, below)) in
            let here : get_or (set rewards state reward) state 0 ≡ reward_of scale (entries (take (i + 1) es)) state =
            omega (arith, more, none, added, put, is)
            in
            subst (λ z. get_or (set rewards state reward) z 0 ≡ reward_of scale (entries (take (i + 1) es)) z) (sym same) here
        | inr other ↦
            let more = reward_of-more scale es i d s within in
            let nothing = pick-elsewhere scale s (entry_of state_number e) (λ same. other (omega (arith, same))) in
            let kept = get_or-set_other rewards state s reward 0 other in
            omega (arith, more, nothing, kept, h.each s in_range)
      ];
    }

-- they are the list of the rewards
pub rewards-all : (scale n i : ℕ) (es : List (EntryLine ℕ)) (rewards : List ℕ) → length es ≤ i → AreRewards scale n (take i es) rewards
    → rewards ≡ map (reward_of scale (entries es)) (range_with_len 0 n)
rewards-all scale n i es rewards end h =
    let f : ℕ → ℕ = reward_of scale (entries es) in
    let all : AreRewards scale n es rewards = subst (λ z. AreRewards scale n z rewards) (take_all i es end) h in
    let long : length (map f (range_with_len 0 n)) ≡ n = length-map (range_with_len 0 n) f ∙ length-range_with_len 0 n in
    same_number_lists rewards (map f (range_with_len 0 n)) (omega (arith, all.long, long))
    (λ k l.
    let within : k < n = omega (arith, l, all.long) in
    all.each k within ∙ sym (get_or-map-range_with_len f 0 n k k 0 within (omega arith)))
