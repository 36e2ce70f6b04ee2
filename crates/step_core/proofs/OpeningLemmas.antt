-- The words at the start keep the rule.
use Rattle.std.proofs.Common.{◌≡◌, ℕ, zero, suc, ◌+◌, ◌-◌, ◌*◌, ◌/◌, ◌%◌, ◌<◌, ◌≤◌, List, [], ◌++◌, length, replicate, Bool, true, false, refl, sym, ap, ◌∙◌, subst, le_refl, zero-le, inl, inr, arith}
use Rattle.std.proofs.Math.Nat.{mul-le-mul_right, mod-lt}
use Rattle.std.proofs.lemmas.Bool.{cases_eq, cases_lt}
use Rattle.std.proofs.lemmas.List.{get_or_append_left, get_or-append-add, get_or-replicate, length-replicate, length-map, get_or_past}
use Rattle.std.proofs.lemmas.List.Elements.{All-nil, All-cons}
use Rattle.std.proofs.Math.ListN.{length-append}
use Rattle.std.specs.Prelude.{slice_index, if◌then◌else◌}
use Rattle.ctmc_semantics.specs.RoundedTables.{one_word}
use Rattle.step_core.specs.BoardRule.{Better, worst, IsWithin, FitNotes, WordsKept}
use Rattle.step_core.specs.CoreLists.{opening}
use Rattle.step_core.specs.Good.{IsPassOf, Good}
use Rattle.step_core.specs.Limits.{sizes_of, table_words, limits_of, goal_words, lower_start, upper_start, seal_start, opening_words}
use Rattle.step_core.specs.Places.{Sizes, cells, blocks, lower_place, upper_place, seal_place, ticket_place, stop_place, word_count, falls, IsSealOf, IsOfLayerZero, lower, upper, seal, block_of}
use Rattle.step_core.specs.PlanLists.{PlanLists}
use Rattle.step_core.specs.PlanTables.{plan_low, plan_high}
use Rattle.step_core.specs.SoundPlan.{IsSoundPlan}
use Rattle.step_core.proofs.BetterLemmas.{better_refl}
use Rattle.step_core.proofs.Layers.{set_layer}
use Rattle.step_core.proofs.LimitLemmas.{row_first, row_second, row_third, length_row, table_word, table_word_at, length-limits, lower_limit_at, upper_limit_at, seal_limit_at}
use Rattle.step_core.proofs.PlaceLemmas.{in_row, rises_low, falls_mid, rises_high, ticket_rises, stop_rises, block_in}
use Rattle.step_core.proofs.RowLemmas.{high_le_one}
use Rattle.step_core.proofs.TicketLemmas.{first_kept}

-- ---- a list that goes on with one word
start_first : (xs : List ℕ) (r x m : ℕ) → m < length xs → slice_index (xs ++ replicate r x) m ≡ slice_index xs m
start_first xs r x m lt = get_or_append_left xs (replicate r x) 0 m lt

start_rest : (xs : List ℕ) (r x m : ℕ) → length xs ≤ m → m < length xs + r → slice_index (xs ++ replicate r x) m ≡ x
start_rest xs r x m ge lt =
    let e : m ≡ length xs + (m - length xs) = omega arith in
    let h : m - length xs < r = omega arith in
    ap (slice_index (xs ++ replicate r x)) e
    ∙ (get_or-append-add xs (replicate r x) (m - length xs) 0 ∙ get_or-replicate r (m - length xs) x 0 h)

length_start : (xs : List ℕ) (r x : ℕ) → length (xs ++ replicate r x) ≡ length xs + r
length_start xs r x = let k = length-replicate {A = ℕ} r x in omega (arith, length-append xs (replicate r x), k)

-- ---- a word is word 0, a lower word, an upper word, a seal, one of two more or none
by_kind : (P : ℕ → Type 0) (l t : ℕ) → P 0 → ((m : ℕ) → m < l → P (1 + m)) → ((m : ℕ) → m < l → P (1 + (l + m)))
    → ((m : ℕ) → m < t → P (1 + (2 * l + m))) → P (1 + (2 * l + t)) → P (1 + (2 * l + (t + 1)))
    → ((i : ℕ) → 1 + (2 * l + (t + 2)) ≤ i → P i) → (i : ℕ) → P i
by_kind P l t none lowers uppers seals ticket stop past zero = none
by_kind P l t none lowers uppers seals ticket stop past (suc i) =
    elim (cases_lt i l) [
      | inl lt ↦ (let e : 1 + i ≡ suc i = omega arith in subst P e (lowers i (omega arith)))
      | inr ge ↦
          elim (cases_lt i (2 * l)) [
            | inl lt2 ↦ (let e : 1 + (l + (i - l)) ≡ suc i = omega arith in subst P e (uppers (i - l) (omega arith)))
            | inr ge2 ↦
                elim (cases_lt i (2 * l + t)) [
                  | inl lt3 ↦ (let e : 1 + (2 * l + (i - 2 * l)) ≡ suc i = omega arith in subst P e (seals (i - 2 * l) (omega arith)))
                  | inr ge3 ↦
                      elim (cases_eq i (2 * l + t)) [
                        | inl e ↦ (let f : 1 + (2 * l + t) ≡ suc i = omega (arith, e) in subst P f ticket)
                        | inr ne ↦
                            elim (cases_eq i (2 * l + (t + 1))) [
                              | inl e ↦ (let f : 1 + (2 * l + (t + 1)) ≡ suc i = omega (arith, e) in subst P f stop)
                              | inr ne2 ↦ past (suc i) (omega (arith, ne, ne2))
                            ]
                      ]
                ]
          ]
    ]

within_rise : (z : Sizes) (limits : List ℕ) (i x : ℕ) → falls z i ≡ false → x ≤ slice_index limits i → IsWithin z limits i x
within_rise z limits i x up le = record {
  start = subst (λ (b : Bool). Better b (worst b) x) (sym up) zero-le;
  end = subst (λ (b : Bool). Better b x (slice_index limits i)) (sym up) le;
}

within_fall : (z : Sizes) (limits : List ℕ) (i x : ℕ) → falls z i ≡ true → x ≤ one_word → slice_index limits i ≤ x → IsWithin z limits i x
within_fall z limits i x down top le = record {
  start = subst (λ (b : Bool). Better b (worst b) x) (sym down) top;
  end = subst (λ (b : Bool). Better b x (slice_index limits i)) (sym down) le;
}

module _ (plan : PlanLists) (sound : IsSoundPlan plan) where
  abbrev z : Sizes
  z = sizes_of plan

  abbrev n : ℕ
  n = length plan.frame.rows

  abbrev l : ℕ
  l = cells z

  abbrev limits : List ℕ
  limits = limits_of plan

  abbrev words : List ℕ
  words = opening_words plan

  length_goal : length (goal_words plan) ≡ n
  length_goal =
      length-map plan.frame.sets.goal_must (λ holds. if holds then one_word else 0) ∙ sound.frame.sets.goal_must_states

  length_lower : length (lower_start plan) ≡ l
  length_lower = omega (arith, length_start (goal_words plan) (plan.layers * n) 0, length_goal)

  length_upper : length (upper_start plan) ≡ l
  length_upper = omega (arith, length_start plan.start_upper (plan.layers * n) one_word, sound.start_states)

  length_ones : length {A = ℕ} (replicate (blocks z) 1) ≡ blocks z
  length_ones = length-replicate {A = ℕ} (blocks z) 1

  length_seal : length (seal_start plan) ≡ (plan.layers + 1) * blocks z
  length_seal = omega (arith, length_start (replicate (blocks z) 1) (plan.layers * blocks z) 0, length_ones)

  abbrev rest : List ℕ
  rest = seal_start plan ++ replicate 2 0

  length_rest : length rest ≡ (plan.layers + 1) * blocks z + 2
  length_rest = omega (arith, length-append (seal_start plan) (replicate 2 0), length_seal)

  -- ---- the words by their place among the words of one kind
  lower_word : (m : ℕ) → m < l → slice_index words (1 + m) ≡ slice_index (lower_start plan) m
  lower_word m h = row_first (lower_start plan) (upper_start plan) rest m (omega (arith, length_lower))

  upper_word : (m : ℕ) → m < l → slice_index words (1 + (l + m)) ≡ slice_index (upper_start plan) m
  upper_word m h =
      ap (λ (k : ℕ). slice_index words (1 + (k + m))) (sym length_lower)
      ∙ row_second (lower_start plan) (upper_start plan) rest m (omega (arith, length_upper))

  rest_word : (m : ℕ) → slice_index words (1 + (2 * l + m)) ≡ slice_index rest m
  rest_word m =
      let e : 1 + (2 * l + m) ≡ 1 + (length (lower_start plan) + length (upper_start plan) + m) = omega
      (arith, length_lower, length_upper) in
      ap (slice_index words) e ∙ row_third (lower_start plan) (upper_start plan) rest m

  seal_word : (m : ℕ) → m < (plan.layers + 1) * blocks z → slice_index words (1 + (2 * l + m)) ≡ slice_index (seal_start plan) m
  seal_word m h = rest_word m ∙ get_or_append_left (seal_start plan) (replicate 2 0) 0 m (omega (arith, length_seal, h))

  last_word : (m : ℕ) → m < 2 → slice_index words (1 + (2 * l + ((plan.layers + 1) * blocks z + m))) ≡ 0
  last_word m h =
      rest_word ((plan.layers + 1) * blocks z + m)
      ∙ (ap (λ (k : ℕ). slice_index rest (k + m)) (sym length_seal)
      ∙ (get_or-append-add (seal_start plan) (replicate 2 0) m 0 ∙ get_or-replicate 2 m 0 0 h))

  -- no ticket is drawn
  pub first_ticket : slice_index words (ticket_place z) ≡ 0
  first_ticket =
      let e : ticket_place z ≡ 1 + (2 * l + ((plan.layers + 1) * blocks z + 0)) = omega arith in
      ap (slice_index words) e ∙ last_word 0 (omega arith)

  -- nor is a stop told
  pub first_stop : slice_index words (stop_place z) ≡ 0
  first_stop = last_word 1 (omega arith)

  -- ---- layer 0 is at its limits
  first_lower : (s : ℕ) → s < n → slice_index (lower_start plan) s ≡ slice_index (table_words z (plan_low plan)) s
  first_lower s h =
      let e : s ≡ 0 * n + s = omega arith in
      start_first (goal_words plan) (plan.layers * n) 0 s (omega (arith, length_goal))
      ∙ ((set_layer n plan.frame.sets.goal_must sound.frame.sets.goal_must_states).words s h
      ∙ sym (ap (slice_index (table_words z (plan_low plan))) e ∙ table_word z (plan_low plan) 0 s zero-le h))

  first_upper : (s : ℕ) → s < n → slice_index (upper_start plan) s ≡ slice_index (table_words z (plan_high plan)) s
  first_upper s h =
      let e : s ≡ 0 * n + s = omega arith in
      start_first plan.start_upper (plan.layers * n) one_word s (omega (arith, sound.start_states))
      ∙ sym (ap (slice_index (table_words z (plan_high plan))) e ∙ table_word z (plan_high plan) 0 s zero-le h)

  first_seal : (b : ℕ) → b < blocks z → slice_index (seal_start plan) b ≡ 1
  first_seal b h =
      start_first (replicate (blocks z) 1) (plan.layers * blocks z) 0 b (omega (arith, length_ones)) ∙ get_or-replicate (blocks z) b 1 0 h

  other_seal : (m : ℕ) → blocks z ≤ m → m < (plan.layers + 1) * blocks z → slice_index (seal_start plan) m ≡ 0
  other_seal m ge lt =
      start_rest (replicate (blocks z) 1) (plan.layers * blocks z) 0 m (omega (arith, length_ones)) (omega (arith, length_ones))

  -- ---- each word is within its limit
  lower_le : (m : ℕ) → m < l → slice_index (lower_start plan) m ≤ slice_index (table_words z (plan_low plan)) m
  lower_le m h =
      elim (cases_lt m n) [
        | inl lt ↦ omega (arith, first_lower m lt)
        | inr ge ↦ omega (
          arith,
          start_rest (goal_words plan) (plan.layers * n) 0 m (omega (arith, length_goal, ge)) (omega
              (arith, length_goal)),
        )
      ]

  some : 0 < n
  some = let h = sound.frame.some in omega (arith, h)

  high_word_le : (m : ℕ) → m < l → slice_index (table_words z (plan_high plan)) m ≤ one_word
  high_word_le m h =
      subst (λ (x : ℕ). x ≤ one_word) (sym (table_word_at z (plan_high plan) m h))
      (high_le_one plan sound (m / n) (m % n) (mod-lt m some))

  upper_between : (m : ℕ) → m < l
      → (slice_index (upper_start plan) m ≤ one_word) × (slice_index (table_words z (plan_high plan)) m ≤ slice_index (upper_start plan) m)
  upper_between m h =
      let top = high_word_le m h in
      elim (cases_lt m n) [
        | inl lt ↦ (let e = first_upper m lt in (omega (arith, e, top), omega (arith, e)))
        | inr ge ↦ (
            let e = start_rest plan.start_upper (plan.layers * n) one_word m (omega (arith, sound.start_states, ge)) (omega
            (arith, sound.start_states)) in
            (omega (arith, e), omega (arith, e, top)))
      ]

  seal_le : (m : ℕ) → m < (plan.layers + 1) * blocks z → slice_index (seal_start plan) m ≤ 1
  seal_le m h =
      elim (cases_lt m (blocks z)) [
        | inl lt ↦ omega (arith, first_seal m lt)
        | inr ge ↦ omega (arith, other_seal m ge h)
      ]

  pub length-opening_words : length words ≡ word_count z
  length-opening_words = omega (
    arith,
    length_row (lower_start plan) (upper_start plan)
        rest,
    length_lower,
    length_upper,
    length_rest,
  )

  all_within : (i : ℕ) → IsWithin z limits i (slice_index words i)
  all_within =
      by_kind (λ i. IsWithin z limits i (slice_index words i)) l ((plan.layers + 1) * blocks z)
      (within_rise z limits 0 0 (rises_low z 0 zero-le) (le_refl 0))
      (λ m h. within_rise z limits (1 + m) _ (rises_low z (1 + m) (omega arith)) (omega
      (arith, lower_word m h, lower_limit_at plan m h, lower_le m h)))
      (λ m h. let b = upper_between m h in
      within_fall z limits (1 + (l + m)) _ (falls_mid z (1 + (l + m)) (omega arith) (omega arith)) (omega (arith, upper_word m h, b.0))
      (omega (arith, upper_word m h, upper_limit_at plan m h, b.1)))
      (λ m h. within_rise z limits (1 + (2 * l + m)) _ (rises_high z (1 + (2 * l + m)) (omega arith))
      (omega (arith, seal_word m h, seal_limit_at plan m h, seal_le m h)))
      (within_rise z limits (ticket_place z) _ (ticket_rises z) (let e = first_ticket in omega (arith, e)))
      (within_rise z limits (stop_place z) _ (stop_rises z) (let e = first_stop in omega (arith, e)))
      (λ i h. within_rise z limits i _ (rises_high z i (omega arith))
      (let e = get_or_past words i 0 (omega (arith, length-opening_words)) in omega (arith, e)))

  lower_zero : (s : ℕ) → s < n → slice_index words (lower_place z 0 s) ≡ slice_index limits (lower_place z 0 s)
  lower_zero s h =
      let m : ℕ = 0 * n + s in
      let lt : m < l = in_row plan.layers 0 n s zero-le h in
      let e : s ≡ m = omega arith in
      lower_word m lt ∙ (subst (λ (k : ℕ). slice_index (lower_start plan) k ≡ slice_index (table_words z (plan_low plan)) k) e
      (first_lower s h)
      ∙ sym (lower_limit_at plan m lt))

  upper_zero : (s : ℕ) → s < n → slice_index words (upper_place z 0 s) ≡ slice_index limits (upper_place z 0 s)
  upper_zero s h =
      let m : ℕ = 0 * n + s in
      let lt : m < l = in_row plan.layers 0 n s zero-le h in
      let e : s ≡ m = omega arith in
      upper_word m lt ∙ (subst (λ (k : ℕ). slice_index (upper_start plan) k ≡ slice_index (table_words z (plan_high plan)) k) e
      (first_upper s h)
      ∙ sym (upper_limit_at plan m lt))

  pub seal_zero : (b : ℕ) → b < blocks z → slice_index words (seal_place z 0 b) ≡ slice_index limits (seal_place z 0 b)
  seal_zero b h =
      let m : ℕ = 0 * blocks z + b in
      let lt : m < (plan.layers + 1) * blocks z = in_row plan.layers 0 (blocks z) b zero-le h in
      let e : b ≡ m = omega arith in
      seal_word m lt ∙ (subst (λ (k : ℕ). slice_index (seal_start plan) k ≡ 1) e (first_seal b h) ∙ sym (seal_limit_at plan m lt))

  at_limit : (i j : ℕ) → i ≡ j → slice_index words j ≡ slice_index limits j → slice_index words i ≡ slice_index limits i
  at_limit i j e q = subst (λ (k : ℕ). slice_index words k ≡ slice_index limits k) (sym e) q

  all_zero : (i : ℕ) → IsOfLayerZero z i → slice_index words i ≡ slice_index limits i
  all_zero i (lower s h e) = at_limit i (lower_place z 0 s) e (lower_zero s h)
  all_zero i (upper s h e) = at_limit i (upper_place z 0 s) e (upper_zero s h)
  all_zero i (seal b h e) = at_limit i (seal_place z 0 b) e (seal_zero b h)

  all_sealed : (i j : ℕ) → IsSealOf z i j → 0 < slice_index words i → slice_index words j ≡ slice_index limits j
  all_sealed i j g on =
      elim (cases_eq g.layer 0) [
        | inl first ↦
            elim g.is_word [
              | inl e ↦ all_zero j (lower g.state g.state_in (e ∙ ap (λ (k : ℕ). lower_place z k g.state) first))
              | inr e ↦ all_zero j (upper g.state g.state_in (e ∙ ap (λ (k : ℕ). upper_place z k g.state) first))
            ]
        | inr later ↦ (
            let b : ℕ = block_of g.state in
            let inside : b < blocks z = block_in z g.layer g.state g.layer_in g.state_in in
            let row = in_row plan.layers g.layer (blocks z) b g.layer_in inside in
            let m : ℕ = g.layer * blocks z + b in
            let one : 1 ≤ g.layer = omega (arith, later) in
            let past : 1 * blocks z ≤ g.layer * blocks z = mul-le-mul_right (blocks z) one in
            let ge : blocks z ≤ m = omega arith in
            let e : slice_index words i ≡ 0 = ap (slice_index words) g.is_seal ∙ (seal_word m row ∙ other_seal m ge row) in
            absurd (omega (arith, e)))
      ]

  pub opening_kept : WordsKept z limits words
  opening_kept = record {
    count = length-opening_words ∙ sym (length-limits plan);
    within = all_within;
    layer_zero = all_zero;
    sealed = all_sealed;
  }

  pub opening_fits : FitNotes z words words
  opening_fits = record { start = λ i. (all_within i).start; below = λ i. better_refl (falls z i) (slice_index words i) }

  -- the machine at the start is good
  pub good_opening : Good plan (opening plan)
  good_opening = record {
    sizes = refl;
    words = opening_kept;
    passes = All-cons (IsPassOf z words) _ [] record { size = refl; fits = λ _. opening_fits } (All-nil (IsPassOf z words));
    tickets = first_kept first_ticket;
  }
