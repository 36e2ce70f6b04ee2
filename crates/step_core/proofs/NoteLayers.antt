-- A pass's notes of a layer, as a part of its list of notes: the words that row values are made of.
use Rattle.std.proofs.Common.{◌≡◌, ℕ, ◌+◌, ◌-◌, ◌*◌, ◌/◌, ◌<◌, ◌≤◌, List, [], length, take, drop, get_or, map, Bool, true, false, sym, ap, ◌∙◌, subst, inl, inr, arith}
use Rattle.std.proofs.lemmas.Bool.{eq-eqb, ne_eqb, and_left, cases_eq}
use Rattle.std.proofs.lemmas.List.{get_or-take, get_or-drop, length-take-le, length-drop, get_or_default, get_or-map, length-map}
use Rattle.std.proofs.lemmas.List.FromFn.{get_or-range_with_len, length-range_with_len}
use Rattle.std.proofs.lemmas.List.Folds.{list_all_at}
use Rattle.std.proofs.lemmas.List.Sums.{list_all-from_AllPass}
use Rattle.std.specs.List.{All, sum_by, list_all, range_with_len}
use Rattle.std.specs.Int.{div_ceil}
use Rattle.std.specs.Prelude.{IsTrue, ◌&&◌, slice_index, nat_eq, if◌then◌else◌}
use Rattle.ctmc_semantics.specs.RoundedTables.{one_word}
use Rattle.ctmc_semantics.specs.Sets.{holds_at}
use Rattle.step_core.specs.CoreLists.{CoreLists, pass_at, lower_at, upper_at}
use Rattle.step_core.specs.Events.{plan_row_low, plan_row_high}
use Rattle.step_core.specs.FrameLists.{RowLists}
use Rattle.step_core.specs.FrameRows.{row_at, frame_rows}
use Rattle.step_core.specs.Good.{Good}
use Rattle.step_core.specs.Limits.{sizes_of}
use Rattle.step_core.specs.Places.{Sizes, lower_place, upper_place, word_count}
use Rattle.step_core.specs.PlanLists.{PlanLists}
use Rattle.step_core.specs.PlanTables.{IsLayer, IsTable, layer_at}
use Rattle.step_core.specs.SoundFrame.{IsSoundRow}
use Rattle.step_core.specs.SoundPlan.{IsSoundPlan}
use Rattle.step_core.proofs.CoreLemmas.{size-notes, note_under, note_le_one}
use Rattle.step_core.proofs.Layers.{low_is, high_is, row_low-same, row_high-same}
use Rattle.step_core.proofs.PlaceLemmas.{in_row}
use Rattle.step_core.proofs.RowLemmas.{low_le_one}

-- a part of a list
part_at : (ns words : List ℕ) (start n t : ℕ) → words ≡ take n (drop start ns) → t < n → slice_index words t ≡ slice_index ns (start + t)
part_at ns words start n t is lt =
    ap (λ ys. slice_index ys t) is ∙ (get_or-take n (drop start ns) t 0 lt ∙ get_or-drop start ns t 0)

part_length : (ns words : List ℕ) (start n : ℕ) → words ≡ take n (drop start ns) → start + n ≤ length ns → length words ≡ n
part_length ns words start n is le = ap length is ∙ length-take-le n (drop start ns) (omega (arith, length-drop start ns))

module _ (plan : PlanLists) (core : CoreLists) (sound : IsSoundPlan plan) (good : Good plan core) (pass : ℕ)
    (live : IsTrue (pass_at core pass).live) (k s : ℕ) (le : k ≤ plan.layers) (lt : s < length plan.frame.rows) where
  abbrev z : Sizes
  z = sizes_of plan

  abbrev n : ℕ
  n = length plan.frame.rows

  abbrev notes : List ℕ
  notes = (pass_at core pass).notes

  size : length notes ≡ word_count z
  size = size-notes plan core good pass live

  some : 0 < n
  some = let h = sound.frame.some in omega (arith, h)

  sound_row : {row : RowLists} → row ≡ row_at plan.frame.rows s → IsSoundRow n row
  sound_row {row} here = subst (IsSoundRow n) (sym here) (sound.frame.rows s _ lt)

  module _ {words : List ℕ} (is : words ≡ take n (drop (lower_place z k 0) notes)) where
    lower_words : (t : ℕ) → t < n → slice_index words t ≡ lower_at z notes k t
    lower_words t l =
        let e : lower_place z k 0 + t ≡ lower_place z k t = omega arith in
        part_at notes words (lower_place z k 0) n t is l ∙ ap (slice_index notes) e

    lower_length : length words ≡ n
    lower_length =
        part_length notes words (lower_place z k 0) n is layer_fits
      where
        layer_fits : lower_place z k 0 + n ≤ length notes
        layer_fits = let last = in_row plan.layers k n (n - 1) le (omega (arith, some)) in omega (arith, last, size, some)

    pub lower_row : {row : RowLists} → row ≡ row_at plan.frame.rows s → IsSoundRow (length words) row
    lower_row {row} here = subst (λ (m : ℕ). IsSoundRow m row) (sym lower_length) (sound_row here)

    pub lower_le_one : All (λ w. w ≤ one_word) words
    lower_le_one t d l =
        let inside : t < n = omega (arith, lower_length, l) in
        let under = note_under plan core good pass live k t le inside in
        let top = low_le_one plan sound k t inside in
        let e = get_or_default words t d 0 l ∙ lower_words t inside in
        omega (arith, e, under, top)

    pub row_low_is : {row : RowLists} {is_goal is_live : Bool} {v : ℕ} → row ≡ row_at plan.frame.rows s
        → is_goal ≡ holds_at plan.frame.sets.goal_must s → is_live ≡ holds_at plan.frame.sets.live_must s
        → v ≡ (if is_goal then one_word else (if is_live then sum_by (λ e. e.num * slice_index words e.to) row.entries / row.den else 0))
        → v ≡ plan_row_low plan (lower_at z notes k) s
    row_low_is here g l e =
        low_is plan.frame.rows (holds_at plan.frame.sets.live_must) (holds_at plan.frame.sets.goal_must) words s here g l
        (sound_row here).targets e
        ∙ row_low-same (frame_rows plan.frame.rows) (holds_at plan.frame.sets.live_must) (holds_at plan.frame.sets.goal_must)
        (slice_index words) (lower_at z notes k) lower_words s

  module _ {words : List ℕ} (is : words ≡ take n (drop (upper_place z k 0) notes)) where
    upper_words : (t : ℕ) → t < n → slice_index words t ≡ upper_at z notes k t
    upper_words t l =
        let e : upper_place z k 0 + t ≡ upper_place z k t = omega arith in
        part_at notes words (upper_place z k 0) n t is l ∙ ap (slice_index notes) e

    upper_length : length words ≡ n
    upper_length = part_length notes words (upper_place z k 0) n is layer_fits
      where
        layer_fits : upper_place z k 0 + n ≤ length notes
        layer_fits = let last = in_row plan.layers k n (n - 1) le (omega (arith, some)) in omega (arith, last, size, some)

    pub upper_row : {row : RowLists} → row ≡ row_at plan.frame.rows s → IsSoundRow (length words) row
    upper_row {row} here = subst (λ (m : ℕ). IsSoundRow m row) (sym upper_length) (sound_row here)

    pub upper_le_one : All (λ w. w ≤ one_word) words
    upper_le_one t d l =
        let inside : t < n = omega (arith, upper_length, l) in
        let top = note_le_one plan core good pass live k t le inside in
        let e = get_or_default words t d 0 l ∙ upper_words t inside in
        omega (arith, e, top)

    pub row_high_is : {row : RowLists} {is_goal is_live : Bool} {v : ℕ} → row ≡ row_at plan.frame.rows s
        → is_goal ≡ holds_at plan.frame.sets.goal_may s → is_live ≡ holds_at plan.frame.sets.live_may s
        → v
        ≡ (if is_goal then one_word else (if is_live then div_ceil (sum_by
        (λ e. e.num * slice_index words e.to) row.entries) row.den else 0))
        → v ≡ plan_row_high plan (upper_at z notes k) s
    row_high_is here g l e =
        high_is plan.frame.rows (holds_at plan.frame.sets.live_may) (holds_at plan.frame.sets.goal_may) words s here g l
        (sound_row here).targets e
        ∙ row_high-same (frame_rows plan.frame.rows) (holds_at plan.frame.sets.live_may) (holds_at plan.frame.sets.goal_may)
        (slice_index words) (upper_at z notes k) upper_words s

-- ---- a read of a plan's tables
pub table_read : {X : Type 0} (f : X → List ℕ) (xs : List X) {table : List (List ℕ)} {n last k : ℕ} {word : ℕ → ℕ → ℕ} {v : X}
    → map f xs ≡ table → v ≡ get_or xs k v → k ≤ last → IsTable n last word table → IsLayer n (word k) (f v)
table_read f xs {table} {n} {last} {k} {word} {v} same read le t =
    let size : length xs ≡ length table = sym (length-map xs f) ∙ ap length same in
    let inside : k < length xs = omega (arith, size, t.layers) in
    let is : f v ≡ layer_at table k = ap f read ∙ (sym (get_or-map f xs k v [] inside) ∙ ap (λ ys. layer_at ys k) same) in
    subst (IsLayer n (word k)) (sym is) (t.layer k le)

-- ---- two tests in turn
pub both_equal : {a b c d a' b' c' d' : ℕ} → a ≡ a' → b ≡ b' → c ≡ c' → d ≡ d' → a ≡ b → nat_eq c d ≡ (nat_eq a' b' && nat_eq c' d')
both_equal {a} {b} {c} {d} {a'} {b'} {c'} {d'} ea eb ec ed e =
    (λ t. nat_eq (ec t) (ed t)) ∙ sym (ap (λ (x : Bool). x && nat_eq c' d') (eq-eqb a' b' (sym ea ∙ (e ∙ eb))))

pub first_differs : {a b a' b' : ℕ} (x : Bool) → a ≡ a' → b ≡ b' → (a ≡ b → ⊥) → nat_eq a b ≡ (nat_eq a' b' && x)
first_differs {a} {b} {a'} {b'} x ea eb ne =
    ne_eqb a b ne ∙ sym (and_left (nat_eq a' b') x (ne_eqb a' b' (λ q. ne (ea ∙ (q ∙ sym eb)))))

-- ---- a test of each number of a range
pub all_of_range : (p : ℕ → Bool) (a n : ℕ) → ((i : ℕ) → i < n → IsTrue (p (a + i))) → true ≡ list_all p (range_with_len a n)
all_of_range p a n h =
    sym (list_all-from_AllPass p (range_with_len a n) (λ i d l.
    let inside : i < n = omega (arith, l, length-range_with_len a n) in
    subst (λ (t : ℕ). IsTrue (p t)) (sym (get_or-range_with_len a n i d inside)) (h i inside)))

pub not_all_of_range : (p : ℕ → Bool) (a n i : ℕ) → i < n → p (a + i) ≡ false → false ≡ list_all p (range_with_len a n)
not_all_of_range p a n i lt h =
    sym (list_all_at p (range_with_len a n) i 0 (omega (arith, lt, length-range_with_len a n))
    (ap p (get_or-range_with_len a n i 0 lt) ∙ h))

pub one_more : (p : ℕ → Bool) (a i : ℕ) → ((j : ℕ) → j < i → IsTrue (p (a + j))) → IsTrue (p (a + i)) → (j : ℕ) → j < i + 1
    → IsTrue (p (a + j))
one_more p a i h here j lt =
    elim (cases_eq j i) [
      | inl e ↦ subst (λ (t : ℕ). IsTrue (p (a + t))) (sym e) here
      | inr ne ↦ h j (omega (arith, ne))
    ]
