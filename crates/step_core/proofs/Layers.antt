-- Layers of words: how a word of the next one is a row's value, and how a table grows.
use Rattle.std.proofs.Common.{◌≡◌, ℕ, suc, ◌+◌, ◌*◌, ◌/◌, ◌≤◌, ◌<◌, Bool, true, false, map, List, [], ◌∷◌, ◌++◌, length, get_or, refl, ap}
use Rattle.std.proofs.Common.{sym, ◌∙◌, subst, arith, length-append}
use Rattle.std.proofs.lemmas.List.{get_or-map, get_or_default, get_or_append_left, length-map, map-append}
use Rattle.std.proofs.Math.ListN.{get_or-map as read_mapped}
use Rattle.std.proofs.Math.Seq.{get_or-append_seam}
use Rattle.std.proofs.Math.Decide.{dec_le}
use Rattle.std.specs.Prelude.{slice_index, if◌then◌else◌}
use Rattle.std.specs.List.{All, sum_by}
use Rattle.std.specs.Int.{div_ceil}
use Rattle.ctmc_semantics.specs.Rows.{Rows}
use Rattle.ctmc_semantics.specs.Sets.{holds_at}
use Rattle.ctmc_semantics.specs.RoundedTables.{one_word, set_words, row_low, row_high}
use Rattle.ctmc_semantics.proofs.Sums.{sum_below-same}
use Rattle.step_core.specs.FrameLists.{RowLists, SetLists}
use Rattle.step_core.specs.FrameRows.{row_at, frame_rows}
use Rattle.step_core.specs.PlanLists.{PlanLists}
use Rattle.step_core.specs.PlanTables.{IsLayer, IsTable, layer_at, plan_low, plan_high}
use Rattle.step_core.proofs.Entries.{entries_sum}

module _ (rows : List RowLists) (live goal : ℕ → Bool) (xs : List ℕ) (s : ℕ) {row : RowLists} {is_goal is_live : Bool} {v : ℕ}
    (here : row ≡ row_at rows s) (g : is_goal ≡ goal s) (l : is_live ≡ live s)
    (targets : All (λ e. e.to < length rows) row.entries) where
  pub low_is : v ≡ (if is_goal then one_word else (if is_live then sum_by (λ e. e.num * slice_index xs e.to) row.entries / row.den else 0))
      → v ≡ row_low (frame_rows rows) live goal (slice_index xs) s
  low_is e =
      let sums = entries_sum (length rows) row.entries (slice_index xs) targets in
      e ∙ rw (sums, here, g, l) refl

  pub high_is : v
      ≡ (if is_goal then one_word else (if is_live then div_ceil (sum_by (λ e. e.num * slice_index xs e.to) row.entries) row.den else 0))
      → v ≡ row_high (frame_rows rows) live goal (slice_index xs) s
  high_is e =
      let sums = entries_sum (length rows) row.entries (slice_index xs) targets in
      e ∙ rw (sums, here, g, l) refl

-- what a read of a list of truth values gives
pub truth_at : {xs ys : List Bool} {s : ℕ} {b : Bool} → b ≡ get_or xs s b → xs ≡ ys → s < length ys → b ≡ holds_at ys s
truth_at {xs} {ys} {s} {b} e same l = e ∙ (ap (λ z. get_or z s b) same ∙ get_or_default ys s b false l)

-- a row's value reads the words of the states alone
pub row_low-same : (r : Rows) (live goal : ℕ → Bool) (x y : ℕ → ℕ) → ((t : ℕ) → t < r.states → x t ≡ y t) → (s : ℕ)
    → row_low r live goal x s ≡ row_low r live goal y s
row_low-same r live goal x y h s =
    let e = sum_below-same r.states (λ t. r.num s t * x t) (λ t. r.num s t * y t) (λ t l. ap (λ z. r.num s t * z) (h t l)) in
    ap (λ z. if goal s then one_word else (if live s then z / r.den s else 0)) e

pub row_high-same : (r : Rows) (live goal : ℕ → Bool) (x y : ℕ → ℕ) → ((t : ℕ) → t < r.states → x t ≡ y t) → (s : ℕ)
    → row_high r live goal x s ≡ row_high r live goal y s
row_high-same r live goal x y h s =
    let e = sum_below-same r.states (λ t. r.num s t * x t) (λ t. r.num s t * y t) (λ t l. ap (λ z. r.num s t * z) (h t l)) in
    ap (λ z. if goal s then one_word else (if live s then div_ceil z (r.den s) else 0)) e

-- the first layer alone is a table
pub first_table : (n : ℕ) (word : ℕ → ℕ → ℕ) (layer : List ℕ) → IsLayer n (word 0) layer → IsTable n 0 word (layer ∷ [])
first_table n word layer h = record {
  layers = refl;
  layer = λ k l. let e : k ≡ 0 = omega arith in rw e h;
}

-- a table with one more layer at its end
pub table_grows : (n last more : ℕ) (word : ℕ → ℕ → ℕ) (table : List (List ℕ)) (layer : List ℕ) → more ≡ suc last
    → IsTable n last word table → IsLayer n (word more) layer → IsTable n more word (table ++ layer ∷ [])
table_grows n last more word table layer e t h = record {
  layers = rw length-append (omega (arith, t.layers));
  layer = λ k l. elim (dec_le k last) [
    | yes i ↦ (
        let inside : k < length table = omega (arith, t.layers) in
        rw (get_or_append_left table (layer ∷ []) [] k inside) (t.layer k i))
    | no g ↦ (
        let last_one : k ≡ more = omega arith in
        let seam : length table ≡ more = omega (arith, t.layers) in
        let here : get_or (table ++ layer ∷ []) more [] ≡ layer =
        subst (λ (m : ℕ). get_or (table ++ layer ∷ []) m [] ≡ layer) seam (get_or-append_seam table layer [] []) in
        rw (last_one, here) h)
  ];
}

-- the words of a set are a layer, and none is above 1
pub set_word_le : (b : Bool) → (if b then one_word else 0) ≤ one_word
set_word_le true = omega arith
set_word_le false = omega arith

pub set_layer : (n : ℕ) (set : List Bool) → length set ≡ n
    → IsLayer n (set_words (holds_at set)) (map (λ holds. if holds then one_word else 0) set)
set_layer n set e = record {
  states = length-map set (λ holds. if holds then one_word else 0) ∙ e;
  words = λ s l. read_mapped (λ holds. if holds then one_word else 0) set s false;
}

pub set_layer_le : (set : List Bool) → All (λ w. w ≤ one_word) (map (λ holds. if holds then one_word else 0) set)
set_layer_le set k d l =
    let inside : k < length set = omega (arith, length-map set (λ holds. if holds then one_word else 0)) in
    rw (get_or-map (λ holds. if holds then one_word else 0) set k false d inside) (set_word_le (get_or set k false))

-- words that are those of a set are none above 1
pub words_le : (n : ℕ) (xs : List ℕ) (set : ℕ → Bool) → length xs ≡ n → ((s : ℕ) → s < n → slice_index xs s ≡ set_words set s)
    → All (λ w. w ≤ one_word) xs
words_le n xs set e h k d l =
    rw (get_or_default xs k d 0 l, h k (omega arith)) (set_word_le (set k))

module _ {X : Type 0} (f : X → List ℕ) where
  -- what a read of a list of layers gives
  pub layer_read : (xs : List X) {n k : ℕ} {word : ℕ → ℕ → ℕ} {v : X} {before : List ℕ} → before ≡ f v → v ≡ get_or xs k v
      → IsTable n k word (map f xs) → before ≡ layer_at (map f xs) k
  layer_read xs {n} {k} {word} {v} {before} e read t =
      let inside : k < length xs = omega (arith, length-map xs f, t.layers) in
      e ∙ (ap f read ∙ sym (get_or-map f xs k v [] inside))

  -- it has a word for each state
  pub layer_states : (xs : List X) {n k : ℕ} {word : ℕ → ℕ → ℕ} {v : X} {before : List ℕ} → before ≡ f v → v ≡ get_or xs k v
      → IsTable n k word (map f xs) → length before ≡ n
  layer_states xs {n} {k} e read t = ap length (layer_read xs e read t) ∙ (t.layer k (omega arith)).states

  -- the last layer of a table that has grown
  pub last_layer : (xs : List X) {ys : List X} (x : X) {k : ℕ} → ys ≡ xs ++ x ∷ [] → length (map f xs) ≡ suc k
      → layer_at (map f ys) (k + 1) ≡ f x
  last_layer xs {ys} x {k} grown len =
      let seam : length (map f xs) ≡ k + 1 = omega arith in
      let here : get_or (map f xs ++ f x ∷ []) (k + 1) [] ≡ f x =
      subst (λ (m : ℕ). get_or (map f xs ++ f x ∷ []) m [] ≡ f x) seam (get_or-append_seam (map f xs) (f x) [] []) in
      rw (grown, map-append f xs (x ∷ [])) here

  -- a table grows by the row values over its last layer, where a row value reads the words of the states alone
  grows : (n : ℕ) (row : (ℕ → ℕ) → ℕ → ℕ) (word : ℕ → ℕ → ℕ)
      → ((x y : ℕ → ℕ) → ((t : ℕ) → t < n → x t ≡ y t) → (s : ℕ) → row x s ≡ row y s)
      → (k : ℕ) → ((s : ℕ) → row (word k) s ≡ word (suc k) s)
      → (xs ys : List X) (x : X) (before : List ℕ) → ys ≡ xs ++ x ∷ [] → before ≡ layer_at (map f xs) k
      → IsTable n k word (map f xs) → IsLayer n (row (slice_index before)) (f x) → IsTable n (k + 1) word (map f ys)
  grows n row word reads k step xs ys x before grown read t h =
      let words : (s : ℕ) → s < n → slice_index before s ≡ word k s =
      λ s l. ap (λ z. slice_index z s) read ∙ (t.layer k (omega arith)).words s l in
      let next : IsLayer n (word (suc k)) (f x) = record {
        states = h.states;
        words = λ s l. h.words s l ∙ (reads (slice_index before) (word k) words s ∙ step s);
      } in
      let more : k + 1 ≡ suc k = omega arith in
      rw (grown, map-append f xs (x ∷ []))
      (table_grows n k (k + 1) word (map f xs) (f x) more t (subst (λ (m : ℕ). IsLayer n (word m) (f x)) (sym more) next))

  -- so do a plan's two tables
  module _ (plan : PlanLists) {rows : List RowLists} {sets : SetLists}
      (same_rows : rows ≡ plan.frame.rows) (same_sets : sets ≡ plan.frame.sets) (k : ℕ) (xs : List X) (x : X)
      {ys : List X} {before : List ℕ} (grown : ys ≡ xs ++ x ∷ []) (read : before ≡ layer_at (map f xs) k) where
    pub low_grows : IsTable (length plan.frame.rows) k (plan_low plan) (map f xs)
        → IsLayer (length rows) (row_low (frame_rows rows) (holds_at sets.live_must) (holds_at sets.goal_must) (slice_index before)) (f x)
        → IsTable (length plan.frame.rows) (k + 1) (plan_low plan) (map f ys)
    low_grows t h =
        grows (length plan.frame.rows) _ (plan_low plan)
        (row_low-same (frame_rows plan.frame.rows) (holds_at plan.frame.sets.live_must) (holds_at plan.frame.sets.goal_must)) k (λ s. refl)
        xs ys x before grown read t (rw (same_rows, same_sets) at h)

    pub high_grows : IsTable (length plan.frame.rows) k (plan_high plan) (map f xs)
        → IsLayer (length rows) (row_high (frame_rows rows) (holds_at sets.live_may) (holds_at sets.goal_may) (slice_index before)) (f x)
        → IsTable (length plan.frame.rows) (k + 1) (plan_high plan) (map f ys)
    high_grows t h =
        grows (length plan.frame.rows) _ (plan_high plan)
        (row_high-same (frame_rows plan.frame.rows) (holds_at plan.frame.sets.live_may) (holds_at plan.frame.sets.goal_may)) k (λ s. refl)
        xs ys x before grown read t (rw (same_rows, same_sets) at h)

  -- the first layers of a plan's tables
  pub first_low : (plan : PlanLists) {ys : List X} {x : X} → ys ≡ x ∷ [] → {goals : List Bool}
      → f x ≡ map (λ holds. if holds then one_word else 0) goals → goals ≡ plan.frame.sets.goal_must
      → length plan.frame.sets.goal_must ≡ length plan.frame.rows → IsTable (length plan.frame.rows) 0 (plan_low plan) (map f ys)
  first_low plan e h same len =
      rw (e, h, same)
      (first_table (length plan.frame.rows) (plan_low plan) _ (set_layer (length plan.frame.rows) plan.frame.sets.goal_must len))

  pub first_high : (plan : PlanLists) {ys : List X} {x : X} → ys ≡ x ∷ [] → f x ≡ plan.start_upper
      → length plan.start_upper ≡ length plan.frame.rows → IsTable (length plan.frame.rows) 0 (plan_high plan) (map f ys)
  first_high plan e h len =
      rw (e, h)
      (first_table (length plan.frame.rows) (plan_high plan) plan.start_upper record { states = len; words = λ s l. refl })
