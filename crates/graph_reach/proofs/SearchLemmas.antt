-- The search backwards: what one more mark adds, and why it ends with the states from which jumps lead to the goal.
use Rattle.std.proofs.Common.{◌≡◌, ℕ, ◌+◌, ◌≤◌, ◌<◌, Bool, true, false, IsTrue, cond, List, [], ◌∷◌, ◌++◌, length}
use Rattle.std.proofs.Common.{get_or, set, take, ap, sym, ◌∙◌, subst}
use Rattle.std.proofs.Common.{inl, inr, arith}
use Rattle.std.proofs.lemmas.Bool.{cases_eq, cases_lt, false≢true}
use Rattle.std.proofs.lemmas.List.{take_more, get_or_append_left, get_or_push, get_or_past, get_or_default}
use Rattle.std.proofs.lemmas.List.{get_or-set_same, get_or-set_other, length_push}
use Rattle.std.proofs.lemmas.List.Elements.{Contains-append_left, Contains-push, Contains-push_cases}
use Rattle.std.proofs.lemmas.List.Sums.{sum_by-set}
use Rattle.std.specs.List.{Contains}
use Rattle.std.specs.Prelude.{◌↔◌, ◌⊎◌, slice_index}
use Rattle.ctmc_semantics.specs.Sets.{holds_at}
use Rattle.graph_reach.specs.Sources.{IsLinked}
use Rattle.graph_reach.specs.Search.{IsOrderOf, Extends, Leads, at_goal, onward}

-- a marked state is one of the states
pub state_of : (reach : List Bool) (s : ℕ) → IsTrue (holds_at reach s) → s < length reach
state_of reach s h =
    elim (cases_lt s (length reach)) [
      | inl inside ↦ inside
      | inr past ↦ absurd (false≢true (sym (get_or_past reach s false past) ∙ h))
    ]

-- ---- one more mark
module _ (reach : List Bool) (order : List ℕ) (state : ℕ) (inside : state < length reach) where
  still : (s : ℕ) → IsTrue (holds_at reach s) → IsTrue (holds_at (set reach state true) s)
  still s h =
      elim (cases_eq s state) [
        | inl same ↦ ap (λ z. holds_at (set reach state true) z) same ∙ get_or-set_same reach state true false inside
        | inr other ↦ get_or-set_other reach state s true false other ∙ h
      ]

  pub one_marked : holds_at reach state ≡ false → IsOrderOf reach order → IsOrderOf (set reach state true) (order ++ state ∷ [])
  one_marked fresh before = record {
    marked = λ k l. elim (cases_lt k (length order)) [
      | inl old ↦ (
          subst (λ (z : ℕ). IsTrue (holds_at (set reach state true) z)) (sym (get_or_append_left order (state ∷ []) 0 k old))
          (still (slice_index order k) (before.marked k old)))
      | inr past ↦ (
          let last : length order ≡ k = omega (arith, past, l, length_push order state) in
          subst (λ (z : ℕ). IsTrue (holds_at (set reach state true) z)) (sym (get_or_push order state 0 k last))
          (get_or-set_same reach state true false inside))
    ];
    listed = λ s h. elim (cases_eq s state) [
      | inl same ↦ subst (Contains (order ++ state ∷ [])) (sym same) (Contains-push order state)
      | inr other ↦ (
          Contains-append_left order (state ∷ []) s
          (before.listed s (sym (get_or-set_other reach state s true false other) ∙ h)))
    ];
    as_many =
        let counted = sum_by-set (λ b. cond b 1 0) reach state true false inside in
        omega (arith, length_push order state, before.as_many, rw fresh at counted);
  }

pub extends_on : {xs ys zs : List ℕ} → Extends xs ys → Extends ys zs → Extends xs zs
extends_on first second = record {
  longer = omega (arith, first.longer, second.longer);
  same = λ k l. second.same k (omega (arith, l, first.longer)) ∙ first.same k l;
}

-- ---- the end of the search
-- a set with the goal, in which all sources of its states are, has each state from which jumps lead to the goal
pub leads_in : (starts ends states : List ℕ) (goal reach : List Bool)
    → ((s : ℕ) → IsTrue (holds_at goal s) → IsTrue (holds_at reach s))
    → ((t : ℕ) → IsTrue (holds_at reach t) → (s : ℕ) → IsLinked starts ends states s t → IsTrue (holds_at reach s))
    → {s : ℕ} → Leads starts ends states goal s → IsTrue (holds_at reach s)
leads_in starts ends states goal reach goals closed (at_goal {s} won) = goals s won
leads_in starts ends states goal reach goals closed (onward {s} {t} linked rest) =
    closed t (leads_in starts ends states goal reach goals closed rest) s linked

-- when each state of the order had its turn, the sources of all marked states are marked
pub all_looked : (starts ends states : List ℕ) (reach : List Bool) (order : List ℕ) (turn : ℕ) → IsOrderOf reach order
    → length order ≤ turn
    → ((k : ℕ) → k < turn → (s : ℕ) → IsLinked starts ends states s (slice_index order k) → IsTrue (holds_at reach s))
    → (t : ℕ) → IsTrue (holds_at reach t) → (s : ℕ) → IsLinked starts ends states s t → IsTrue (holds_at reach s)
all_looked starts ends states reach order turn sound done closed t h s linked =
    let found = sound.listed t h in
    let is : slice_index order found.0 ≡ t = get_or_default order found.0 0 t found.1 ∙ found.2 in
    closed found.0 (omega (arith, found.1, done)) s (subst (IsLinked starts ends states s) (sym is) linked)

-- ---- one more turn
-- what is read from the order is a state
pub at_turn : {reach : List Bool} {order : List ℕ} {n turn target : ℕ} → IsOrderOf reach order → length reach ≡ n → turn < length order
    → target ≡ get_or order turn target → (target ≡ slice_index order turn) × (target < n)
at_turn {reach} {order} {n} {turn} {target} sound states inside read =
    let is : target ≡ slice_index order turn = read ∙ get_or_default order turn target 0 inside in
    (is, omega (arith, is, state_of reach (slice_index order turn) (sound.marked turn inside), states))

-- ---- one more state of a list
pub one_listed : (states : List ℕ) (i s : ℕ) → i < length states → {Old Now New : Type 0} → (New ↔ (Now ⊎ (s ≡ get_or states i 0)))
    → (Now ↔ (Old ⊎ Contains (take i states) s)) → New ↔ (Old ⊎ Contains (take (i + 1) states) s)
one_listed states i s inside step before =
    let more = take_more states i 0 inside in (
      λ new. elim (step.0 new) [
        | inl now ↦ elim (before.0 now) [
          | inl old ↦ inl old
          | inr early ↦ inr (rw more (Contains-append_left (take i states) (get_or states i 0 ∷ []) s early))
        ]
        | inr last ↦ inr (rw (more, last) (Contains-push (take i states) (get_or states i 0)))
      ],
      λ either. elim either [
        | inl old ↦ step.1 (inl (before.1 (inl old)))
        | inr listed ↦ (
            elim (Contains-push_cases (take i states) (get_or states i 0) s (rw more at listed)) [
              | inl early ↦ step.1 (inl (before.1 (inr early)))
              | inr last ↦ step.1 (inr (sym last))
            ])
      ],
    )
