-- A row of one entry: its quotients are its target's words.
use Rattle.std.proofs.Common.{◌≡◌, ℕ, ◌*◌, ◌<◌, ◌≤◌, List, [], ◌∷◌, All, length, get_or, ap, sym, ◌∙◌, arith}
use Rattle.std.specs.List.{sum_by}
use Rattle.std.proofs.lemmas.List.Elements.{All-nil, All-cons}
use Rattle.std.proofs.lemmas.List.Sums.{sum_by-cons}
use Rattle.bound_grid.specs.Passes.{lower_note, upper_note, seal_note}
use Rattle.bound_grid.specs.declared.board.Board.{Board}
use Rattle.bound_grid.specs.declared.board.Pass.{Pass}
use Rattle.flat_rows.specs.StateRows.{row_products}
use Rattle.flat_rows.proofs.Quotients.{ceil_only}
use Rattle.round_out.proofs.Reciprocals.{quotient_is}
use Rattle.round_out.specs.declared.entry.Entry.{Entry}
use Rattle.step_core.specs.FrameLists.{RowLists}
use Rattle.step_core.specs.Places.{block_of}
use Rattle.step_core.specs.PlanTables.{plan_low, plan_high}
use Rattle.tighten_step.specs.Quotients.{IsReady, AreSealed, IsLowQuotient, IsHighQuotient}

one_product : (es : List Entry) (d : Entry) (f : ℕ → ℕ) → 1 ≤ length es → length es < 2
    → sum_by (λ e. e.num * f e.to) es ≡ f (get_or es 0 d).to * sum_by (λ e. e.num) es
one_product [] d f some only = absurd (omega arith)
one_product (x ∷ []) d f some only =
    sum_by-cons (λ e. e.num * f e.to) x []
    ∙ (omega arith ∙ ap (λ z. f x.to * z) (sym (sum_by-cons (λ e. e.num) x [])))
one_product (x ∷ y ∷ es) d f some only = absurd (omega arith)

one_all : (P : Entry → Type 0) (es : List Entry) (d : Entry) → 1 ≤ length es → length es < 2 → P (get_or es 0 d) → All P es
one_all P [] d some only h = absurd (omega arith)
one_all P (x ∷ []) d some only h = All-cons P x [] h (All-nil P)
one_all P (x ∷ y ∷ es) d some only h = absurd (omega arith)

module _ (b : Board) (p r : Pass) (k x : ℕ) (row : RowLists) (d : Entry) (ready : IsReady b.plan row) (some : 1 ≤ length row.entries)
    (only : length row.entries < 2) where
  abbrev t : ℕ
  t = (get_or row.entries 0 d).to

  pub one_in : t < length b.plan.frame.rows
  one_in = ready.fit.targets 0 d (omega (arith, some))

  product_is : (f : ℕ → ℕ) → f t ≡ x → row_products row f ≡ x * row.den
  product_is f here = one_product row.entries d f some only ∙ ap (λ z. z * sum_by (λ e. e.num) row.entries) here
      ∙ ap (λ z. x * z) ready.fit.whole

  sealed_one : (f g : ℕ → ℕ) → f t ≡ x → (seal_note b p k (block_of t) ≡ 1 → x ≡ g t) → AreSealed b p k row f g
  sealed_one f g here sealed =
      one_all (λ e. seal_note b p k (block_of e.to) ≡ 1 → f e.to ≡ g e.to) row.entries d some only (λ on. here ∙ sealed on)

  pub low_one : lower_note b r k t ≡ x → (seal_note b p k (block_of t) ≡ 1 → x ≡ plan_low b.plan k t) → IsLowQuotient b p r k row x
  low_one here sealed =
      let is = product_is (lower_note b r k) here in
      let positive = ready.positive in
      record {
        value = quotient_is (row_products row (lower_note b r k)) row.den x 0 positive (omega (arith, is));
        exact = sealed_one (lower_note b r k) (plan_low b.plan k) here sealed;
      }

  pub high_one : upper_note b r k t ≡ x → (seal_note b p k (block_of t) ≡ 1 → x ≡ plan_high b.plan k t) → IsHighQuotient b p r k row x
  high_one here sealed =
      let is = product_is (upper_note b r k) here in
      let positive = ready.positive in
      record {
        value = ceil_only (row_products row (upper_note b r k)) row.den x (omega (arith, is)) (omega (arith, is, positive));
        exact = sealed_one (upper_note b r k) (plan_high b.plan k) here sealed;
      }
