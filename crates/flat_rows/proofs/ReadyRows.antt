-- A row that is made ready, and the rows of all states, one after another.
use Rattle.std.proofs.Common.{◌≡◌, ℕ, ◌+◌, ◌*◌, ◌<◌, Bool, List, [], ◌∷◌, ◌++◌, All, length, map, get_or, refl, ap, sym, ◌∙◌, subst, inl, inr, length-append, arith}
use Rattle.std.specs.List.{sum_by}
use Rattle.std.proofs.lemmas.Bool.{cases_lt}
use Rattle.std.proofs.lemmas.List.{get_or_append_left, get_or-append-add, get_or-map, length-map}
use Rattle.round_out.specs.declared.entry.Entry.{Entry}
use Rattle.step_core.specs.FrameLists.{RowLists, SetLists}
use Rattle.step_core.specs.FrameRows.{row_at}
use Rattle.step_core.specs.SoundFrame.{IsSoundRow}
use Rattle.flat_rows.specs.Fractions.{scaled_entries}
use Rattle.flat_rows.specs.RowsOf.{low_needs_row, high_needs_row}
use Rattle.flat_rows.specs.StateRows.{StateRowLists, state_row_at, row_products, HaveSameQuotients, IsStateRow, AddsStateRow}
use Rattle.flat_rows.proofs.RowFractions.{scaled_sum, scaled_numbers}

scaled_targets : (k : ℕ) (es : List Entry) → map (λ e. e.to) (scaled_entries k es) ≡ map (λ e. e.to) es
scaled_targets k [] = refl
scaled_targets k (e ∷ es) = ap (λ ts. e.to ∷ ts) (scaled_targets k es)

-- a row that is multiplied
pub scaled_quotients : (k den : ℕ) (row : RowLists) → den ≡ row.den * k
    → HaveSameQuotients (record { den = den; entries = scaled_entries k row.entries }) row
scaled_quotients k den row e = record {
  targets = scaled_targets k row.entries;
  quotients = λ x.
      let products : row_products (record { den = den; entries = scaled_entries k row.entries }) x ≡ k * row_products row x =
      scaled_sum k x row.entries in
      ap (λ z. z * row.den) products ∙ (omega arith ∙ ap (λ z. row_products row x * z) (sym e));
}

pub scaled_whole : (k den : ℕ) (row : RowLists) → den ≡ row.den * k → sum_by (λ e. e.num) row.entries ≡ row.den
    → sum_by (λ e. e.num) (scaled_entries k row.entries) ≡ den
scaled_whole k den row e whole = scaled_numbers k row.entries ∙ (ap (λ z. k * z) whole ∙ omega (arith, e))

-- what is true of the targets of one row
pub of_targets : (P : ℕ → Type 0) (xs ys : List Entry) → map (λ e. e.to) xs ≡ map (λ e. e.to) ys → All (λ e. P e.to) ys
    → All (λ e. P e.to) xs
of_targets P xs ys same h i d lt =
    let size : length xs ≡ length ys = sym (length-map xs (λ e. e.to)) ∙ (ap length same ∙ length-map ys (λ e. e.to)) in
    let there : i < length ys = omega (arith, lt, size) in
    let is : (get_or xs i d).to ≡ (get_or ys i d).to =
    sym (get_or-map (λ e. e.to) xs i d d.to lt) ∙ (ap (λ ts. get_or ts i d.to) same ∙ get_or-map (λ e. e.to) ys i d d.to there) in
    subst P (sym is) (h i d there)

module _ (rows : List RowLists) (sets : SetLists) (reach : List Bool) (s : ℕ) (low high : Bool) (old new : List StateRowLists)
    (sound : IsSoundRow (length rows) (row_at rows s)) (adds : AddsStateRow (row_at rows s) low high old new)
    (is_low : low ≡ low_needs_row sets reach s) (is_high : high ≡ high_needs_row sets reach s) (last : length old ≡ s) where
  added_row : IsStateRow rows sets reach s (record { low = low; high = high; row = adds.added })
  added_row = record {
    low = is_low;
    high = is_high;
    fit = record {
      targets = of_targets (λ t. t < length rows) adds.added.entries (row_at rows s).entries adds.same.targets sound.targets;
      whole = adds.whole;
      fits = adds.fits;
    };
    full = adds.full;
    same = adds.same;
  }

  pub one_more : length new ≡ s + 1
  one_more = ap length adds.rows ∙ (length-append old _ ∙ omega (arith, last))

  pub rows_more : ((t : ℕ) → t < s → IsStateRow rows sets reach t (state_row_at old t))
      → (t : ℕ) → t < s + 1 → IsStateRow rows sets reach t (state_row_at new t)
  rows_more before t lt =
      elim (cases_lt t s) [
        | inl l ↦ (
            let here : state_row_at new t ≡ state_row_at old t =
            ap (λ xs. state_row_at xs t) adds.rows ∙ get_or_append_left old _ _ t (omega (arith, l, last)) in
            subst (IsStateRow rows sets reach t) (sym here) (before t l))
        | inr g ↦ (
            let e : t ≡ s = omega (arith, lt, g) in
            let place : t ≡ length old + 0 = omega (arith, e, last) in
            let here : state_row_at new t ≡ record { low = low; high = high; row = adds.added } =
            ap (λ xs. state_row_at xs t) adds.rows ∙ (ap (state_row_at (old ++ record { low = low; high = high; row = adds.added } ∷ []))
            place ∙ get_or-append-add old _ 0 _) in
            subst (IsStateRow rows sets reach t) (sym here) (subst (λ u. IsStateRow rows sets reach u (record
            { low = low; high = high; row = adds.added })) (sym e) added_row))
      ]
