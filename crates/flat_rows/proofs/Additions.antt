-- A row that is added, as it is or multiplied.
use Rattle.std.proofs.Common.{◌≡◌, ℕ, ◌*◌, ◌^◌, ◌<◌, ◌≤◌, List, [], ◌∷◌, ◌++◌, length, get_or, lit<, sym, subst}
use Rattle.std.specs.List.{sum_by}
use Rattle.round_out.specs.declared.entry.Entry.{Entry}
use Rattle.step_core.specs.FrameLists.{RowLists}
use Rattle.flat_rows.specs.declared.sides.Sides.{Sides}
use Rattle.flat_rows.specs.declared.sides.Sides.TheVariants.{Both}
use Rattle.flat_rows.specs.Laid.{sure_row}
use Rattle.flat_rows.specs.AddedRow.{InsertsRow, AddsRow}
use Rattle.flat_rows.specs.Fractions.{scaled_entries}
use Rattle.flat_rows.specs.PlacedRow.{PlacedRow}
use Rattle.flat_rows.proofs.PlacedRows.{inserts_last}
use Rattle.flat_rows.proofs.RowFractions.{same_itself, as_unscaled, sure_fractions}

pub inserts_end : {added : PlacedRow} {old new : List PlacedRow} → new ≡ old ++ added ∷ [] → InsertsRow added old new
inserts_end {added} {old} {new} e = subst (InsertsRow added old) (sym e) (inserts_last added old)

pub adds_as_is : {place : ℕ} {row : RowLists} {sides : Sides} {old seen new : List PlacedRow} → row.den < 2 ^ 63 → seen ≡ old
    → InsertsRow (record { place = place; row = row; sides = sides }) seen new → AddsRow place row sides old new
adds_as_is {place} {row} {sides} {old} {seen} {new} fits e inserts = record {
  added = row;
  fractions = same_itself row;
  fits = fits;
  inserts = subst (λ z. InsertsRow (record { place = place; row = row; sides = sides }) z new) e inserts;
}

-- a row that was multiplied before
pub adds_unscaled : {place k den : ℕ} {row : RowLists} {sides : Sides} {old new : List PlacedRow} → 0 < k → den ≡ row.den * k
    → AddsRow place (record { den = den; entries = scaled_entries k row.entries }) sides old new → AddsRow place row sides old new
adds_unscaled {place} {k} {den} {row} some e adds = record {
  added = adds.added;
  fractions = as_unscaled k den some e adds.fractions;
  fits = adds.fits;
  inserts = adds.inserts;
}

-- a row of one entry, of which only the target is kept
pub adds_sure : (es : List Entry) (k : ℕ) (d : Entry) {place den : ℕ} {old seen new : List PlacedRow} → 1 ≤ length es → length es < 2
    → 0 < den → sum_by (λ e. e.num) es * k ≡ den → seen ≡ old
    → InsertsRow (sure_row (record { place = place; to = (get_or es 0 d).to })) seen new
    → AddsRow place (record { den = den; entries = scaled_entries k es }) Both old new
adds_sure es k d {place} {den} {old} {seen} {new} l h some q e inserts = record {
  added = record { den = 1; entries = record { to = (get_or es 0 d).to; num = 1 } ∷ [] };
  fractions = sure_fractions es k den d l h some q;
  fits = lit< tt;
  inserts = subst (λ z. InsertsRow (sure_row (record { place = place; to = (get_or es 0 d).to })) z new) e inserts;
}
