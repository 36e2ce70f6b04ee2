-- Lists of rows: their parts, and a row that is put among them.
use Rattle.std.proofs.Common.{◌≡◌, ℕ, ◌<◌, List, [], ◌∷◌, ◌++◌, All, length, get_or, map, inl, inr, refl, ap, sym, subst, ◌∙◌, append_assoc, arith}
use Rattle.std.proofs.lemmas.List.{append-nil, map_push}
use Rattle.std.proofs.lemmas.List.Elements.{All-cons, All-head, All-tail, All-nil, All-append, Contains-append_left, Contains-append_right, Contains-append_cases}
use Rattle.std.specs.List.{Contains}
use Rattle.round_out.specs.declared.entry.Entry.{Entry}
use Rattle.flat_rows.specs.declared.flat_row.FlatRow.{FlatRow}
use Rattle.flat_rows.specs.declared.sides.Sides.TheVariants.{Both}
use Rattle.flat_rows.specs.AddedRow.{InsertsRow}
use Rattle.flat_rows.specs.Laid.{short_row}
use Rattle.flat_rows.specs.ShortLists.{ShortLists}
use Rattle.flat_rows.specs.PlacedRow.{PlacedRow, HasPlace}
use Rattle.flat_rows.specs.RowsOf.{IsFitRow, AreFit}

-- ---- what holds of each row of a list holds of each of its parts
module _ {X : Type 0} (P : X → Type 0) where
  pub all_left : (xs ys : List X) → All P (xs ++ ys) → All P xs
  all_left [] ys h = All-nil P
  all_left (x ∷ xs) ys h = All-cons P x xs (All-head P x (xs ++ ys) h) (all_left xs ys (All-tail P x (xs ++ ys) h))

  pub all_right : (xs ys : List X) → All P (xs ++ ys) → All P ys
  all_right [] ys h = h
  all_right (x ∷ xs) ys h = all_right xs ys (All-tail P x (xs ++ ys) h)

  pub all_of_map : {Y : Type 0} (f : Y → X) (ys : List Y) → All P (map f ys) → All (λ y. P (f y)) ys
  all_of_map f [] h = All-nil (λ y. P (f y))
  all_of_map f (y ∷ ys) h =
      All-cons (λ z. P (f z)) y ys (All-head P (f y) (map f ys) h) (all_of_map f ys (All-tail P (f y) (map f ys) h))

  -- with one more among them
  pub all_with : (front back : List X) (x : X) → All P (front ++ back) → P x → All P (front ++ x ∷ back)
  all_with front back x h p =
      All-append P front (x ∷ back) (all_left front back h) (All-cons P x back p (all_right front back h))

pub fit_left : {states places : ℕ} (xs ys : List PlacedRow) → AreFit states places (xs ++ ys) → AreFit states places xs
fit_left {states} {places} xs ys h = record { each = all_left (IsFitRow states places) xs ys h.each }

pub fit_right : {states places : ℕ} (xs ys : List PlacedRow) → AreFit states places (xs ++ ys) → AreFit states places ys
fit_right {states} {places} xs ys h = record { each = all_right (IsFitRow states places) xs ys h.each }

-- rows of a list, each laid in some way
pub fit_at : {Row : Type 0} (f : Row → PlacedRow) {states places : ℕ} (rows : List Row) (i : ℕ) (row : Row) → i < length rows
    → row ≡ get_or rows i row → AreFit states places (map f rows) → IsFitRow states places (f row)
fit_at f {states} {places} rows i row inside is h =
    subst (λ r. IsFitRow states places (f r)) (sym is) (all_of_map (IsFitRow states places) f rows h.each i row inside)

pub fit_same : {Row : Type 0} (f : Row → PlacedRow) {states places now : ℕ} {xs ys : List Row} → ys ≡ xs → now ≡ places
    → AreFit states places (map f xs) → AreFit states now (map f ys)
fit_same f e q h = rw (e, q) h

-- ---- a row that is put among others
pub inserts_last : (added : PlacedRow) (old : List PlacedRow) → InsertsRow added old (old ++ added ∷ [])
inserts_last added old = record { front = old; back = []; old_rows = sym (append-nil old); new_rows = refl }

-- the same as a list of rows that are laid in some way
pub inserts_pushed : {X : Type 0} (f : X → PlacedRow) (old new : List X) (x : X) → new ≡ old ++ x ∷ []
    → InsertsRow (f x) (map f old) (map f new)
inserts_pushed f old new x e = subst (InsertsRow (f x) (map f old)) (sym (ap (map f) e ∙ map_push f old x)) (inserts_last (f x) (map f old))

-- the same for rows that share a divisor, as contracts see them
pub inserts_seen : (N : ℕ) {seen now : ShortLists} {r : FlatRow N} {place : ℕ} {entries : List Entry} {new : List PlacedRow} → seen ≡ now
    → r.place ≡ place → r.entries ≡ entries → InsertsRow (short_row seen.den r) seen.rows new
    → InsertsRow (record { place = place; row = record { den = now.den; entries = entries }; sides = Both }) now.rows new
inserts_seen N {seen} {now} {r} {place} {entries} {new} e p q h =
    subst (λ s. InsertsRow (record { place = place; row = record { den = s.den; entries = entries }; sides = Both }) s.rows new) e
    (subst (λ z. InsertsRow (record { place = z; row = record { den = seen.den; entries = entries }; sides = Both }) seen.rows new) p
    (subst (λ es. InsertsRow (record { place = r.place; row = record { den = seen.den; entries = es }; sides = Both }) seen.rows new) q h))

pub inserts_after : {added : PlacedRow} {old new : List PlacedRow} (before : List PlacedRow) → InsertsRow added old new
    → InsertsRow added (before ++ old) (before ++ new)
inserts_after {added} {old} {new} before h = record {
  front = before ++ h.front;
  back = h.back;
  old_rows = ap (λ z. before ++ z) h.old_rows ∙ sym (append_assoc before h.front h.back);
  new_rows = ap (λ z. before ++ z) h.new_rows ∙ sym (append_assoc before h.front (added ∷ h.back));
}

pub inserts_before : {added : PlacedRow} {old new : List PlacedRow} (after : List PlacedRow) → InsertsRow added old new
    → InsertsRow added (old ++ after) (new ++ after)
inserts_before {added} {old} {new} after h = record {
  front = h.front;
  back = h.back ++ after;
  old_rows = ap (λ z. z ++ after) h.old_rows ∙ append_assoc h.front h.back after;
  new_rows = ap (λ z. z ++ after) h.new_rows ∙ append_assoc h.front (added ∷ h.back) after;
}

module _ {added : PlacedRow} {old new : List PlacedRow} (inserts : InsertsRow added old new) where
  pub all_inserted : (P : PlacedRow → Type 0) → All P old → P added → All P new
  all_inserted P h p =
      subst (All P) (sym inserts.new_rows) (all_with P inserts.front inserts.back added (subst (All P) inserts.old_rows h) p)

  contains_kept : (x : PlacedRow) → Contains old x → Contains new x
  contains_kept x h =
      subst (λ xs. Contains xs x) (sym inserts.new_rows)
      (elim (Contains-append_cases inserts.front inserts.back x (subst (λ xs. Contains xs x) inserts.old_rows h)) [
        | inl here ↦ Contains-append_left inserts.front (added ∷ inserts.back) x here
        | inr there ↦
            Contains-append_right inserts.front (added ∷ inserts.back) x (Contains-append_right (added ∷ []) inserts.back x there)
      ])

  pub place_kept : (p : ℕ) → HasPlace old p → HasPlace new p
  place_kept p (k, x, l, at, e) = (let has = contains_kept x (k, l, at) in (has.0, x, has.1, has.2, e))

  pub place_added : HasPlace new added.place
  place_added =
      let has : Contains new added =
      subst (λ xs. Contains xs added) (sym inserts.new_rows)
      (Contains-append_right inserts.front (added ∷ inserts.back) added
      (Contains-append_left (added ∷ []) inserts.back added (0, omega arith, refl))) in
      (has.0, added, has.1, has.2, refl)
