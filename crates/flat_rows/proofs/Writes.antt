-- One more row is written.
use Rattle.std.proofs.Common.{◌≡◌, ℕ, ◌+◌, ◌≤◌, ◌<◌, List, [], ◌∷◌, ◌++◌, length, get_or, set, take, map, inl, inr, refl, ap, sym, subst, ◌∙◌, get_or-set_other, get_or-set_same}
use Rattle.std.proofs.lemmas.List.{take_all, length-set, map_more}
use Rattle.std.proofs.lemmas.List.Elements.{All-nil, All-cons, All-head, All-append, All-weaker}
use Rattle.std.proofs.lemmas.Bool.{cases_eq}
use Rattle.step_core.specs.declared.words.Words.{Words}
use Rattle.flat_rows.specs.PlacedRow.{PlacedRow}
use Rattle.flat_rows.specs.SideWords.{placed_words}
use Rattle.flat_rows.specs.Written.{IsRightAt, AreWritten}
use Rattle.flat_rows.proofs.PlacedRows.{all_left, all_right}

-- the first rows, and then the others
pub written_then : {words : List Words} {xs ys : List PlacedRow} {old mid new : List Words} → AreWritten words xs old mid
    → AreWritten words ys mid new → AreWritten words (xs ++ ys) old new
written_then {words} {xs} {ys} {old} {mid} {new} first second = record {
  same_places = second.same_places ∙ first.same_places;
  written = λ right agree.
      let left = all_left (λ r. placed_words words r ≡ right r.place) xs ys agree in
      let rest = all_right (λ r. placed_words words r ≡ right r.place) xs ys agree in
      All-append (λ r. IsRightAt right new r.place) xs ys
      (All-weaker (λ r. IsRightAt right mid r.place) (λ r. IsRightAt right new r.place) (λ r e. second.kept right rest r.place e) xs
      (first.written right left))
      (second.written right rest);
  kept = λ right agree s e.
      second.kept right (all_right (λ r. placed_words words r ≡ right r.place) xs ys agree) s
      (first.kept right (all_left (λ r. placed_words words r ≡ right r.place) xs ys agree) s e);
}

pub written_none : (words old : List Words) → AreWritten words [] old old
written_none words old = record {
  same_places = refl;
  written = λ right agree. All-nil (λ r. IsRightAt right old r.place);
  kept = λ right agree s e. e;
}

abbrev none : Words
none = record { low = 0; high = 0 }

-- one row
pub written_one : (words : List Words) (row : PlacedRow) (next : List Words) (p : ℕ) (w : Words) → p ≡ row.place → p < length next
    → w ≡ placed_words words row → AreWritten words (row ∷ []) next (set next p w)
written_one words row next p w at room is = record {
  same_places = length-set next p w;
  written = λ right agree.
      let here : w ≡ right p =
      is ∙ (All-head (λ r. placed_words words r ≡ right r.place) row [] agree ∙ ap right (sym at)) in
      All-cons (λ r. IsRightAt right (set next p w) r.place) row []
      (subst (λ q. IsRightAt right (set next p w) q) at (rw (get_or-set_same next p w none room) here))
      (All-nil (λ r. IsRightAt right (set next p w) r.place));
  kept = λ right agree s e.
      let here : w ≡ right p =
      is ∙ (All-head (λ r. placed_words words r ≡ right r.place) row [] agree ∙ ap right (sym at)) in
      elim (cases_eq s p) [
        | inl same ↦ rw same (rw (get_or-set_same next p w none room) here)
        | inr other ↦ rw (get_or-set_other next p s w none other) e
      ];
}

-- rows of a list, each laid in some way
module _ {Row : Type 0} (f : Row → PlacedRow) (words : List Words) (rows : List Row) where
  pub written_more : (i : ℕ) (row : Row) (old next : List Words) (p : ℕ) (w : Words) → i < length rows → row ≡ get_or rows i row
      → p ≡ (f row).place → p < length next → w ≡ placed_words words (f row) → AreWritten words (map f (take i rows)) old next
      → AreWritten words (map f (take (i + 1) rows)) old (set next p w)
  written_more i row old next p w inside is_row at room is done =
      let more : map f (take (i + 1) rows) ≡ map f (take i rows) ++ f row ∷ [] =
      map_more f rows i row inside ∙ ap (λ r. map f (take i rows) ++ f r ∷ []) (sym is_row) in
      subst (λ xs. AreWritten words xs old (set next p w)) (sym more) (written_then done (written_one words (f row) next p w at room is))

  pub written_all : (i : ℕ) (old new : List Words) → length rows ≤ i → AreWritten words (map f (take i rows)) old new
      → AreWritten words (map f rows) old new
  written_all i old new l done = subst (λ xs. AreWritten words (map f xs) old new) (take_all i rows l) done

pub written_same : {Row : Type 0} (f : Row → PlacedRow) {words : List Words} {xs ys : List Row} {old new : List Words} → xs ≡ ys
    → AreWritten words (map f xs) old new → AreWritten words (map f ys) old new
written_same f {words} {xs} {ys} {old} {new} e h = subst (λ zs. AreWritten words (map f zs) old new) e h
