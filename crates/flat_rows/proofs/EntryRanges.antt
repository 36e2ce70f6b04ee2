-- Rows whose entries are ranges of one list, as the list grows.
use Rattle.std.proofs.Common.{◌≡◌, ℕ, ◌-◌, ◌≤◌, List, [], ◌∷◌, ◌++◌, All, length, map, take, drop, refl, ap, ◌∙◌, length-append, length-drop, arith}
use Rattle.std.proofs.Math.Seq.{drop-append_seam}
use Rattle.std.proofs.lemmas.List.{take-append-le, drop-append-le, take_all, map_push}
use Rattle.std.proofs.lemmas.List.Elements.{All-head, All-tail}
use Rattle.std.specs.Prelude.{slice_range}
use Rattle.round_out.specs.declared.entry.Entry.{Entry}

-- a range stays as it was
range_kept : {X : Type 0} (xs more : List X) (a b : ℕ) → a ≤ b → b ≤ length xs → slice_range (xs ++ more) a b ≡ slice_range xs a b
range_kept xs more a b o l =
    let room : b - a ≤ length (drop a xs) = rw length-drop (omega arith) in
    ap (take (b - a)) (drop-append-le a xs more (omega arith)) ∙ take-append-le (b - a) (drop a xs) more room

-- what was added is the last range
pub range_added : {X : Type 0} (xs more : List X) (b : ℕ) → b ≡ length (xs ++ more) → slice_range (xs ++ more) (length xs) b ≡ more
range_added xs more b e =
    let n : length more ≤ b - length xs = omega (arith, e, length-append xs more) in
    ap (take (b - length xs)) (drop-append_seam xs more) ∙ take_all (b - length xs) more n

-- rows that are made of the range of entries from `first` to `end`
module _ {R P : Type 0} (first end : R → ℕ) (lay : R → List Entry → P) where
  abbrev pub Inside : ℕ → R → Type 0
  Inside n r = (first r ≤ end r) × (end r ≤ n)

  abbrev pub laid : List Entry → R → P
  laid es r = lay r (slice_range es (first r) (end r))

  rows_kept : (es more : List Entry) (rows : List R) → All (Inside (length es)) rows
      → map (laid (es ++ more)) rows ≡ map (laid es) rows
  rows_kept es more [] h = refl
  rows_kept es more (r ∷ rows) h =
      let here = All-head (Inside (length es)) r rows h in
      let there = rows_kept es more rows (All-tail (Inside (length es)) r rows h) in
      rw (range_kept es more (first r) (end r) here.0 here.1, there) refl

  -- one row more
  pub row_pushed : (es more all : List Entry) (rows new : List R) (r : R) → All (Inside (length es)) rows → all ≡ es ++ more
      → new ≡ rows ++ r ∷ [] → first r ≡ length es → end r ≡ length all
      → map (laid all) new ≡ map (laid es) rows ++ lay r more ∷ []
  row_pushed es more all rows new r inside is_all is_new is_first is_end =
      let same : slice_range all (first r) (end r) ≡ more =
      rw (is_all, is_first) (range_added es more (end r) (is_end ∙ ap length is_all)) in
      rw is_new (map_push (laid all) rows r
      ∙ (ap (λ xs. xs ++ laid all r ∷ []) (rw is_all (rows_kept es more rows inside))
      ∙ ap (λ xs. map (laid es) rows ++ lay r xs ∷ []) same))
