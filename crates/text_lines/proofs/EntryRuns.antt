-- Lines of entries, one after another: each is right, or one is the first that is wrong.
use Rattle.std.proofs.Common.{◌≡◌, ◌≢◌, ℕ, suc, ◌<◌, List, [], ◌∷◌, ◌++◌, length, ap, refl, sym, subst, ◌∙◌, append_assoc, append-nil}
use Rattle.std.proofs.Common.{length-append, arith}
use Rattle.std.specs.List.{AllPairs, AllZip, Contains}
use Rattle.std.proofs.Math.Seq.{get_or-append_seam}
use Rattle.std.proofs.lemmas.List.{map-append, get_or_append_left}
use Rattle.std.proofs.lemmas.List.Elements.{Contains-get_or, All-contains}
use Rattle.std.proofs.lemmas.List.Quantifiers.{all_pairs_push}
use Rattle.text_lines.specs.Entries.{Entry, Kind, IsEntry, AreEntries, keys_of}
use Rattle.text_lines.specs.EntryFault.{HasFailingLine}
use Rattle.text_lines.specs.WordLines.{WordLine}
use Rattle.text_lines.specs.declared.fault.FileWhat.{FileWhat}
use Rattle.text_lines.proofs.EntryCases.{IsDecided, IsNew, LineCase, Good, Bad, IsLineCase, line_case, line_case_is, line_case_holds}

-- ---- entries and lines

-- what holds line by line holds with one line more
pub zip_push : {X Y : Type 0} (R : X → Y → Type 0) (xs : List X) (ys : List Y) (x : X) (y : Y) → AllZip R xs ys → R x y
    → AllZip R (xs ++ x ∷ []) (ys ++ y ∷ [])
zip_push R [] [] x y h r = (r, tt)
zip_push R [] (b ∷ bs) x y h r = absurd h
zip_push R (a ∷ more) [] x y h r = absurd h
zip_push R (a ∷ more) (b ∷ bs) x y h r = (h.0, zip_push R more bs x y h.1 r)

-- distinct elements and a new one are distinct
pub distinct_push : {X : Type 0} (xs : List X) (x : X) → AllPairs ◌≢◌ xs → ¬ Contains xs x → AllPairs ◌≢◌ (xs ++ x ∷ [])
distinct_push xs x distinct new = all_pairs_push ◌≢◌ xs x distinct (λ k d l e. new (subst (Contains xs) e (Contains-get_or xs k d l)))

-- in distinct elements each is new after those before it
pub distinct_at : {X : Type 0} (xs : List X) (y : X) (ys : List X) → AllPairs ◌≢◌ (xs ++ y ∷ ys) → ¬ Contains xs y
distinct_at xs y ys distinct there =
    let long : length xs < length (xs ++ y ∷ ys) = simp length-append (omega arith) in
    All-contains (λ x. x ≢ y) xs y
    (λ k d l same. distinct k (length xs) d l long (get_or_append_left xs (y ∷ ys) d k l ∙ same ∙ sym (get_or-append_seam xs y ys d)))
    there refl

-- the first of distinct elements is not among the others, and these are distinct
pub distinct_head : {X : Type 0} (x : X) (xs : List X) → AllPairs ◌≢◌ (x ∷ xs) → ¬ Contains xs x
distinct_head x xs distinct there = distinct 0 (suc there.0) x (omega arith) (omega (arith, there.1)) (sym there.2)

pub distinct_tail : {X : Type 0} (x : X) (xs : List X) → AllPairs ◌≢◌ (x ∷ xs) → AllPairs ◌≢◌ xs
distinct_tail x xs distinct i j d l k = distinct (suc i) (suc j) d (omega (arith, l)) (omega (arith, k))

-- no lines, no entries
pub are_none : {Key : Type 0} (kind : Kind Key) → AreEntries kind [] []
are_none kind = record { each = tt; once = λ i j d l k. absurd (omega arith) }

-- one line more
pub are_more : {Key : Type 0} (kind : Kind Key) (front : List WordLine) (entries : List (Entry Key)) (line : WordLine) (e : Entry Key)
    → AreEntries kind front entries → IsEntry kind line e → IsNew entries e.key → AreEntries kind (front ++ line ∷ []) (entries ++ e ∷ [])
are_more kind front entries line e h r new = record {
  each = zip_push (IsEntry kind) front entries line e h.each r;
  once = subst (AllPairs ◌≢◌) (sym (map-append (λ e. e.key) entries (e ∷ []))) (distinct_push (keys_of entries) e.key h.once new);
}

-- ---- the lines

-- what the lines are
pub data LinesCase (Key : Type 0) : Type 0 where
  Right : List (Entry Key) → LinesCase Key
  Wrong : ℕ → FileWhat → LinesCase Key

abbrev pub IsLinesCase : {Key : Type 0} → Kind Key → List WordLine → LinesCase Key → Type 0
IsLinesCase kind lines (Right entries) = AreEntries kind lines entries
IsLinesCase kind lines (Wrong k w) = HasFailingLine kind lines k w

module _ {Key : Type 0} (kind : Kind Key) (is : IsDecided kind) where
  -- what these lines are after these entries
  unfoldable run : List (Entry Key) → List WordLine → LinesCase Key
  run entries [] = Right entries
  run entries (line ∷ lines) =
      elim (line_case kind is entries line) [
        | Good e ↦ run (entries ++ e ∷ []) lines
        | Bad w ↦ Wrong line.number w
      ]

  -- a line that is right
  run-good : (entries : List (Entry Key)) (line : WordLine) (lines : List WordLine) (e : Entry Key)
      → line_case kind is entries line ≡ Good e
      → run entries (line ∷ lines) ≡ run (entries ++ e ∷ []) lines
  unfolding run
  run-good entries line lines e h = rw (h, run) refl

  -- one that is wrong
  run-bad : (entries : List (Entry Key)) (line : WordLine) (lines : List WordLine) (w : FileWhat) → line_case kind is entries line ≡ Bad w
      → run entries (line ∷ lines) ≡ Wrong line.number w
  unfolding run
  run-bad entries line lines w h = rw (h, run) refl

  -- lines that are right
  run-front : (front more : List WordLine) (es fs : List (Entry Key)) → AllZip (IsEntry kind) front fs → AllPairs ◌≢◌ (keys_of (es ++ fs))
      → run es (front ++ more) ≡ run (es ++ fs) more
  run-front [] more es [] h k = ap (λ z. run z more) (sym (append-nil es))
  run-front [] more es (f ∷ fs) h k = absurd h
  run-front (l ∷ ls) more es [] h k = absurd h
  run-front (l ∷ ls) more es (f ∷ fs) h k =
      let joined = append_assoc es (f ∷ []) fs in
      let new : IsNew es f.key =
      distinct_at (keys_of es) f.key (keys_of fs) (subst (AllPairs ◌≢◌) (map-append (λ e. e.key) es (f ∷ fs)) k)
      in
      run-good es l (ls ++ more) f (line_case_is kind is es l (Good f) (h.0, new))
      ∙ run-front ls more (es ++ f ∷ []) fs h.1 (subst (λ z. AllPairs ◌≢◌ (keys_of z)) (sym joined) k)
      ∙ ap (λ z. run z more) joined

  -- what the lines are
  pub lines_case : List WordLine → LinesCase Key
  lines_case lines = run [] lines

  -- they are one thing only
  pub lines_case_is : (lines : List WordLine) (c : LinesCase Key) → IsLinesCase kind lines c → lines_case lines ≡ c
  unfolding lines_case run
  lines_case_is lines (Right entries) h = ap (run []) (sym (append-nil lines)) ∙ run-front lines [] [] entries h.each h.once
  lines_case_is lines (Wrong k w) h =
      ap (run []) h.split
      ∙ run-front h.front (h.line ∷ h.more) [] h.entries h.are.each h.are.once
      ∙ run-bad h.entries h.line h.more w (line_case_is kind is h.entries h.line (Bad w) h.fails)
      ∙ ap (λ z. Wrong z w) (sym h.here)

  module _ (lines : List WordLine) where
    at_line : (front more : List WordLine) (line : WordLine) (entries : List (Entry Key)) → lines ≡ front ++ line ∷ more
        → AreEntries kind front entries
        → ((e : Entry Key) → IsEntry kind line e → IsNew entries e.key → IsLinesCase kind lines (run (entries ++ e ∷ []) more))
        → (c : LineCase Key) → line_case kind is entries line ≡ c → IsLinesCase kind lines (run entries (line ∷ more))
    at_line front more line entries split are next (Good e) e_is =
        let h : IsLineCase kind entries line (Good e) = subst (IsLineCase kind entries line) e_is (line_case_holds kind is entries line) in
        subst (IsLinesCase kind lines) (sym (run-good entries line more e e_is)) (next e h.0 h.1)
    at_line front more line entries split are next (Bad w) w_is =
        let h : IsLineCase kind entries line (Bad w) = subst (IsLineCase kind entries line) w_is (line_case_holds kind is entries line) in
        subst (IsLinesCase kind lines) (sym (run-bad entries line more w w_is))
        (record { front = front; line = line; more = more; entries = entries; split = split; are = are; fails = h; here = refl })

    run_from : (front more : List WordLine) (entries : List (Entry Key)) → lines ≡ front ++ more → AreEntries kind front entries
        → IsLinesCase kind lines (run entries more)
    unfolding run
    run_from front [] entries split are = subst (λ z. AreEntries kind z entries) (sym (split ∙ append-nil front)) are
    run_from front (line ∷ more) entries split are =
        at_line front more line entries split are
        (λ f r new.
        run_from (front ++ line ∷ []) more (entries ++ f ∷ []) (split ∙ sym (append_assoc front (line ∷ []) more))
        (are_more kind front entries line f are r new))
        (line_case kind is entries line) refl

    -- and this one
    pub lines_case_holds : IsLinesCase kind lines (lines_case lines)
    unfolding lines_case
    lines_case_holds = run_from [] lines [] refl (are_none kind)
