-- Entries that were read, with the numbers of their lines.
use Rattle.std.proofs.Common.{◌≡◌, ◌≢◌, ℕ, zero, suc, ◌+◌, ◌<◌, ◌≤◌, List, [], ◌∷◌, ◌++◌, length, map, take, drop, get_or, refl, sym, ap}
use Rattle.std.proofs.Common.{subst, ◌∙◌, append_assoc, append-nil, arith}
use Rattle.std.specs.List.{All, AllPairs, AllZip, Contains}
use Rattle.std.proofs.lemmas.List.{take-append-drop, drop_more, map-append, length-map, length-take, get_or-map}
use Rattle.std.proofs.lemmas.List.Elements.{All-nil, All-cons, All-map}
use Rattle.decimal_text.specs.DecimalNumber.{DecimalNumber}
use Rattle.decimal_text.specs.Scale.{greatest_decimals}
use Rattle.decimal_text.proofs.Scales.{greatest_within, within_scale}
use Rattle.text_lines.specs.Entries.{Entry, Kind, IsEntry, AreEntries, keys_of, scale_of}
use Rattle.text_lines.specs.EntryFault.{FailsBy, HasFailingLine, HasLinePast}
use Rattle.text_lines.specs.EntryLines.{value_of, entry_of, entries_of, IsEntryLine, HasRead, AreRead, IsFirstPast}
use Rattle.text_lines.specs.WordLines.{WordLine}
use Rattle.text_lines.specs.declared.entry_line.EntryLine.{EntryLine}
use Rattle.text_lines.specs.declared.fault.FileWhat.{FileWhat}
use Rattle.text_lines.proofs.EntryScales.{map-more}
use Rattle.text_lines.proofs.EntryRuns.{zip_push, distinct_at}

-- ---- two lists, place by place

-- as many of one as of the other
pub zip_long : {A B : Type 0} (R : A → B → Type 0) (xs : List A) (ys : List B) → AllZip R xs ys → length xs ≡ length ys
zip_long R [] [] h = refl
zip_long R [] (y ∷ ys) h = absurd h
zip_long R (x ∷ xs) [] h = absurd h
zip_long R (x ∷ xs) (y ∷ ys) h = ap suc (zip_long R xs ys h.1)

-- what each of the second has, since one of the first has R to it
pub zip_right : {A B : Type 0} (R : A → B → Type 0) (P : B → Type 0) → ((x : A) (y : B) → R x y → P y) → (xs : List A) (ys : List B)
    → AllZip R xs ys → All P ys
zip_right R P f [] [] h = All-nil P
zip_right R P f [] (y ∷ ys) h = absurd h
zip_right R P f (x ∷ xs) [] h = absurd h
zip_right R P f (x ∷ xs) (y ∷ ys) h = All-cons P y ys (f x y h.0) (zip_right R P f xs ys h.1)

-- both at a place
pub record SplitsAt {A B : Type 0} (R : A → B → Type 0) (xs : List A) (ys : List B) (k : ℕ) : Type 0 where
  pub before : List A
  pub x : A
  pub after : List A
  pub is : xs ≡ before ++ x ∷ after
  pub each : AllZip R before (take k ys)
  pub here : (d : B) → R x (get_or ys k d)
  pub long : length before ≡ k

pub split_at : {A B : Type 0} (R : A → B → Type 0) (xs : List A) (ys : List B) (k : ℕ) → AllZip R xs ys → k < length ys
    → SplitsAt R xs ys k
split_at R [] [] k h l = absurd (omega arith)
split_at R [] (y ∷ ys) k h l = absurd h
split_at R (x ∷ xs) [] k h l = absurd h
split_at R (x ∷ xs) (y ∷ ys) zero h l = record { before = []; x = x; after = xs; is = refl; each = tt; here = λ d. h.0; long = refl }
split_at R (x ∷ xs) (y ∷ ys) (suc k) h l =
    let s = split_at R xs ys k h.1 (omega arith) in
    record {
      before = x ∷ s.before;
      x = s.x;
      after = s.after;
      is = ap (λ z. x ∷ z) s.is;
      each = (h.0, s.each);
      here = s.here;
      long = ap suc s.long;
    }

-- entries before a place, at it and after it
pub parts : {K Key : Type 0} (key_of : K → Key) (es : List (EntryLine K)) (place : ℕ) (d : EntryLine K) → place < length es
    → entries_of key_of es ≡ entries_of key_of (take place es) ++ entry_of key_of (get_or es place d) ∷ entries_of key_of
    (drop (place + 1) es)
parts key_of es place d within =
    ap (entries_of key_of) (sym (take-append-drop place es) ∙ ap (λ z. take place es ++ z) (drop_more es place d within))
    ∙ map-append (entry_of key_of) (take place es) (get_or es place d ∷ drop (place + 1) es)

-- the keys of the entries before a place don't have the one there
pub new_before : {K Key : Type 0} (key_of : K → Key) (es : List (EntryLine K)) (place : ℕ) (d : EntryLine K) → place < length es
    → AllPairs ◌≢◌ (keys_of (entries_of key_of es))
    → ¬ Contains (keys_of (entries_of key_of (take place es))) (key_of (get_or es place d).key)
new_before {K} {Key} key_of es place d within once =
    let before : List (Entry Key) = entries_of key_of (take place es) in
    let after : List (Entry Key) = entries_of key_of (drop (place + 1) es) in
    let e : Entry Key = entry_of key_of (get_or es place d) in
    distinct_at (keys_of before) e.key (keys_of after)
    (subst (AllPairs ◌≢◌) (ap keys_of (parts key_of es place d within) ∙ map-append (λ f. f.key) before (e ∷ after)) once)

-- ---- the scale

-- the decimals of an entry that a line writes
few_decimals : {Key : Type 0} (kind : Kind Key) (lines : List WordLine) (entries : List (Entry Key)) → AllZip (IsEntry kind) lines entries
    → scale_of entries ≤ 18
few_decimals {Key} kind lines entries h =
    greatest_within 18 (map (λ e. e.value) entries)
    (All-map (λ (d : DecimalNumber). d.x ≤ 18) (λ (e : Entry Key). e.value) entries
    (zip_right (IsEntry kind) (λ e. e.value.x ≤ 18) (λ line e is. is.value.short.decimals) lines entries h))

-- no entry has more decimals than the scale
pub within_scale_of : {K : Type 0} (es : List (EntryLine K)) → All (λ e. e.decimals ≤ greatest_decimals (map value_of es)) es
within_scale_of {K} es k d l =
    let scale = greatest_decimals (map value_of es) in
    let all : All (λ d. d.x ≤ scale) (map value_of es) = within_scale scale (map value_of es) (omega arith) in
    subst (λ (z : DecimalNumber). z.x ≤ scale) (get_or-map value_of es k d (value_of d) l)
    (all k (value_of d) (omega (arith, l, length-map es value_of)))

module _ {K Key : Type 0} (kind : Kind Key) (key_of : K → Key) where
  -- the scale of kept entries is that of the entries
  pub same_scale : (es : List (EntryLine K)) → greatest_decimals (map value_of es) ≡ scale_of (entries_of key_of es)
  same_scale es = ap greatest_decimals (values es) where
    values : (es : List (EntryLine K)) → map value_of es ≡ map (λ e. e.value) (entries_of key_of es)
    values [] = refl
    values (e ∷ es) = ap (λ z. value_of e ∷ z) (values es)

  -- ---- one line after another

  -- no line is read at first
  pub read_none : (lines : List WordLine) → HasRead kind key_of lines [] lines
  read_none lines = record { front = []; split = refl; are = tt }

  -- and then one more
  pub read_more : (lines more others : List WordLine) (entries : List (EntryLine K)) (line : WordLine) (e : EntryLine K)
      → HasRead kind key_of lines entries more
      → more ≡ line ∷ others → IsEntryLine kind key_of line e → HasRead kind key_of lines (entries ++ e ∷ []) others
  read_more lines more others entries line e h first is = record {
    front = h.front ++ line ∷ [];
    split = h.split ∙ (ap (λ z. h.front ++ z) first ∙ sym (append_assoc h.front (line ∷ []) others));
    are = zip_push (IsEntryLine kind key_of) h.front entries line e h.are is;
  }

  -- all lines are read
  pub read_all : (lines more : List WordLine) (entries : List (EntryLine K)) → HasRead kind key_of lines entries more → more ≡ []
      → AllPairs ◌≢◌ (keys_of (entries_of key_of entries)) → AreRead kind key_of lines entries
  read_all lines more entries h none once = record {
    each =
        subst (λ z. AllZip (IsEntryLine kind key_of) z entries) (sym (h.split ∙ (ap (λ z. h.front ++ z) none ∙ append-nil h.front))) h.are;
    once = once;
  }

  entries_written : (lines : List WordLine) (es : List (EntryLine K)) → AllZip (IsEntryLine kind key_of) lines es
      → AllZip (IsEntry kind) lines (entries_of key_of es)
  entries_written [] [] h = tt
  entries_written [] (e ∷ es) h = absurd h
  entries_written (l ∷ ls) [] h = absurd h
  entries_written (l ∷ ls) (e ∷ es) h = (h.0.is, entries_written ls es h.1)

  -- what the lines write
  pub are_entries : (lines : List WordLine) (es : List (EntryLine K)) → AreRead kind key_of lines es
      → AreEntries kind lines (entries_of key_of es)
  are_entries lines es h = record { each = entries_written lines es h.each; once = h.once }

  -- the scale is at most 18
  pub small_scale : (lines : List WordLine) (es : List (EntryLine K)) → AreRead kind key_of lines es
      → greatest_decimals (map value_of es) ≤ 18
  small_scale lines es h = omega (arith, same_scale es, few_decimals kind lines (entries_of key_of es) (entries_written lines es h.each))

  -- the next line fails
  pub next_fails : (lines more others : List WordLine) (es : List (EntryLine K)) (line : WordLine) (w : FileWhat)
      → HasRead kind key_of lines es more
      → AllPairs ◌≢◌ (keys_of (entries_of key_of es)) → more ≡ line ∷ others → FailsBy kind (entries_of key_of es) line w
      → HasFailingLine kind lines line.number w
  next_fails lines more others es line w h once first fails = record {
    front = h.front;
    line = line;
    more = others;
    entries = entries_of key_of es;
    split = h.split ∙ ap (λ z. h.front ++ z) first;
    are = are_entries h.front es (record { each = h.are; once = once });
    fails = fails;
    here = refl;
  }

  -- ---- a limit

  -- the first entry that goes past a limit is on the line that does
  pub line_past : (IsWithin IsPast : ℕ → List (Entry Key) → Type 0) (lines : List WordLine) (es : List (EntryLine K)) (place : ℕ)
      (d : EntryLine K)
      → AreRead kind key_of lines es
      → IsFirstPast key_of (IsWithin (scale_of (entries_of key_of es))) (IsPast (scale_of (entries_of key_of es))) es place
      → HasLinePast kind IsWithin IsPast lines (get_or es place d).line
  line_past IsWithin IsPast lines es place d h first =
      let s = split_at (IsEntryLine kind key_of) lines es place h.each first.there in
      let before = entries_of key_of (take place es) in
      let entry = entry_of key_of (get_or es place d) in
      let after = entries_of key_of (drop (place + 1) es) in
      let are : entries_of key_of es ≡ before ++ entry ∷ after = parts key_of es place d first.there in
      let scale : ℕ = scale_of (entries_of key_of es) in
      let past : IsPast scale (before ++ entry ∷ []) =
      subst (IsPast scale) (map-more (entry_of key_of) es place d first.there) first.past
      in
      record {
        earlier = s.before;
        line = s.x;
        later = s.after;
        before = before;
        entry = entry;
        after = after;
        split = s.is;
        are = subst (AreEntries kind lines) are (are_entries lines es h);
        place = s.long ∙ sym (length-map (take place es) (entry_of key_of) ∙ taken);
        within = subst (λ z. IsWithin (scale_of z) before) are first.within;
        past = subst (λ z. IsPast (scale_of z) (before ++ entry ∷ [])) are past;
        here = sym (s.here d).here;
      }
    where
      taken : length (take place es) ≡ place
      taken = omega (arith, length-take place es, first.there)
