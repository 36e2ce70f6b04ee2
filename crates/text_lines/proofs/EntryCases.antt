-- Each line writes an entry whose key is new, or fails by one check.
use Rattle.std.proofs.Common.{◌≡◌, ℕ, inl, inr, Bool, Decides, cond, List, ap, refl, sym, subst, ◌∙◌}
use Rattle.std.specs.List.{Contains, list_any}
use Rattle.std.proofs.lemmas.Bool.{cases_Bool, cond-true, cond-false, false_from_ne_true}
use Rattle.std.proofs.lemmas.Bool.Decides.{Decides-by_or, not_from_Decides}
use Rattle.std.proofs.lemmas.List.Elements.{Decides-contains}
use Rattle.decimal_text.specs.DecimalNumber.{DecimalNumber}
use Rattle.decimal_text.proofs.DecimalCases.{WordCase, Writes, Lacks, IsWordCase, word_case, word_case_holds, word_case_is}
use Rattle.text_lines.specs.Entries.{Entry, Kind, HasKey, IsEntry, keys_of}
use Rattle.text_lines.specs.EntryFault.{FailsBy}
use Rattle.text_lines.specs.WordLines.{WordLine}
use Rattle.text_lines.specs.declared.fault.FileWhat.{FileWhat}
use Rattle.text_lines.specs.declared.fault.FileWhat.TheVariants as what

-- a line's key and the word after it, where it has these
pub data KeyCase (Key : Type 0) : Type 0 where
  NoKey : KeyCase Key
  SomeKey : Key → List ℕ → KeyCase Key

abbrev pub IsKeyCase : {Key : Type 0} → Kind Key → WordLine → KeyCase Key → Type 0
IsKeyCase {Key} kind line NoKey = (key : Key) (word : List ℕ) → ¬ kind.Writes line key word
IsKeyCase kind line (SomeKey key word) = kind.Writes line key word

-- of a kind it can be told what a line is
pub record IsDecided {Key : Type 0} (kind : Kind Key) : Type 0 where
  pub some : (line : WordLine) → (c : KeyCase Key) × IsKeyCase kind line c
  pub one : (line : WordLine) (k l : Key) (v w : List ℕ) → kind.Writes line k v → kind.Writes line l w → (k ≡ l) × (v ≡ w)
  pub in_range : Key → Bool
  pub range_decides : (key : Key) → Decides (in_range key) (kind.IsInRange key)
  pub same : Key → Key → Bool
  pub same_decides : (k l : Key) → Decides (same k l) (k ≡ l)

-- what a line is after some entries
pub data LineCase (Key : Type 0) : Type 0 where
  Good : Entry Key → LineCase Key
  Bad : FileWhat → LineCase Key

-- no entry is of the key
abbrev pub IsNew : {Key : Type 0} → List (Entry Key) → Key → Type 0
IsNew entries key = ¬ Contains (keys_of entries) key

abbrev pub IsLineCase : {Key : Type 0} → Kind Key → List (Entry Key) → WordLine → LineCase Key → Type 0
IsLineCase kind entries line (Good e) = IsEntry kind line e × IsNew entries e.key
IsLineCase kind entries line (Bad w) = FailsBy kind entries line w

module _ {Key : Type 0} (kind : Kind Key) (is : IsDecided kind) where
  -- ---- the key

  key_unique : (line : WordLine) (c d : KeyCase Key) → IsKeyCase kind line c → IsKeyCase kind line d → c ≡ d
  key_unique line NoKey NoKey h k = refl
  key_unique line NoKey (SomeKey key word) h k = absurd (h key word k)
  key_unique line (SomeKey key word) NoKey h k = absurd (k key word h)
  key_unique line (SomeKey key word) (SomeKey key' word') h k =
      let same = is.one line key key' word word' h k in
      ap (λ z. SomeKey z word) same.0 ∙ ap (λ z. SomeKey key' z) same.1

  key_case : WordLine → KeyCase Key
  key_case line = (is.some line).0

  key_case_holds : (line : WordLine) → IsKeyCase kind line (key_case line)
  unfolding key_case
  key_case_holds line = (is.some line).1

  key_case_is : (line : WordLine) (c : KeyCase Key) → IsKeyCase kind line c → key_case line ≡ c
  key_case_is line c h = key_unique line (key_case line) c (key_case_holds line) h

  -- ---- the keys of earlier entries

  abbrev has_key : List Key → Key → Bool
  has_key keys key = list_any (λ k. is.same k key) keys

  has_decides : (keys : List Key) (key : Key) → Decides (has_key keys key) (Contains keys key)
  has_decides keys key =
      Decides-contains keys key (has_key keys key)
      (Decides-by_or (λ k. is.same k key) (λ k. k ≡ key) (λ ks. has_key ks key) (λ k. is.same_decides k key) refl (λ _ _. refl) keys)

  abbrev is_old : List (Entry Key) → Entry Key → Bool
  is_old entries e = has_key (keys_of entries) e.key

  -- ---- the line

  abbrev written : Key → DecimalNumber → Entry Key
  written key d = record { key = key; value = d }

  abbrev if_new : List (Entry Key) → Entry Key → LineCase Key
  if_new entries e = cond (is_old entries e) (Bad what.Repeated) (Good e)

  abbrev by_word : List (Entry Key) → Key → WordCase → LineCase Key
  by_word entries key (Lacks fault) = Bad (what.Number fault)
  by_word entries key (Writes d) = if_new entries (written key d)

  abbrev by_key : List (Entry Key) → KeyCase Key → LineCase Key
  by_key entries NoKey = Bad what.Word
  by_key entries (SomeKey key word) = cond (is.in_range key) (by_word entries key (word_case word)) (Bad what.StateRange)

  pub line_case : List (Entry Key) → WordLine → LineCase Key
  line_case entries line = by_key entries (key_case line)

  -- a line whose key is in range
  with_key : (entries : List (Entry Key)) (line : WordLine) (key : Key) (word : List ℕ) → HasKey kind line key word
      → line_case entries line ≡ by_word entries key (word_case word)
  unfolding line_case
  with_key entries line key word h =
      ap (by_key entries) (key_case_is line (SomeKey key word) h.writes)
      ∙ cond-true (is.in_range key) _ _ ((is.range_decides key).1 h.in_range)

  -- a line that writes an entry
  with_entry : (entries : List (Entry Key)) (line : WordLine) (e : Entry Key) → IsEntry kind line e
      → line_case entries line ≡ if_new entries e
  with_entry entries line e h =
      with_key entries line e.key h.word h.key ∙ ap (by_word entries e.key) (word_case_is h.word (Writes e.value) h.value)

  -- a line is one thing only
  pub line_case_is : (entries : List (Entry Key)) (line : WordLine) (c : LineCase Key) → IsLineCase kind entries line c
      → line_case entries line ≡ c
  unfolding line_case
  line_case_is entries line (Good e) h =
      with_entry entries line e h.0
      ∙ cond-false (is_old entries e) _ _ (false_from_ne_true (is_old entries e) (λ t. h.1 ((has_decides (keys_of entries) e.key).0 t)))
  line_case_is entries line (Bad what.Word) h = ap (by_key entries) (key_case_is line NoKey h)
  line_case_is entries line (Bad what.StateRange) h =
      ap (by_key entries) (key_case_is line (SomeKey h.key h.word) h.writes)
      ∙ cond-false (is.in_range h.key) _ _ (false_from_ne_true (is.in_range h.key) (λ t. h.outside ((is.range_decides h.key).0 t)))
  line_case_is entries line (Bad (what.Number fault)) h =
      with_key entries line h.key h.word h.has ∙ ap (by_word entries h.key) (word_case_is h.word (Lacks fault) h.is)
  line_case_is entries line (Bad what.Repeated) h =
      with_entry entries line h.entry h.is
      ∙ cond-true (is_old entries h.entry) _ _ ((has_decides (keys_of entries) h.entry.key).1 h.earlier)
  line_case_is entries line (Bad other) h = absurd h

  -- a line that writes an entry, which is new or not
  new_or_not : (entries : List (Entry Key)) (line : WordLine) (e : Entry Key) → IsEntry kind line e
      → IsLineCase kind entries line (if_new entries e)
  new_or_not entries line e h =
      elim (cases_Bool (is_old entries e)) [
        | inl t ↦
            subst (IsLineCase kind entries line) (sym (cond-true (is_old entries e) (Bad what.Repeated) (Good e) t))
            (record { entry = e; is = h; earlier = (has_decides (keys_of entries) e.key).0 t })
        | inr f ↦
            subst (IsLineCase kind entries line) (sym (cond-false (is_old entries e) (Bad what.Repeated) (Good e) f))
            (h, not_from_Decides (is_old entries e) (has_decides (keys_of entries) e.key) f)
      ]

  value_or_fault : (entries : List (Entry Key)) (line : WordLine) (key : Key) (word : List ℕ) (w : WordCase) → HasKey kind line key word
      → IsWordCase word w
      → IsLineCase kind entries line (by_word entries key w)
  value_or_fault entries line key word (Lacks fault) h k = record { key = key; word = word; has = h; is = k }
  value_or_fault entries line key word (Writes d) h k =
      new_or_not entries line (written key d) (record { word = word; key = h; value = k })

  key_or_not : (entries : List (Entry Key)) (line : WordLine) (c : KeyCase Key) → IsKeyCase kind line c
      → IsLineCase kind entries line (by_key entries c)
  key_or_not entries line NoKey h = h
  key_or_not entries line (SomeKey key word) h =
      let right = by_word entries key (word_case word) in
      let wrong = Bad what.StateRange in
      elim (cases_Bool (is.in_range key)) [
        | inl t ↦
            subst (IsLineCase kind entries line) (sym (cond-true (is.in_range key) right wrong t))
            (value_or_fault entries line key word (word_case word) (record {
              writes =
                  h;
              in_range = (is.range_decides key).0 t;
            }) (word_case_holds word))
        | inr f ↦
            subst (IsLineCase kind entries line) (sym (cond-false (is.in_range key) right wrong f))
            (record { key = key; word = word; writes = h; outside = not_from_Decides (is.in_range key) (is.range_decides key) f })
      ]

  -- and it is this one
  pub line_case_holds : (entries : List (Entry Key)) (line : WordLine) → IsLineCase kind entries line (line_case entries line)
  unfolding line_case
  line_case_holds entries line = key_or_not entries line (key_case line) (key_case_holds line)
