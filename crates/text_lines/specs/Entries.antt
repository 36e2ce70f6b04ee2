-- Files of entries: each line writes a key, as a state or two of them, and then a decimal, the key's value.
use Rattle.std.specs.Prelude.{◌≢◌, ℕ, List, map, AllPairs}
use Rattle.std.specs.List.{AllZip}
use Rattle.decimal_text.specs.DecimalNumber.{DecimalNumber}
use Rattle.decimal_text.specs.DecimalWord.{IsDecimalWord}
use Rattle.decimal_text.specs.Scale.{greatest_decimals}
use Rattle.text_lines.specs.WordLines.{WordLine}

-- what a line writes
pub record Entry (Key : Type 0) : Type 0 where
  pub key : Key
  pub value : DecimalNumber

-- a kind of entries: how a line writes a key and then one word more, and which keys are in range
pub record Kind (Key : Type 0) : Type 1 where
  pub Writes : WordLine → Key → List ℕ → Type 0
  pub IsInRange : Key → Type 0

-- the line writes a key that is in range, and then this word
pub record HasKey {Key : Type 0} (kind : Kind Key) (line : WordLine) (key : Key) (word : List ℕ) : Type 0 where
  pub writes : kind.Writes line key word
  pub in_range : kind.IsInRange key

-- the line writes the entry
pub record IsEntry {Key : Type 0} (kind : Kind Key) (line : WordLine) (entry : Entry Key) : Type 0 where
  pub word : List ℕ
  pub key : HasKey kind line entry.key word
  pub value : IsDecimalWord word entry.value

-- the keys of the entries
abbrev pub keys_of : {Key : Type 0} → List (Entry Key) → List Key
keys_of entries = map (λ e. e.key) entries

-- the lines write these entries, and their keys are distinct
pub record AreEntries {Key : Type 0} (kind : Kind Key) (lines : List WordLine) (entries : List (Entry Key)) : Type 0 where
  pub each : AllZip (IsEntry kind) lines entries
  pub once : AllPairs ◌≢◌ (keys_of entries)

-- the scale of the entries: the greatest number of decimals of their values, 0 where there are none
abbrev pub scale_of : {Key : Type 0} → List (Entry Key) → ℕ
scale_of entries = greatest_decimals (map (λ e. e.value) entries)
