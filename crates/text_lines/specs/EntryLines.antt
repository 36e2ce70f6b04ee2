-- Entries as they are kept, each with the number of its line and a key in a form of its own.
use Rattle.std.specs.Prelude.{◌≡◌, ◌≢◌, ℕ, ◌+◌, ◌<◌, List, ◌++◌, length, map, take, AllPairs}
use Rattle.std.specs.List.{AllZip}
use Rattle.decimal_text.specs.DecimalNumber.{DecimalNumber}
use Rattle.text_lines.specs.Entries.{Entry, Kind, IsEntry, keys_of}
use Rattle.text_lines.specs.EntryFault.{FailsBy}
use Rattle.text_lines.specs.WordLines.{WordLine}
use Rattle.text_lines.specs.declared.entry_line.EntryLine.{EntryLine}
use Rattle.text_lines.specs.declared.fault.FileWhat.{FileWhat}

-- the value
abbrev pub value_of : {K : Type 0} → EntryLine K → DecimalNumber
value_of e = record { c = e.digits; x = e.decimals }

-- the entry, where its key stands for this one
abbrev pub entry_of : {K Key : Type 0} → (K → Key) → EntryLine K → Entry Key
entry_of key_of e = record { key = key_of e.key; value = value_of e }

abbrev pub entries_of : {K Key : Type 0} → (K → Key) → List (EntryLine K) → List (Entry Key)
entries_of key_of entries = map (entry_of key_of) entries

-- the line writes the entry, which is kept with the line's number
pub record IsEntryLine {K Key : Type 0} (kind : Kind Key) (key_of : K → Key) (line : WordLine) (e : EntryLine K) : Type 0 where
  pub here : line.number ≡ e.line
  pub is : IsEntry kind line (entry_of key_of e)

-- the line fails so, whatever the entries before it
abbrev pub FailsAnyway : {Key : Type 0} → Kind Key → WordLine → FileWhat → Type 0
FailsAnyway {Key} kind line fault = (entries : List (Entry Key)) → FailsBy kind entries line fault

-- the first of the lines write these entries, and the others are left
pub record HasRead {K Key : Type 0} (kind : Kind Key) (key_of : K → Key) (lines : List WordLine) (entries : List (EntryLine K))
    (more : List WordLine) : Type 0 where
  pub front : List WordLine
  pub split : lines ≡ front ++ more
  pub are : AllZip (IsEntryLine kind key_of) front entries

-- the lines write these entries, and their keys are distinct
pub record AreRead {K Key : Type 0} (kind : Kind Key) (key_of : K → Key) (lines : List WordLine)
    (entries : List (EntryLine K)) : Type 0 where
  pub each : AllZip (IsEntryLine kind key_of) lines entries
  pub once : AllPairs ◌≢◌ (keys_of (entries_of key_of entries))

-- the place of the first entry that goes past a limit
pub record IsFirstPast {K Key : Type 0} (key_of : K → Key) (IsWithin IsPast : List (Entry Key) → Type 0)
    (entries : List (EntryLine K)) (place : ℕ) : Type 0 where
  pub there : place < length entries
  pub within : IsWithin (entries_of key_of (take place entries))
  pub past : IsPast (entries_of key_of (take (place + 1) entries))
