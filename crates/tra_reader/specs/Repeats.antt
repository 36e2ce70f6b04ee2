-- How a repeated pair of states is found: the entries' places are sorted by their pairs.
use Rattle.std.specs.Prelude.{◌≡◌, ◌≢◌, ℕ, ◌+◌, ◌*◌, ◌/◌, ◌%◌, ◌^◌, ◌<◌, ◌≤◌, List, length, map, take, AllPairs, slice_index}
use Rattle.text_lines.specs.declared.entry_line.EntryLine.{EntryLine}
use Rattle.tra_reader.specs.declared.entry.Pair.{Pair}
use Rattle.tra_reader.specs.declared.repeats.TheConstants.{PLACES}

-- the number of the pair of states of an entry
abbrev pub number_of : EntryLine Pair → ℕ
number_of e = e.key.from * 2 ^ 16 + e.key.to

-- the number of each entry's pair with its place among the entries below it
pub record AreKeys (numbers keys : List ℕ) : Type 0 where
  pub long : length keys ≡ length numbers
  pub each : (i : ℕ) → i < length numbers → slice_index keys i ≡ slice_index numbers i * PLACES + i

-- this key and the next have the same number above the place
abbrev pub IsSameAsNext : List ℕ → ℕ → Type 0
IsSameAsNext keys k = slice_index keys k / PLACES ≡ slice_index keys (k + 1) / PLACES

-- the least place of a key whose number is that of the key before it, or the number of keys where there is none below it
pub record IsLeastMark (keys : List ℕ) (mark : ℕ) : Type 0 where
  pub within : mark ≤ length keys
  pub found : mark < length keys → (k : ℕ) × (k + 1 < length keys) × IsSameAsNext keys k × (mark ≡ slice_index keys (k + 1) % PLACES)
  pub least : (k : ℕ) → k + 1 < length keys → IsSameAsNext keys k → mark ≤ slice_index keys (k + 1) % PLACES

-- the place of the first of the numbers that stands earlier too, or how many there are where none does
pub record IsFirstRepeat (numbers : List ℕ) (place : ℕ) : Type 0 where
  pub within : place ≤ length numbers
  pub once : AllPairs ◌≢◌ (take place numbers)
  pub repeats : place < length numbers → (i : ℕ) × (i < place) × (slice_index numbers i ≡ slice_index numbers place)

-- the same of the entries' pairs
abbrev pub IsFirstRepeated : List (EntryLine Pair) → ℕ → Type 0
IsFirstRepeated entries place = IsFirstRepeat (map number_of entries) place
