-- Files by their names, as a list of pairs of a name and its bytes.
use Rattle.std.specs.Prelude.{◌≡◌, ℕ, ◌<◌, ◌≤◌, ◌⊎◌, List, [], ◌∷◌, ◌++◌, length, map, Contains, Option, Some, IfSome, IsSomeAnd, IsNone, Result, Ok, Err, Vec, String, string_bytes, bytes_eq, is_none, count_by}
use Rattle.std.specs.Map.{lookup}
use Rattle.std.specs.declared.alloc.Global.{Global}
use Rattle.outside.specs.declared.fault.TakeFault.{TakeFault}
use Rattle.outside.specs.declared.files.TheConstants.{FILE_LIMIT}
use Rattle.outside.specs.declared.fault.TakeFault.TheVariants.{Failed, TooBig, Memory}
use Rattle.outside.specs.Causes.{one_more}

abbrev pub Pair : Type 0
Pair = List ℕ × List ℕ

-- the pairs that such a list holds
abbrev pub pairs_of : List (String Global × Vec ℕ Global) → List Pair
pairs_of files = map (λ file. (string_bytes file.0, file.1.items)) files

-- the bytes of the first pair of that name
abbrev pub file_named : List ℕ → List Pair → Option (List ℕ)
file_named name pairs = lookup (λ key. bytes_eq key name) pairs

-- these are the bytes of the named file, where the files are told
abbrev pub IsFile : List ℕ → Option (List Pair) → List ℕ → Type 0
IsFile name files bytes = IfSome files (λ pairs. file_named name pairs ≡ Some bytes)

-- the named file has more bytes than the limit, where the files are told
abbrev pub IsTooBig : List ℕ → Option (List Pair) → Type 0
IsTooBig name files = IfSome files (λ pairs. IsSomeAnd (file_named name pairs) (λ bytes. FILE_LIMIT < length bytes))

-- the bytes of the file that is there, `TooBig` where it has more than the limit, and neither where it isn't there
abbrev pub Takes : List ℕ → Option (List Pair) → Result (Vec ℕ Global) TakeFault → Type 0
Takes name files (Ok bytes) = IsFile name files bytes.items × (length bytes.items ≤ FILE_LIMIT)
Takes name files (Err TooBig) = IsTooBig name files
Takes name files (Err Failed) = Unit {0}
Takes name files (Err Memory) = Unit {0}

-- the names asked for after a call: this one is added, except where memory ran out
abbrev pub asked_after : List ℕ → Result (Vec ℕ Global) TakeFault → List (List ℕ) → List (List ℕ)
asked_after name (Ok bytes) asked = asked ++ name ∷ []
asked_after name (Err TooBig) asked = asked ++ name ∷ []
asked_after name (Err Failed) asked = asked ++ name ∷ []
asked_after name (Err Memory) asked = asked

-- the name is added to those that were asked for, except where memory ran out
abbrev pub Asks : List ℕ → Result (Vec ℕ Global) TakeFault → List (List ℕ) → List (List ℕ) → Type 0
Asks name result old new = new ≡ asked_after name result old

-- the call fails exactly where it has this reason to, unless memory ran out
abbrev pub FailsWhere : Type 0 → Result (Vec ℕ Global) TakeFault → Type 0
FailsWhere reason (Ok bytes) = ¬ reason
FailsWhere reason (Err TooBig) = ¬ reason
FailsWhere reason (Err Failed) = reason
FailsWhere reason (Err Memory) = Unit {0}

-- how many of the names asked for are no file's
abbrev pub missing_count : List Pair → List (List ℕ) → ℕ
missing_count pairs asked = count_by (λ name. is_none (file_named name pairs)) asked

-- files in memory: the pairs, the names asked for, the numbers of the calls that fail, and how many calls there were
-- and failed
pub record FilesState : Type 0 where
  pub files : List Pair
  pub asked : List (List ℕ)
  pub fail : List ℕ
  pub calls : ℕ
  pub faults : ℕ

-- files in memory that are always at hand
pub record SureFilesState : Type 0 where
  pub files : List Pair
  pub asked : List (List ℕ)

-- a reason for the next call to fail: its number is listed, or there is no file of that name
abbrev pub FailsNext : List ℕ → FilesState → Type 0
FailsNext name state = Contains state.fail (one_more state.calls) ⊎ IsNone (file_named name state.files)
