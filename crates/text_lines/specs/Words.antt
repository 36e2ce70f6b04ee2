-- The words of a line: its longest runs of bytes other than space, the byte 32, and tab, the byte 9.
use Rattle.std.specs.Prelude.{◌≡◌, ℕ, ◌+◌, ◌<◌, Bool, ◌||◌, ◌==◌, IsTrue, not, List, [], ◌∷◌, ◌++◌, length, All, AllPairs, Contains}

-- a word: the position of its first byte in the line, from 1, and its bytes
pub record WordText : Type 0 where
  pub column : ℕ
  pub bytes : List ℕ

-- a blank is a space or a tab
abbrev pub is_blank : ℕ → Bool
is_blank b = b == 32 || b == 9

-- none of the bytes is a blank
abbrev pub HasNoBlank : List ℕ → Type 0
HasNoBlank bytes = All (λ b. IsTrue (not (is_blank b))) bytes

-- the last of the bytes is a blank, if there is one
abbrev pub LastIsBlank : List ℕ → Type 0
LastIsBlank bytes = (front : List ℕ) (b : ℕ) → bytes ≡ front ++ b ∷ [] → IsTrue (is_blank b)

-- the first of the bytes is a blank, if there is one
abbrev pub FirstIsBlank : List ℕ → Type 0
FirstIsBlank bytes = (b : ℕ) (more : List ℕ) → bytes ≡ b ∷ more → IsTrue (is_blank b)

-- w is a longest run of bytes other than blanks: it isn't empty, and before it and after it a blank stands or nothing; its column counts
-- the bytes before it, and one more
pub record IsWordOf (line : List ℕ) (w : WordText) : Type 0 where
  pub before : List ℕ
  pub after : List ℕ
  pub stands : line ≡ before ++ w.bytes ++ after
  pub column : w.column ≡ length before + 1
  pub some : 0 < length w.bytes
  pub solid : HasNoBlank w.bytes
  pub starts : LastIsBlank before
  pub ends : FirstIsBlank after

-- these are the words of the line, each of them and nothing else, in ascending order of their columns
pub record HasWords (line : List ℕ) (words : List WordText) : Type 0 where
  pub each : All (IsWordOf line) words
  pub all : (w : WordText) → IsWordOf line w → Contains words w
  pub ascending : AllPairs (λ v w. v.column < w.column) words

-- a blank line has no words
abbrev pub IsBlank : List ℕ → Type 0
IsBlank line = HasWords line []
