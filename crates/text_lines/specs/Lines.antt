-- The lines of a text. LF is the byte 10, and CR the byte 13.
use Rattle.std.specs.Prelude.{◌≡◌, ◌≢◌, ℕ, ◌+◌, List, [], ◌∷◌, ◌++◌, map, All}

-- a line: its number in the text, and its bytes without those that end it
pub record LineText : Type 0 where
  pub number : ℕ
  pub bytes : List ℕ

-- the lines with these bytes, numbered from n on
abbrev pub numbered_from : ℕ → List (List ℕ) → List LineText
numbered_from n [] = []
numbered_from n (bytes ∷ more) = record { number = n; bytes = bytes } ∷ numbered_from (n + 1) more

-- a line is ended by LF alone, or by CR LF
pub data Ending : Type 0 where
  Lf : Ending
  CrLf : Ending

abbrev pub ending_text : Ending → List ℕ
ending_text Lf = 10 ∷ []
ending_text CrLf = 13 ∷ 10 ∷ []

-- a line and what ends it
pub record EndedLine : Type 0 where
  pub bytes : List ℕ
  pub ending : Ending

-- none of the bytes is LF
abbrev pub HasNoLf : List ℕ → Type 0
HasNoLf bytes = All (λ b. b ≢ 10) bytes

-- the last of the bytes is CR
abbrev pub EndsWithCr : List ℕ → Type 0
EndsWithCr bytes = (front : List ℕ) × (bytes ≡ front ++ 13 ∷ [])

-- an ended line has no LF, and doesn't end with CR where LF alone ends it, since that CR would be part of its ending
pub record IsEndedLine (line : EndedLine) : Type 0 where
  pub no_lf : HasNoLf line.bytes
  pub no_cr : line.ending ≡ Lf → ¬ EndsWithCr line.bytes

-- ended lines, one after another
abbrev pub ended_text : List EndedLine → List ℕ
ended_text [] = []
ended_text (line ∷ more) = line.bytes ++ ending_text line.ending ++ ended_text more

-- what follows the last ended line is a line too, unless it is empty
abbrev pub last_line : List ℕ → List (List ℕ)
last_line [] = []
last_line (b ∷ bs) = (b ∷ bs) ∷ []

-- the text is ended lines and then a rest without LF, and these are its lines, numbered from 1
pub record HasLines (text : List ℕ) (lines : List LineText) : Type 0 where
  pub ended : List EndedLine
  pub rest : List ℕ
  pub spelled : text ≡ ended_text ended ++ rest
  pub each : All IsEndedLine ended
  pub no_lf : HasNoLf rest
  pub numbered : lines ≡ numbered_from 1 (map (λ line. line.bytes) ended ++ last_line rest)
