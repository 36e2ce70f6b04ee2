-- The declarations of a `.lab` file: the names that stand between the lines `#DECLARATION` and `#END`. Lines that are blank don't count
-- here.
use Rattle.std.specs.Prelude.{◌≡◌, ◌≢◌, ℕ, ◌≤◌, IsTrue, List, [], ◌∷◌, ◌++◌, length, All, AllPairs, codes}
use Rattle.std.specs.List.{flat_map}
use Rattle.model_core.specs.declared.limits.TheConstants.{MOST_LABELS}
use Rattle.text_lines.specs.Name.{is_name}
use Rattle.text_lines.specs.WordLines.{WordLine}

-- the line has this one word
abbrev pub IsOnly : List ℕ → WordLine → Type 0
IsOnly word line = line.words ≡ word ∷ []

-- the line that begins the declarations
abbrev pub IsOpening : WordLine → Type 0
IsOpening line = IsOnly (codes "#DECLARATION") line

-- the line that ends them
abbrev pub IsClosing : WordLine → Type 0
IsClosing line = IsOnly (codes "#END") line

-- words that can be declared: names, all different, and not too many
pub record AreNames (names : List (List ℕ)) : Type 0 where
  pub each : All (λ word. IsTrue (is_name word)) names
  pub distinct : AllPairs ◌≢◌ names
  pub few : length names ≤ MOST_LABELS

-- the words of the lines, one line after another
abbrev pub words_in : List WordLine → List (List ℕ)
words_in lines = flat_map (λ line. line.words) lines

-- the file begins with the opening line and these lines of declarations, which are right, and then come the others
pub record BeginsWithNames (lines declarations others : List WordLine) : Type 0 where
  pub opening : WordLine
  pub is_opening : IsOpening opening
  pub split : lines ≡ opening ∷ (declarations ++ others)
  pub not_closing : All (λ line. ¬ IsClosing line) declarations
  pub names : AreNames (words_in declarations)

-- the file declares these names, and after the closing line comes the body
pub record Declares (lines : List WordLine) (names : List (List ℕ)) (body : List WordLine) : Type 0 where
  pub declarations : List WordLine
  pub closing : WordLine
  pub begins : BeginsWithNames lines declarations (closing ∷ body)
  pub is_closing : IsClosing closing
  pub are : names ≡ words_in declarations
