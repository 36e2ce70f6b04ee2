-- The pieces of a formula's text that are still to be written, the next of them last.
use Rattle.std.specs.Prelude.{ℕ, ◌+◌, List, [], ◌∷◌, ◌++◌, codes, ⊤}
use Rattle.csl_syntax.specs.declared.text.Piece.{Piece}
use Rattle.csl_syntax.specs.declared.text.Piece.TheVariants.{Text, UntilWord, Part}
use Rattle.csl_syntax.specs.Tree.{Tree, truth, falsehood, label, negation, conjunction, disjunction, next, until, tree_of, IsOver}
use Rattle.csl_syntax.specs.CanonicalText.{bound_text, formula_text}

-- the text of a piece
abbrev pub piece_text : List (List ℕ) → Piece → List ℕ
piece_text labels (Text text) = text.now
piece_text labels (UntilWord bound) = codes " " ++ bound_text bound.now ++ codes " "
piece_text labels (Part f) = formula_text labels (tree_of f.now)

-- the texts of the pieces that are pending, from the next one on
abbrev pub pending_text : List (List ℕ) → List Piece → List ℕ
pending_text labels [] = []
pending_text labels (p ∷ ps) = pending_text labels ps ++ piece_text labels p

-- how many pieces a formula makes at most
abbrev pub tree_size : Tree → ℕ
tree_size truth = 1
tree_size falsehood = 1
tree_size (label j) = 1
tree_size (negation f) = tree_size f + 6
tree_size (conjunction f g) = tree_size f + tree_size g + 6
tree_size (disjunction f g) = tree_size f + tree_size g + 6
tree_size (next op threshold f) = tree_size f + 6
tree_size (until op threshold f bound g) = tree_size f + tree_size g + 6

-- how many pieces a piece makes at most
abbrev pub piece_size : Piece → ℕ
piece_size (Text text) = 1
piece_size (UntilWord bound) = 1
piece_size (Part f) = tree_size (tree_of f.now)

abbrev pub pending_size : List Piece → ℕ
pending_size [] = 0
pending_size (p ∷ ps) = pending_size ps + piece_size p

-- a formula that is pending is over the first n labels
abbrev pub PieceIsOver : ℕ → Piece → Type 0
PieceIsOver n (Text text) = ⊤
PieceIsOver n (UntilWord bound) = ⊤
PieceIsOver n (Part f) = IsOver n (tree_of f.now)

-- each formula that is pending is so
abbrev pub PendingIsOver : ℕ → List Piece → Type 0
PendingIsOver n [] = ⊤
PendingIsOver n (p ∷ ps) = PieceIsOver n p × PendingIsOver n ps
