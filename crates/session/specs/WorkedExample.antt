-- A run that is worked out by hand: two states, of which the second has the label `a`, and one transition, from the first to the second.
use Rattle.std.specs.Prelude.{ℕ, List, [], ◌∷◌, ◌++◌, codes}
use Rattle.outside.specs.Shelf.{Pair}

-- the program's name, the kind of the model, and the names of its two files
abbrev pub example_words : List (List ℕ)
example_words = codes "mrmc_any" ∷ codes "ctmc" ∷ codes "M.tra" ∷ codes "M.lab" ∷ []

abbrev pub example_tra : List ℕ
example_tra = codes "STATES 2" ++ 10 ∷ codes "TRANSITIONS 1" ++ 10 ∷ codes "1 2 1" ++ 10 ∷ []

abbrev pub example_lab : List ℕ
example_lab = codes "#DECLARATION" ++ 10 ∷ codes "a" ++ 10 ∷ codes "#END" ++ 10 ∷ codes "2 a" ++ 10 ∷ []

abbrev pub example_files : List Pair
example_files = (codes "M.tra", example_tra) ∷ (codes "M.lab", example_lab) ∷ []

-- from where has the next state the label with a probability of a half at least? And a line with a name that isn't a label's
abbrev pub example_formulas : List ℕ
example_formulas = codes "P{>=0.5}[X a]" ++ 10 ∷ codes "b" ++ 10 ∷ []

-- from the first state surely; after the second comes no state
abbrev pub example_answer : List ℕ
example_answer =
    codes "formula P{>=0.5}[X a]" ++ 10 ∷ codes "1 satisfied 1.000000000000 1.000000000000" ++ 10
    ∷ codes "2 refuted 0.000000000000 0.000000000000" ++ 10 ∷ codes "refused line 2 column 1 UnknownLabel" ++ 10 ∷ []
