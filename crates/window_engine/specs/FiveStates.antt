-- Five states, of which some surely and some maybe are live or the goal: what the tests run on.
use Rattle.std.specs.Prelude.{ℕ, true, false, List, [], ◌∷◌}
use Rattle.round_out.specs.declared.entry.Entry.{Entry}
use Rattle.step_core.specs.FrameLists.{RowLists, SetLists}

abbrev pub jump : ℕ → ℕ → Entry
jump to num = record { to = to; num = num }

abbrev pub row_of : ℕ → List Entry → RowLists
row_of den entries = record { den = den; entries = entries }

-- the first state stays or jumps to the second or third, the third and the fourth lead back, and the fifth is a trap
abbrev pub five_rows : List RowLists
five_rows =
    row_of 4 (jump 0 2 ∷ jump 1 1 ∷ jump 2 1 ∷ [])
    ∷ row_of 1 (jump 1 1 ∷ [])
    ∷ row_of 2 (jump 1 1 ∷ jump 3 1 ∷ [])
    ∷ row_of 4 (jump 0 3 ∷ jump 4 1 ∷ [])
    ∷ row_of 7 (jump 4 7 ∷ [])
    ∷ []

-- the second state surely is the goal, and the third may be; the first and the third surely are live, and the second and the fourth may be
abbrev pub known_sets : SetLists
known_sets = record {
  goal_must = false ∷ true ∷ false ∷ false ∷ false ∷ [];
  goal_may = false ∷ true ∷ true ∷ false ∷ false ∷ [];
  live_must = true ∷ false ∷ true ∷ false ∷ false ∷ [];
  live_may = true ∷ true ∷ true ∷ true ∷ false ∷ [];
}
