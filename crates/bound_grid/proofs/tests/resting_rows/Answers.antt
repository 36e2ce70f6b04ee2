use Rattle.std.proofs.Common.{◌≡◌, List, [], ◌∷◌, ◌++◌, sym, ap, ◌∙◌, arith}
use Rattle.std.proofs.lemmas.List.FromFn.{map-range_with_len_more}
use Rattle.step_core.specs.FrameLists.{RowLists}
use Rattle.step_core.proofs.SmallModels.{jump, row_of}
use Rattle.bound_grid.proofs.tests.resting_rows.Goals as goal

pub loop-s-preserved : goal.loop-s-preserved
loop-s-preserved c =
    let same = ap (λ (r : RowLists). c.loop-s.rows.items ++ r ∷ []) c.in_ok-row.ensures in
    c.in_ok-push.ensures.items ∙ (same ∙ (ap (λ (xs : List RowLists). xs ++ row_of 1 (jump c.loop-s.s 1 ∷ []) ∷ []) c.loop-s.invariant
    ∙ sym (map-range_with_len_more (λ s. row_of 1 (jump s 1 ∷ [])) 0 c.loop-s.s c.loop-s.s (omega arith))))
