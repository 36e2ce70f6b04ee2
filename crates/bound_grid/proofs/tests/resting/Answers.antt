use Rattle.std.proofs.Common.{◌≡◌, List, [], ◌∷◌, length, refl, ap, ◌∙◌}
use Rattle.std.proofs.lemmas.List.FromFn.{length-map-range_with_len}
use Rattle.step_core.specs.FrameLists.{RowLists}
use Rattle.step_core.proofs.SmallModels.{jump, row_of}
use Rattle.bound_grid.proofs.RestingStates.{resting_is_sound}
use Rattle.bound_grid.proofs.tests.resting.Goals as goal

pub returns-clause-sound : goal.returns-clause-sound
returns-clause-sound c =
    let all = c.in_ok-all.ensures.items_if_clones_equal (λ y h. h) in
    resting_is_sound c.args.states c.args.layers c.requires.some c.requires.few c.requires.some_layer c.requires.few_layers
    _ _ _ _ c.in_ok-rows.ensures
    (c.in_ok-sets.ensures ∙ rw (c.deref.ensures.value ∙ all, c.deref-2.ensures.value ∙ all) refl)
    (c.in_ok-vec.ensures.items_if_clones_equal (λ y h. h)) all

pub returns-clause-states : goal.returns-clause-states
returns-clause-states c =
    ap (λ (rows : List RowLists). length rows) c.in_ok-rows.ensures
    ∙ length-map-range_with_len (λ s. row_of 1 (jump s 1 ∷ [])) 0 c.args.states
