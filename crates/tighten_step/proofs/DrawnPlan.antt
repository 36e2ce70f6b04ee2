-- A drawn plan is sound.
use Rattle.std.proofs.Common.{◌≡◌, ℕ, ◌+◌, ◌^◌, ◌<◌, Bool, List, [], ◌∷◌, All, length, map, sym, ap, ◌∙◌, subst, arith}
use Rattle.std.specs.Prelude.{slice_index, if◌then◌else◌}
use Rattle.ctmc_semantics.specs.RoundedTables.{one_word}
use Rattle.flat_rows.proofs.SmallFrame.{sound_row}
use Rattle.step_core.specs.declared.mix.Mix.TheVariants.{Last}
use Rattle.step_core.specs.FrameLists.{RowLists, SetLists, FrameLists}
use Rattle.step_core.specs.Reach.{TellsReach}
use Rattle.step_core.specs.SoundFrame.{IsSoundRow, AreSoundSets, IsSoundFrame}
use Rattle.step_core.specs.SoundPlan.{IsSoundPlan}
use Rattle.step_core.proofs.Layers.{set_layer}
use Rattle.step_core.proofs.SmallModels.{jump, row_of}

pub three_entries : (n s t u a b d : ℕ) → s < t → t < u → u < n → 0 < a → 0 < b → 0 < d → a + b + d < 2 ^ 63
    → IsSoundRow n (row_of (a + b + d) (jump s a ∷ jump t b ∷ jump u d ∷ []))
three_entries n s t u a b d st tu un pa pb pd fits =
    sound_row n (a + b + d) (jump s a ∷ jump t b ∷ jump u d ∷ [])
    (omega (arith, st, tu, un), (omega (arith, tu, un), (un, tt)))
    (st, (tu, tt)) (pa, (pb, (pd, tt))) (omega arith) (omega (arith, pa)) fits

pub frame_of : (rows : List RowLists) (sets : SetLists) → length rows ≡ 300 → All (IsSoundRow 300) rows → AreSoundSets 300 sets
    → IsSoundFrame record { rows = rows; sets = sets }
frame_of rows sets n h are = record {
  some = omega (arith, n);
  few = omega (arith, n);
  rows = subst (λ m. All (IsSoundRow m) rows) (sym n) h;
  sets = subst (λ m. AreSoundSets m sets) (sym n) are;
}

pub last_sound : (frame : FrameLists) (start : List ℕ) (reach : List Bool) → IsSoundFrame frame → TellsReach frame reach
    → start ≡ map (λ holds. if holds then one_word else 0) reach
    → IsSoundPlan record { frame = frame; layers = 12; start_upper = start; reach = reach; mix = Last }
last_sound frame start reach sound tells is =
    let layer = set_layer (length frame.rows) reach tells.states in
    record {
      frame = sound;
      some_layer = omega arith;
      few_layers = omega arith;
      start_states = ap (λ xs. length xs) is ∙ layer.states;
      start = λ s l. ap (λ xs. slice_index xs s) is ∙ layer.words s l;
      reach = tells;
      mix = tt;
    }
