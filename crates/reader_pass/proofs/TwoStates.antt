-- A plan of a state that surely jumps to the goal, and the goal, is sound.
use Rattle.std.proofs.Common.{◌≡◌, ℕ, ◌^◌, ◌≤◌, List, [], ◌∷◌, Bool, refl}
use Rattle.step_core.specs.declared.mix.Mix.{Mix}
use Rattle.step_core.specs.declared.mix.Mix.TheVariants.{Poisson, Last}
use Rattle.step_core.specs.FrameLists.{RowLists, SetLists}
use Rattle.step_core.specs.PlanLists.{PlanLists}
use Rattle.step_core.specs.SoundPlan.{IsSoundPlan, IsSoundMix}
use Rattle.step_core.proofs.Layers.{set_layer}
use Rattle.step_core.proofs.SmallModels.{jump, row_of, first_two, first_two_sound}

-- the first state's upper word within no jump
abbrev pub first_word : Mix → ℕ
first_word (Poisson weights bits) = 0
first_word Last = 2 ^ 62

abbrev two_plan : ℕ → Mix → PlanLists
two_plan layers mix = record {
  frame = first_two.frame;
  layers = layers;
  start_upper = first_word mix ∷ 2 ^ 62 ∷ [];
  reach = first_two.reach;
  mix = mix;
}

plan_sound : (layers : ℕ) (mix : Mix) → 1 ≤ layers → layers ≤ 16384 → IsSoundMix layers mix → IsSoundPlan (two_plan layers mix)
plan_sound layers (Poisson weights bits) some few sound = record {
  frame = first_two_sound.frame;
  some_layer = some;
  few_layers = few;
  start_states = refl;
  start = λ s l. (set_layer 2 first_two.frame.sets.goal_may refl).words s l;
  reach = first_two_sound.reach;
  mix = sound;
}
plan_sound layers Last some few sound = record {
  frame = first_two_sound.frame;
  some_layer = some;
  few_layers = few;
  start_states = refl;
  start = λ s l. (set_layer 2 first_two.reach refl).words s l;
  reach = first_two_sound.reach;
  mix = tt;
}

-- a plan that is put together of the same parts is sound
pub two_sound : (layers : ℕ) (mix : Mix) → 1 ≤ layers → layers ≤ 16384 → IsSoundMix layers mix
    → (rows : List RowLists) (a b : RowLists) (sets : SetLists) (start : List ℕ) (reach : List Bool) (first : ℕ)
    → rows ≡ a ∷ b ∷ [] → a ≡ row_of 1 (jump 1 1 ∷ []) → b ≡ row_of 1 (jump 1 1 ∷ []) → sets ≡ first_two.frame.sets
    → start ≡ first ∷ 2 ^ 62 ∷ [] → first ≡ first_word mix → reach ≡ first_two.reach
    → IsSoundPlan record { frame = record { rows = rows; sets = sets }; layers = layers; start_upper = start; reach = reach; mix = mix }
two_sound layers mix some few sound rows a b sets start reach first er ea eb es et ef eu =
    rw (er, ea, eb, es, et, ef, eu) (plan_sound layers mix some few sound)
