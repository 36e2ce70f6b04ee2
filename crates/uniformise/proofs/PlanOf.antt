-- The plans that are built of a model's lists are those of a time bound and of no bound.
use Rattle.std.proofs.Common.{◌≡◌, ℕ, ◌<◌, ◌≤◌, Bool, false, cond, List, length, map, slice_index, refl, sym, ◌∙◌, subst, arith}
use Rattle.std.specs.Prelude.{All}
use Rattle.std.proofs.lemmas.List.{get_or-map, length-map}
use Rattle.ctmc_semantics.specs.Chain.{Chain}
use Rattle.ctmc_semantics.specs.Fraction.{Fraction}
use Rattle.ctmc_semantics.specs.RoundedTables.{one_word, set_words}
use Rattle.ctmc_semantics.specs.Sets.{holds_at}
use Rattle.ctmc_semantics.specs.Uniformised.{uniform_rate, uniformised}
use Rattle.ctmc_semantics.specs.Horizon.{horizon}
use Rattle.step_core.specs.FrameLists.{RowLists, SetLists, FrameLists}
use Rattle.step_core.specs.FrameRows.{StandFor}
use Rattle.step_core.specs.PlanLists.{PlanLists}
use Rattle.step_core.specs.PlanLoad.{AreWeightsOf}
use Rattle.step_core.specs.Reach.{TellsReach}
use Rattle.step_core.specs.SoundFrame.{IsSoundRow, AreSoundSets, IsSoundFrame}
use Rattle.step_core.specs.SoundPlan.{AreSoundWeights, IsSoundMix, IsSoundPlan, starts_at_one}
use Rattle.step_core.specs.WeightLists.{WeightLists}
use Rattle.step_core.specs.declared.mix.Mix.{Mix}
use Rattle.step_core.specs.declared.mix.Mix.TheVariants.{Poisson, Last}
use Rattle.poisson_tail.specs.declared.layers.TheConstants.{MOST_LAYERS}
use Rattle.uniformise.specs.TimePlan.{IsTimePlan}
use Rattle.uniformise.specs.UnboundedPlan.{IsUnboundedPlan}

-- ---- the frame of n states
pub frame_sound : (n : ℕ) (rows : List RowLists) (sets : SetLists) → 1 ≤ n → n ≤ 65536 → length rows ≡ n → All (IsSoundRow n) rows
    → AreSoundSets n sets → IsSoundFrame (record { rows = rows; sets = sets })
frame_sound n rows sets some few states sound sound_sets = record {
  some = omega (arith, some, states);
  few = omega (arith, few, states);
  rows = subst (λ k. All (IsSoundRow k) rows) (sym states) sound;
  sets = subst (λ k. AreSoundSets k sets) (sym states) sound_sets;
}

-- ---- the plan over a frame, whose words start from a set of its states
abbrev start_list : List Bool → List ℕ
start_list from = map (λ holds. cond holds one_word 0) from

module _ (frame : FrameLists) (frame_is_sound : IsSoundFrame frame) (reach : List Bool) (reaches : TellsReach frame reach) where
  abbrev plan_from : List Bool → ℕ → Mix → PlanLists
  plan_from from last mix = record { frame = frame; layers = last; start_upper = start_list from; reach = reach; mix = mix }

  plan_sound : (from : List Bool) (last : ℕ) (mix : Mix) → 1 ≤ last → last ≤ MOST_LAYERS → length from ≡ length frame.rows
      → holds_at from ≡ starts_at_one mix (holds_at frame.sets.goal_may) (holds_at reach) → IsSoundMix last mix
      → IsSoundPlan (plan_from from last mix)
  plan_sound from last mix some few states starts sound_mix = record {
    frame = frame_is_sound;
    some_layer = some;
    few_layers = few;
    start_states = length-map from (λ holds. cond holds one_word 0) ∙ states;
    start = λ s l.
        subst (λ set. slice_index (start_list from) s ≡ set_words set s) starts
        (get_or-map (λ holds. cond holds one_word 0) from s false 0 (omega (arith, l, states)));
    reach = reaches;
    mix = sound_mix;
  }

  module _ (chain : Chain) (sets : SetLists) (stand : StandFor frame.rows (uniformised chain)) (sets_are : frame.sets ≡ sets) where
    pub time_plan : (load : Fraction) (bits last : ℕ) (weights : WeightLists) → last ≡ horizon load bits → 8 ≤ bits → bits ≤ 48
        → last ≤ MOST_LAYERS → 0 < load.den → AreWeightsOf load last weights → AreSoundWeights last weights
        → IsTimePlan chain load bits sets (plan_from frame.sets.goal_may last (Poisson weights bits))
    time_plan load bits last weights is_last some_bits few_bits few_layers positive of_load sound_weights = record {
      sound =
          plan_sound frame.sets.goal_may last (Poisson weights bits) (omega (arith, is_last, some_bits)) few_layers
          frame_is_sound.sets.goal_may_states refl
          (record { weights_sound = sound_weights; some_bits = some_bits; few_bits = few_bits });
      rows = stand;
      sets_are = sets_are;
      weights = weights;
      is_mix = refl;
      fits = record { positive = positive; weights_of = of_load; last_layer = is_last };
    }

    pub unbounded_plan : All (λ row. row.den ≡ uniform_rate chain) frame.rows → (jumps : ℕ) → 1 ≤ jumps → jumps ≤ MOST_LAYERS
        → IsUnboundedPlan chain jumps sets (plan_from reach jumps Last)
    unbounded_plan divisors jumps some few = record {
      sound = plan_sound reach jumps Last some few reaches.states refl tt;
      rows = stand;
      divisors = divisors;
      sets_are = sets_are;
      is_mix = refl;
      last = refl;
    }
