-- A plan of states that stay at the goal is sound.
use Rattle.std.proofs.Common.{◌≡◌, ℕ, zero, suc, ◌+◌, ◌<◌, ◌≤◌, Bool, true, List, [], ◌∷◌, length, replicate, refl, sym, ◌∙◌, subst, lit<, arith}
use Rattle.std.specs.List.{All, range_with_len}
use Rattle.std.proofs.lemmas.List.{get_or-replicate, length-replicate}
use Rattle.std.proofs.lemmas.List.Elements.{All-nil, All-cons, All-map}
use Rattle.std.proofs.lemmas.List.FromFn.{length-map-range_with_len}
use Rattle.ctmc_semantics.specs.RoundedTables.{one_word}
use Rattle.ctmc_semantics.specs.Sets.{holds_at}
use Rattle.step_core.specs.declared.mix.Mix.TheVariants.{Last}
use Rattle.step_core.specs.FrameLists.{RowLists, SetLists}
use Rattle.step_core.specs.PlanLists.{PlanLists}
use Rattle.step_core.specs.SoundFrame.{IsSoundRow}
use Rattle.step_core.specs.SoundPlan.{IsSoundPlan}
use Rattle.step_core.specs.Walk.{arrives}
use Rattle.step_core.proofs.SmallModels.{jump, row_of}
use Rattle.bound_grid.specs.RestingStates.{resting_rows}

-- a row that leads to its own state
stays : (n s : ℕ) → s < n → IsSoundRow n (row_of 1 (jump s 1 ∷ []))
stays n s l = record {
  targets = All-cons (λ e. e.to < n) (jump s 1) [] l (All-nil (λ e. e.to < n));
  ascend = λ i m. absurd (omega arith);
  numbers = All-cons (λ e. 0 < e.num) (jump s 1) [] (lit< tt) (All-nil (λ e. 0 < e.num));
  whole = refl;
  positive = lit< tt;
  fits = lit< tt;
}

-- each number of a range from a on is below its end
below_end : (a m n : ℕ) → a + m ≤ n → All (λ s. s < n) (range_with_len a m)
below_end a zero n l = All-nil (λ s. s < n)
below_end a (suc m) n l = All-cons (λ s. s < n) a (range_with_len (a + 1) m) (omega arith) (below_end (a + 1) m n (omega arith))

all_stay : (n : ℕ) (xs : List ℕ) → All (λ s. s < n) xs → All (λ s. IsSoundRow n (row_of 1 (jump s 1 ∷ []))) xs
all_stay n xs h i d l = stays n _ (h i d l)

module _ (n layers : ℕ) (some : 1 ≤ n) (few : n ≤ 65536) (some_layer : 1 ≤ layers) (few_layers : layers ≤ 16384) where
  abbrev all : List Bool
  all = replicate n true

  abbrev sets : SetLists
  sets = record { goal_must = all; goal_may = all; live_must = all; live_may = all }

  abbrev plan : PlanLists
  plan = record {
    frame = record { rows = resting_rows n; sets = sets };
    layers = layers;
    start_upper = replicate n one_word;
    reach = all;
    mix = Last;
  }

  count : length (resting_rows n) ≡ n
  count = length-map-range_with_len (λ s. row_of 1 (jump s 1 ∷ [])) 0 n

  all_count : length all ≡ n
  all_count = length-replicate {A = Bool} n true

  holds : (s : ℕ) → s < length (resting_rows n) → holds_at all s ≡ true
  holds s l = get_or-replicate n s true _ (omega (arith, l, count))

  resting_sound : IsSoundPlan plan
  resting_sound = record {
    frame = record {
      some = omega (arith, count, some);
      few = omega (arith, count, few);
      rows =
          subst (λ (m : ℕ). All (IsSoundRow m) (resting_rows n)) (sym count)
          (All-map (IsSoundRow n) (λ s. row_of 1 (jump s 1 ∷ [])) (range_with_len 0 n)
          (all_stay n (range_with_len 0 n) (below_end 0 n n (omega arith))));
      sets = record {
        goal_must_states = all_count ∙ sym count;
        goal_may_states = all_count ∙ sym count;
        live_must_states = all_count ∙ sym count;
        live_may_states = all_count ∙ sym count;
        goal = λ s h. h;
        live = λ s h. h;
      };
    };
    some_layer = some_layer;
    few_layers = few_layers;
    start_states = length-replicate {A = ℕ} n one_word ∙ sym count;
    start = λ s l. get_or-replicate n s one_word _ (omega (arith, l, count)) ∙ rw (holds s l) refl;
    reach = record {
      states = all_count ∙ sym count;
      exact = λ s l. (λ h. arrives h, λ w. rw (holds s l) refl);
    };
    mix = tt;
  }

  -- a plan that is put together of the same parts is sound
  pub resting_is_sound : (rows : List RowLists) (sets' : SetLists) (start : List ℕ) (reach : List Bool) → rows ≡ resting_rows n
      → sets' ≡ sets → start ≡ replicate n one_word → reach ≡ all
      → IsSoundPlan record { frame = record { rows = rows; sets = sets' }; layers = layers; start_upper = start; reach = reach; mix = Last }
  resting_is_sound rows sets' start reach er es et eu = rw (er, es, et, eu) resting_sound
