-- Small plans are sound.
use Rattle.std.proofs.Common.{◌≡◌, ℕ, zero, suc, ◌^◌, ◌≤◌, ◌<◌, Bool, true, false, List, [], ◌∷◌, refl, sym, inl, inr, subst, lit<, lit≤}
use Rattle.std.proofs.Common.{arith}
use Rattle.std.specs.Prelude.{slice_index, IsTrue, ◌↔◌}
use Rattle.std.specs.List.{All}
use Rattle.std.proofs.lemmas.Bool.{false≢true, cases_eq, ne_eqb}
use Rattle.std.proofs.lemmas.List.Elements.{All-nil, All-cons}
use Rattle.ctmc_semantics.specs.RoundedTables.{one_word}
use Rattle.ctmc_semantics.specs.Sets.{holds_at}
use Rattle.round_out.specs.declared.entry.Entry.{Entry}
use Rattle.step_core.specs.declared.mix.Mix.{Mix}
use Rattle.step_core.specs.declared.mix.Mix.TheVariants.{Poisson, Last}
use Rattle.step_core.specs.FrameLists.{FrameLists, RowLists, SetLists}
use Rattle.step_core.specs.FrameRows.{number_to, frame_rows}
use Rattle.step_core.specs.PlanLists.{PlanLists}
use Rattle.step_core.specs.Reach.{CanReach, TellsReach}
use Rattle.step_core.specs.SoundFrame.{Ascend, IsSoundRow, IsSoundFrame}
use Rattle.step_core.specs.SoundPlan.{IsSoundPlan, IsSoundMix, IsSoundPoisson, AreSoundWeights}
use Rattle.step_core.specs.Walk.{arrives, goes}
use Rattle.step_core.specs.WeightLists.{WeightLists}
use Rattle.step_core.proofs.Layers.{set_layer}

-- ---- a state that jumps to the goal or to a trap with the probability 1/2 each
abbrev pub jump : ℕ → ℕ → Entry
jump to num = record { to = to; num = num }

abbrev pub halves : List Entry
halves = jump 1 1 ∷ jump 2 1 ∷ []

abbrev pub row_of : List Entry → RowLists
row_of entries = record { den = 2; entries = entries }

abbrev pub three_states : FrameLists
three_states = record {
  rows = row_of halves ∷ row_of (jump 1 2 ∷ []) ∷ row_of (jump 2 2 ∷ []) ∷ [];
  sets = record {
    goal_must = false ∷ true ∷ false ∷ [];
    goal_may = false ∷ true ∷ false ∷ [];
    live_must = true ∷ true ∷ true ∷ [];
    live_may = true ∷ true ∷ true ∷ [];
  };
}

ascend-one : (a : ℕ) → Ascend (a ∷ [])
ascend-one a i l = absurd (omega arith)

ascend-two : Ascend (1 ∷ 2 ∷ [])
ascend-two zero l = lit< tt
ascend-two (suc i) l = absurd (omega arith)

-- a row of one entry
sure_row : (to : ℕ) → to < 3 → IsSoundRow 3 (row_of (jump to 2 ∷ []))
sure_row to l = record {
  targets = All-cons (λ e. e.to < 3) (jump to 2) [] l (All-nil (λ e. e.to < 3));
  ascend = ascend-one to;
  numbers = All-cons (λ e. 0 < e.num) (jump to 2) [] (lit< tt) (All-nil (λ e. 0 < e.num));
  whole = refl;
  positive = lit< tt;
  fits = lit< tt;
}

both_halves : (P : Entry → Type 0) → P (jump 1 1) → P (jump 2 1) → All P halves
both_halves P p q = All-cons P (jump 1 1) (jump 2 1 ∷ []) p (All-cons P (jump 2 1) [] q (All-nil P))

first_row : IsSoundRow 3 (row_of halves)
first_row = record {
  targets = both_halves (λ e. e.to < 3) (lit< tt) (lit< tt);
  ascend = ascend-two;
  numbers = both_halves (λ e. 0 < e.num) (lit< tt) (lit< tt);
  whole = refl;
  positive = lit< tt;
  fits = lit< tt;
}

states_sound : IsSoundFrame three_states
states_sound = record {
  some = lit≤ tt;
  few = lit≤ tt;
  rows =
      All-cons (IsSoundRow 3) (row_of halves) (row_of (jump 1 2 ∷ []) ∷ row_of (jump 2 2 ∷ []) ∷ []) first_row
      (All-cons (IsSoundRow 3) (row_of (jump 1 2 ∷ [])) (row_of (jump 2 2 ∷ []) ∷ []) (sure_row 1 (lit< tt))
      (All-cons (IsSoundRow 3) (row_of (jump 2 2 ∷ [])) [] (sure_row 2 (lit< tt)) (All-nil (IsSoundRow 3))));
  sets = record {
    goal_must_states = refl;
    goal_may_states = refl;
    live_must_states = refl;
    live_may_states = refl;
    goal = λ s h. h;
    live = λ s h. h;
  };
}

-- ---- the third state is a trap
third_stays : (t : ℕ) → 0 < number_to (jump 2 2 ∷ []) t → t ≡ 2
third_stays t h =
    elim (cases_eq 2 t) [
      | inl is ↦ sym is
      | inr other ↦ absurd (let none = rw (ne_eqb 2 t other) at h in omega (arith, none))
    ]

third_unable : (s : ℕ) → s ≡ 2 → CanReach three_states s → ⊥
third_unable s is (arrives here) = absurd (false≢true (subst (λ t. IsTrue (holds_at three_states.sets.goal_may t)) is here))
third_unable s is (goes {t} is_live inside positive walk) =
    third_unable t (third_stays t (subst (λ u. 0 < (frame_rows three_states.rows).num u t) is positive)) walk

abbrev pub reach : List Bool
reach = true ∷ true ∷ false ∷ []

reach_exact : (s : ℕ) → s < 3 → IsTrue (holds_at reach s) ↔ CanReach three_states s
reach_exact zero l = (λ h. goes {t = 1} refl (lit< tt) (lit< tt) (arrives refl), λ w. refl)
reach_exact (suc zero) l = (λ h. arrives refl, λ w. refl)
reach_exact (suc (suc zero)) l = (λ h. absurd (false≢true h), λ w. absurd (third_unable 2 refl w))
reach_exact (suc (suc (suc s))) l = absurd (omega arith)

reach_told : TellsReach three_states reach
reach_told = record { states = refl; exact = reach_exact }

-- ---- the weights of three numbers of jumps
abbrev pub low_list : List ℕ
low_list = 1_234_567_890_123_456_789 ∷ 2 ^ 62 ∷ 987_654_321_098_765 ∷ []

abbrev pub high_list : List ℕ
high_list = 1_234_567_890_123_456_790 ∷ 2 ^ 62 ∷ 987_654_321_098_766 ∷ []

abbrev pub three_weights : WeightLists
three_weights = record { low = low_list; high = high_list }

ordered : (k : ℕ) → k ≤ 2 → slice_index low_list k ≤ slice_index high_list k
ordered zero l = lit≤ tt
ordered (suc zero) l = lit≤ tt
ordered (suc (suc zero)) l = lit≤ tt
ordered (suc (suc (suc k))) l = absurd (omega arith)

at_most_one : (k : ℕ) → k ≤ 2 → slice_index high_list k ≤ one_word
at_most_one zero l = lit≤ tt
at_most_one (suc zero) l = lit≤ tt
at_most_one (suc (suc zero)) l = lit≤ tt
at_most_one (suc (suc (suc k))) l = absurd (omega arith)

weights_sound : AreSoundWeights 2 three_weights
weights_sound = record {
  low_layers = refl;
  high_layers = refl;
  ordered = ordered;
  at_most_one = at_most_one;
  mode = 1;
  mode_layer = lit≤ tt;
  mode_low = refl;
  mode_high = refl;
}

pub small_weights : (low high : List ℕ) → low ≡ low_list → high ≡ high_list → IsSoundPoisson 2 record { low = low; high = high } 8
small_weights low high e f = rw (e, f) (record { weights_sound = weights_sound; some_bits = lit≤ tt; few_bits = lit≤ tt })

-- ---- the plans over the three states
-- the first state's upper word within no jump
abbrev pub first_word : Mix → ℕ
first_word (Poisson weights bits) = 0
first_word Last = 2 ^ 62

abbrev pub small_plan : Mix → PlanLists
small_plan mix = record {
  frame = three_states;
  layers = 2;
  start_upper = first_word mix ∷ 2 ^ 62 ∷ 0 ∷ [];
  reach = reach;
  mix = mix;
}

small_sound : (mix : Mix) → IsSoundMix 2 mix → IsSoundPlan (small_plan mix)
small_sound (Poisson weights bits) sound = record {
  frame = states_sound;
  some_layer = lit≤ tt;
  few_layers = lit≤ tt;
  start_states = refl;
  start = λ s l. (set_layer 3 three_states.sets.goal_may refl).words s l;
  reach = reach_told;
  mix = sound;
}
small_sound Last sound = record {
  frame = states_sound;
  some_layer = lit≤ tt;
  few_layers = lit≤ tt;
  start_states = refl;
  start = λ s l. (set_layer 3 reach refl).words s l;
  reach = reach_told;
  mix = tt;
}

-- a plan that is put together of the same parts is sound
pub three_sound : (mix : Mix) (rows : List RowLists) (a b d : RowLists) (sets : SetLists) (start : List ℕ) (known : List Bool) (first : ℕ)
    → IsSoundMix 2 mix → rows ≡ a ∷ b ∷ d ∷ [] → a ≡ row_of halves → b ≡ row_of (jump 1 2 ∷ []) → d ≡ row_of (jump 2 2 ∷ [])
    → sets ≡ three_states.sets → start ≡ first ∷ 2 ^ 62 ∷ 0 ∷ [] → first ≡ first_word mix → known ≡ reach
    → IsSoundPlan record { frame = record { rows = rows; sets = sets }; layers = 2; start_upper = start; reach = known; mix = mix }
three_sound mix rows a b d sets start known first sound er ea eb ed es et ef ek =
    rw (er, ea, eb, ed, es, et, ef, ek) (small_sound mix sound)
