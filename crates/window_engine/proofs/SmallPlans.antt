-- The plans over the five states are sound.
use Rattle.std.proofs.Common.{◌≡◌, ℕ, zero, suc, ◌+◌, ◌^◌, ◌≤◌, ◌<◌, Bool, true}
use Rattle.std.proofs.Common.{false, List, [], ◌∷◌, length, refl, subst, lit<, lit≤, arith}
use Rattle.std.specs.Prelude.{slice_index, IsTrue, ◌↔◌}
use Rattle.std.specs.List.{All}
use Rattle.std.proofs.lemmas.Bool.{false≢true}
use Rattle.std.proofs.lemmas.List.Elements.{All-nil, All-cons}
use Rattle.ctmc_semantics.specs.RoundedTables.{one_word}
use Rattle.ctmc_semantics.specs.Sets.{IsSubset, holds_at}
use Rattle.round_out.specs.declared.entry.Entry.{Entry}
use Rattle.step_core.specs.declared.mix.Mix.{Mix}
use Rattle.step_core.specs.declared.mix.Mix.TheVariants.{Poisson, Last}
use Rattle.step_core.specs.FrameLists.{FrameLists, RowLists, SetLists}
use Rattle.step_core.specs.Reach.{CanReach}
use Rattle.step_core.specs.SoundFrame.{Ascend, IsSoundRow, IsSoundFrame}
use Rattle.step_core.specs.SoundPlan.{IsSoundPlan, IsSoundMix, IsSoundPoisson, AreSoundWeights}
use Rattle.step_core.specs.Walk.{arrives, goes}
use Rattle.step_core.proofs.Layers.{set_layer}
use Rattle.window_engine.specs.FiveStates.{jump, row_of, five_rows, known_sets}

-- ---- the rows
ascend-one : (a : ℕ) → Ascend (a ∷ [])
ascend-one a i l = absurd (omega arith)

ascend-cons : (a b : ℕ) (xs : List ℕ) → a < b → Ascend (b ∷ xs) → Ascend (a ∷ b ∷ xs)
ascend-cons a b xs h r zero l = h
ascend-cons a b xs h r (suc i) l =
    let e : suc i + 1 ≡ suc (i + 1) = omega arith in
    let m : i + 1 < length (b ∷ xs) = omega arith in
    rw e (r i m)

one_entry : (P : Entry → Type 0) (e : Entry) → P e → All P (e ∷ [])
one_entry P e p = All-cons P e [] p (All-nil P)

two_entries : (P : Entry → Type 0) (e f : Entry) → P e → P f → All P (e ∷ f ∷ [])
two_entries P e f p q = All-cons P e (f ∷ []) p (one_entry P f q)

-- a row of one entry
sure_row : (den to : ℕ) → to < 5 → 0 < den → den < 2 ^ 63 → IsSoundRow 5 (row_of den (jump to den ∷ []))
sure_row den to l some fits = record {
  targets = one_entry (λ e. e.to < 5) (jump to den) l;
  ascend = ascend-one to;
  numbers = one_entry (λ e. 0 < e.num) (jump to den) some;
  whole = omega arith;
  positive = some;
  fits = fits;
}

-- a row of two entries
two_row : (den a m b n : ℕ) → a < b → b < 5 → 0 < m → 0 < n → m + n ≡ den → den < 2 ^ 63
    → IsSoundRow 5 (row_of den (jump a m ∷ jump b n ∷ []))
two_row den a m b n before inside some more whole fits = record {
  targets = two_entries (λ e. e.to < 5) (jump a m) (jump b n) (omega arith) inside;
  ascend = ascend-cons a b [] before (ascend-one b);
  numbers = two_entries (λ e. 0 < e.num) (jump a m) (jump b n) some more;
  whole = omega arith;
  positive = omega arith;
  fits = fits;
}

first_row : IsSoundRow 5 (row_of 4 (jump 0 2 ∷ jump 1 1 ∷ jump 2 1 ∷ []))
first_row = record {
  targets =
      All-cons (λ e. e.to < 5) (jump 0 2) (jump 1 1 ∷ jump 2 1 ∷ []) (lit< tt)
      (two_entries (λ e. e.to < 5) (jump 1 1) (jump 2 1) (lit< tt) (lit< tt));
  ascend = ascend-cons 0 1 (2 ∷ []) (lit< tt) (ascend-cons 1 2 [] (lit< tt) (ascend-one 2));
  numbers =
      All-cons (λ e. 0 < e.num) (jump 0 2) (jump 1 1 ∷ jump 2 1 ∷ []) (lit< tt)
      (two_entries (λ e. 0 < e.num) (jump 1 1) (jump 2 1) (lit< tt) (lit< tt));
  whole = refl;
  positive = lit< tt;
  fits = lit< tt;
}

abbrev first : RowLists
first = row_of 4 (jump 0 2 ∷ jump 1 1 ∷ jump 2 1 ∷ [])

abbrev second : RowLists
second = row_of 1 (jump 1 1 ∷ [])

abbrev third : RowLists
third = row_of 2 (jump 1 1 ∷ jump 3 1 ∷ [])

abbrev fourth : RowLists
fourth = row_of 4 (jump 0 3 ∷ jump 4 1 ∷ [])

abbrev fifth : RowLists
fifth = row_of 7 (jump 4 7 ∷ [])

rows_sound : All (IsSoundRow 5) five_rows
rows_sound =
    All-cons (IsSoundRow 5) first (second ∷ third ∷ fourth ∷ fifth ∷ []) first_row
    (All-cons (IsSoundRow 5) second (third ∷ fourth ∷ fifth ∷ []) (sure_row 1 1 (lit< tt) (lit< tt) (lit< tt))
    (All-cons (IsSoundRow 5) third (fourth ∷ fifth ∷ []) (two_row 2 1 1 3 1 (lit< tt) (lit< tt) (lit< tt) (lit< tt) refl (lit< tt))
    (All-cons (IsSoundRow 5) fourth (fifth ∷ []) (two_row 4 0 3 4 1 (lit< tt) (lit< tt) (lit< tt) (lit< tt) refl (lit< tt))
    (All-cons (IsSoundRow 5) fifth [] (sure_row 7 4 (lit< tt) (lit< tt) (lit< tt)) (All-nil (IsSoundRow 5))))))

-- ---- the sets
goal_subset : IsSubset (holds_at known_sets.goal_must) (holds_at known_sets.goal_may)
goal_subset zero h = h
goal_subset (suc zero) h = h
goal_subset (suc (suc zero)) h = refl
goal_subset (suc (suc (suc zero))) h = h
goal_subset (suc (suc (suc (suc zero)))) h = h
goal_subset (suc (suc (suc (suc (suc s))))) h = h

live_subset : IsSubset (holds_at known_sets.live_must) (holds_at known_sets.live_may)
live_subset zero h = h
live_subset (suc zero) h = refl
live_subset (suc (suc zero)) h = h
live_subset (suc (suc (suc zero))) h = refl
live_subset (suc (suc (suc (suc zero)))) h = h
live_subset (suc (suc (suc (suc (suc s))))) h = h

abbrev pub five_states : FrameLists
five_states = record { rows = five_rows; sets = known_sets }

states_sound : IsSoundFrame five_states
states_sound = record {
  some = lit≤ tt;
  few = lit≤ tt;
  rows = rows_sound;
  sets = record {
    goal_must_states = refl;
    goal_may_states = refl;
    live_must_states = refl;
    live_may_states = refl;
    goal = goal_subset;
    live = live_subset;
  };
}

-- ---- all but the trap can reach the goal
abbrev pub reach : List Bool
reach = true ∷ true ∷ true ∷ true ∷ false ∷ []

trap_unable : (s : ℕ) → s ≡ 4 → CanReach five_states s → ⊥
trap_unable s is (arrives here) = false≢true (subst (λ t. IsTrue (holds_at known_sets.goal_may t)) is here)
trap_unable s is (goes is_live inside positive walk) = false≢true (subst (λ t. IsTrue (holds_at known_sets.live_may t)) is is_live)

first_able : CanReach five_states 0
first_able = goes {t = 1} refl (lit< tt) (lit< tt) (arrives refl)

reach_exact : (s : ℕ) → s < 5 → IsTrue (holds_at reach s) ↔ CanReach five_states s
reach_exact zero l = (λ h. first_able, λ w. refl)
reach_exact (suc zero) l = (λ h. arrives refl, λ w. refl)
reach_exact (suc (suc zero)) l = (λ h. arrives refl, λ w. refl)
reach_exact (suc (suc (suc zero))) l = (λ h. goes {t = 0} refl (lit< tt) (lit< tt) first_able, λ w. refl)
reach_exact (suc (suc (suc (suc zero)))) l = (λ h. absurd (false≢true h), λ w. absurd (trap_unable 4 refl w))
reach_exact (suc (suc (suc (suc (suc s))))) l = absurd (omega arith)

-- ---- the weights of four numbers of jumps
abbrev pub low_list : List ℕ
low_list = 1_234_567_890_123_456_789 ∷ 2 ^ 62 ∷ 987_654_321_098_765 ∷ 7 ∷ []

abbrev pub high_list : List ℕ
high_list = 1_234_567_890_123_456_790 ∷ 2 ^ 62 ∷ 987_654_321_098_766 ∷ 8 ∷ []

ordered : (k : ℕ) → k ≤ 3 → slice_index low_list k ≤ slice_index high_list k
ordered zero l = lit≤ tt
ordered (suc zero) l = lit≤ tt
ordered (suc (suc zero)) l = lit≤ tt
ordered (suc (suc (suc zero))) l = lit≤ tt
ordered (suc (suc (suc (suc k)))) l = absurd (omega arith)

at_most_one : (k : ℕ) → k ≤ 3 → slice_index high_list k ≤ one_word
at_most_one zero l = lit≤ tt
at_most_one (suc zero) l = lit≤ tt
at_most_one (suc (suc zero)) l = lit≤ tt
at_most_one (suc (suc (suc zero))) l = lit≤ tt
at_most_one (suc (suc (suc (suc k)))) l = absurd (omega arith)

weights_sound : AreSoundWeights 3 record { low = low_list; high = high_list }
weights_sound = record {
  low_layers = refl;
  high_layers = refl;
  ordered = ordered;
  at_most_one = at_most_one;
  mode = 1;
  mode_layer = lit≤ tt;
  mode_low = refl;
  mode_high = refl;
}

pub small_weights : (low high : List ℕ) → low ≡ low_list → high ≡ high_list → IsSoundPoisson 3 record { low = low; high = high } 8
small_weights low high e f = rw (e, f) (record { weights_sound = weights_sound; some_bits = lit≤ tt; few_bits = lit≤ tt })

-- ---- the plans over the five states
-- the upper word within no jump of a state that only can reach the goal
abbrev pub first_word : Mix → ℕ
first_word (Poisson weights bits) = 0
first_word Last = 2 ^ 62

module _ (layers : ℕ) (some : 1 ≤ layers) (few : layers ≤ 16384) where
  small_sound : (mix : Mix) → IsSoundMix layers mix
      → IsSoundPlan record {
        frame = five_states;
        layers = layers;
        start_upper = first_word mix ∷ 2 ^ 62 ∷ 2 ^ 62 ∷ first_word mix ∷ 0 ∷ [];
        reach = reach;
        mix = mix;
      }
  small_sound (Poisson weights bits) sound = record {
    frame = states_sound;
    some_layer = some;
    few_layers = few;
    start_states = refl;
    start = λ s l. (set_layer 5 known_sets.goal_may refl).words s l;
    reach = record { states = refl; exact = reach_exact };
    mix = sound;
  }
  small_sound Last sound = record {
    frame = states_sound;
    some_layer = some;
    few_layers = few;
    start_states = refl;
    start = λ s l. (set_layer 5 reach refl).words s l;
    reach = record { states = refl; exact = reach_exact };
    mix = tt;
  }

  -- a plan that is put together of the same parts is sound
  pub five_sound : (mix : Mix) (rows : List RowLists) (sets : SetLists) (start : List ℕ) (known : List Bool) (first : ℕ)
      → IsSoundMix layers mix → rows ≡ five_rows → sets ≡ known_sets → first ≡ first_word mix
      → start ≡ first ∷ 2 ^ 62 ∷ 2 ^ 62 ∷ first ∷ 0 ∷ [] → known ≡ reach
      → IsSoundPlan record { frame = record { rows = rows; sets = sets }; layers = layers; start_upper = start; reach = known; mix = mix }
  five_sound mix rows sets start known first sound er es ef et ek = rw (er, es, et, ef, ek) (small_sound mix sound)
