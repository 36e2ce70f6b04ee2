-- Two small plans are sound.
use Rattle.std.proofs.Common.{◌≡◌, ℕ, zero, suc, ◌+◌, ◌^◌, ◌≤◌, ◌<◌, Bool, true, false, List, [], ◌∷◌, length, refl, sym, inl, inr, subst, lit<, lit≤, arith}
use Rattle.std.specs.Prelude.{slice_index, IsTrue, ◌↔◌}
use Rattle.std.specs.List.{All}
use Rattle.std.proofs.lemmas.Bool.{false≢true, cases_eq, ne_eqb}
use Rattle.std.proofs.lemmas.List.Elements.{All-nil, All-cons}
use Rattle.ctmc_semantics.specs.RoundedTables.{one_word}
use Rattle.ctmc_semantics.specs.Sets.{holds_at}
use Rattle.round_out.specs.declared.entry.Entry.{Entry}
use Rattle.step_core.specs.declared.mix.Mix.TheVariants.{Poisson, Last}
use Rattle.step_core.specs.FrameLists.{RowLists, SetLists}
use Rattle.step_core.specs.FrameRows.{number_to, frame_rows}
use Rattle.step_core.specs.PlanLists.{PlanLists}
use Rattle.step_core.specs.Reach.{CanReach}
use Rattle.step_core.specs.SoundFrame.{Ascend, IsSoundRow, AreSoundSets}
use Rattle.step_core.specs.SoundPlan.{IsSoundPlan}
use Rattle.step_core.specs.Walk.{arrives, goes}
use Rattle.step_core.proofs.Layers.{set_layer}

abbrev pub jump : ℕ → ℕ → Entry
jump to num = record { to = to; num = num }

abbrev pub row_of : ℕ → List Entry → RowLists
row_of den entries = record { den = den; entries = entries }

-- lists that ascend, from the back
ascend-one : (a : ℕ) → Ascend (a ∷ [])
ascend-one a i l = absurd (omega arith)

ascend-cons : (a b : ℕ) (xs : List ℕ) → a < b → Ascend (b ∷ xs) → Ascend (a ∷ b ∷ xs)
ascend-cons a b xs h r zero l = h
ascend-cons a b xs h r (suc i) l =
    let e : suc i + 1 ≡ suc (i + 1) = omega arith in
    let m : i + 1 < length (b ∷ xs) = omega arith in
    rw e (r i m)

-- a row of one entry
sure_row : (n den to : ℕ) → to < n → 0 < den → den < 2 ^ 63 → IsSoundRow n (row_of den (jump to den ∷ []))
sure_row n den to l some fits = record {
  targets = All-cons (λ e. e.to < n) (jump to den) [] l (All-nil (λ e. e.to < n));
  ascend = ascend-one to;
  numbers = All-cons (λ e. 0 < e.num) (jump to den) [] some (All-nil (λ e. 0 < e.num));
  whole = omega arith;
  positive = some;
  fits = fits;
}

known_sets : (n : ℕ) (goal live : List Bool) → length goal ≡ n → length live ≡ n
    → AreSoundSets n record { goal_must = goal; goal_may = goal; live_must = live; live_may = live }
known_sets n goal live g l = record {
  goal_must_states = g;
  goal_may_states = g;
  live_must_states = l;
  live_may_states = l;
  goal = λ s h. h;
  live = λ s h. h;
}

-- ---- the plan of two states
abbrev pub five_ones : List ℕ
five_ones = 2 ^ 62 ∷ 2 ^ 62 ∷ 2 ^ 62 ∷ 2 ^ 62 ∷ 2 ^ 62 ∷ []

abbrev pub first_two : PlanLists
first_two = record {
  frame = record {
    rows = row_of 1 (jump 1 1 ∷ []) ∷ row_of 1 (jump 1 1 ∷ []) ∷ [];
    sets =
        record { goal_must = false ∷ true ∷ []; goal_may = false ∷ true ∷ []; live_must = true ∷ true ∷ []; live_may = true ∷ true ∷ [] };
  };
  layers = 4;
  start_upper = 0 ∷ 2 ^ 62 ∷ [];
  reach = true ∷ true ∷ [];
  mix =
      Poisson
      record {
        low = five_ones;
        high = five_ones;
      }
      8;
}

two_reach : (s : ℕ) → s < 2 → IsTrue (holds_at first_two.reach s) ↔ CanReach first_two.frame s
two_reach zero l = (λ h. goes {t = 1} refl (lit< tt) (lit< tt) (arrives refl), λ w. refl)
two_reach (suc zero) l = (λ h. arrives refl, λ w. refl)
two_reach (suc (suc s)) l = absurd (omega arith)

ones : (k : ℕ) → k ≤ 4 → slice_index five_ones k ≡ one_word
ones zero l = refl
ones (suc zero) l = refl
ones (suc (suc zero)) l = refl
ones (suc (suc (suc zero))) l = refl
ones (suc (suc (suc (suc zero)))) l = refl
ones (suc (suc (suc (suc (suc k))))) l = absurd (omega arith)

pub first_two_sound : IsSoundPlan first_two
first_two_sound = record {
  frame = record {
    some = lit≤ tt;
    few = lit≤ tt;
    rows =
        All-cons (IsSoundRow 2) (row_of 1 (jump 1 1 ∷ [])) (row_of 1 (jump 1 1 ∷ []) ∷ []) (sure_row 2 1 1 (lit< tt) (lit< tt) (lit< tt))
        (All-cons (IsSoundRow 2) (row_of 1 (jump 1 1 ∷ [])) [] (sure_row 2 1 1 (lit< tt) (lit< tt) (lit< tt)) (All-nil (IsSoundRow 2)));
    sets = known_sets 2 (false ∷ true ∷ []) (true ∷ true ∷ []) refl refl;
  };
  some_layer = lit≤ tt;
  few_layers = lit≤ tt;
  start_states = refl;
  start = λ s l. (set_layer 2 (false ∷ true ∷ []) refl).words s l;
  reach = record { states = refl; exact = two_reach };
  mix = record {
    weights_sound = record {
      low_layers = refl;
      high_layers = refl;
      ordered = λ k l. rw (ones k l) (omega arith);
      at_most_one = λ k l. rw (ones k l) (omega arith);
      mode = 0;
      mode_layer = lit≤ tt;
      mode_low = refl;
      mode_high = refl;
    };
    some_bits = lit≤ tt;
    few_bits = lit≤ tt;
  };
}

-- ---- the plan of four states
abbrev pub mixed_entries : List Entry
mixed_entries = jump 0 2 ∷ jump 1 1 ∷ jump 2 1 ∷ []

abbrev pub first_four : PlanLists
first_four = record {
  frame = record {
    rows = row_of 4 mixed_entries ∷ row_of 4 (jump 1 4 ∷ []) ∷ row_of 4 (jump 2 4 ∷ []) ∷ row_of 4 (jump 0 4 ∷ []) ∷ [];
    sets = record {
      goal_must = false ∷ true ∷ false ∷ false ∷ [];
      goal_may = false ∷ true ∷ false ∷ false ∷ [];
      live_must = true ∷ true ∷ true ∷ true ∷ [];
      live_may = true ∷ true ∷ true ∷ true ∷ [];
    };
  };
  layers = 4;
  start_upper = 2 ^ 62 ∷ 2 ^ 62 ∷ 0 ∷ 2 ^ 62 ∷ [];
  reach = true ∷ true ∷ false ∷ true ∷ [];
  mix = Last;
}

-- the third state jumps to itself alone
third_stays : (t : ℕ) → 0 < number_to (jump 2 4 ∷ []) t → t ≡ 2
third_stays t h =
    elim (cases_eq 2 t) [
      | inl is ↦ sym is
      | inr other ↦ absurd (let none = rw (ne_eqb 2 t other) at h in omega (arith, none))
    ]

third_unable : (s : ℕ) → s ≡ 2 → CanReach first_four.frame s → ⊥
third_unable s is (arrives here) = absurd (false≢true (subst (λ t. IsTrue (holds_at first_four.frame.sets.goal_may t)) is here))
third_unable s is (goes {t} is_live inside positive walk) =
    third_unable t (third_stays t (subst (λ u. 0 < (frame_rows first_four.frame.rows).num u t) is positive)) walk

from_first : CanReach first_four.frame 0
from_first = goes {t = 1} refl (lit< tt) (lit< tt) (arrives refl)

four_reach : (s : ℕ) → s < 4 → IsTrue (holds_at first_four.reach s) ↔ CanReach first_four.frame s
four_reach zero l = (λ h. from_first, λ w. refl)
four_reach (suc zero) l = (λ h. arrives refl, λ w. refl)
four_reach (suc (suc zero)) l = (λ h. absurd (false≢true h), λ w. absurd (third_unable 2 refl w))
four_reach (suc (suc (suc zero))) l = (λ h. goes {t = 0} refl (lit< tt) (lit< tt) from_first, λ w. refl)
four_reach (suc (suc (suc (suc s)))) l = absurd (omega arith)

all_mixed : (P : Entry → Type 0) → P (jump 0 2) → P (jump 1 1) → P (jump 2 1) → All P mixed_entries
all_mixed P p q r =
    All-cons P (jump 0 2) (jump 1 1 ∷ jump 2 1 ∷ []) p (All-cons P (jump 1 1) (jump 2 1 ∷ []) q (All-cons P (jump 2 1) [] r (All-nil P)))

first_row : IsSoundRow 4 (row_of 4 mixed_entries)
first_row = record {
  targets = all_mixed (λ e. e.to < 4) (lit< tt) (lit< tt) (lit< tt);
  ascend = ascend-cons 0 1 (2 ∷ []) (lit< tt) (ascend-cons 1 2 [] (lit< tt) (ascend-one 2));
  numbers = all_mixed (λ e. 0 < e.num) (lit< tt) (lit< tt) (lit< tt);
  whole = refl;
  positive = lit< tt;
  fits = lit< tt;
}

pub first_four_sound : IsSoundPlan first_four
first_four_sound = record {
  frame = record {
    some = lit≤ tt;
    few = lit≤ tt;
    rows =
        All-cons (IsSoundRow 4) (row_of 4 mixed_entries)
        (row_of 4 (jump 1 4 ∷ []) ∷ row_of 4 (jump 2 4 ∷ []) ∷ row_of 4 (jump 0 4 ∷ []) ∷ []) first_row
        (All-cons (IsSoundRow 4) (row_of 4 (jump 1 4 ∷ [])) (row_of 4 (jump 2 4 ∷ []) ∷ row_of 4 (jump 0 4 ∷ []) ∷ [])
        (sure_row 4 4 1 (lit< tt) (lit< tt) (lit< tt))
        (All-cons (IsSoundRow 4) (row_of 4 (jump 2 4 ∷ [])) (row_of 4 (jump 0 4 ∷ []) ∷ []) (sure_row 4 4 2 (lit< tt) (lit< tt) (lit< tt))
        (All-cons (IsSoundRow 4) (row_of 4 (jump 0 4 ∷ [])) [] (sure_row 4 4 0 (lit< tt) (lit< tt) (lit< tt)) (All-nil (IsSoundRow 4)))));
    sets = known_sets 4 (false ∷ true ∷ false ∷ false ∷ []) (true ∷ true ∷ true ∷ true ∷ []) refl refl;
  };
  some_layer = lit≤ tt;
  few_layers = lit≤ tt;
  start_states = refl;
  start = λ s l. (set_layer 4 first_four.reach refl).words s l;
  reach = record { states = refl; exact = four_reach };
  mix = tt;
}

-- a plan that is put together of the same parts is sound
pub four_sound : (rows : List RowLists) (a b d e : RowLists) (sets : SetLists) (start : List ℕ) (reach : List Bool)
    → rows ≡ a ∷ b ∷ d ∷ e ∷ [] → a ≡ row_of 4 mixed_entries → b ≡ row_of 4 (jump 1 4 ∷ []) → d ≡ row_of 4 (jump 2 4 ∷ [])
    → e ≡ row_of 4 (jump 0 4 ∷ []) → sets ≡ first_four.frame.sets → start ≡ first_four.start_upper → reach ≡ first_four.reach
    → IsSoundPlan record { frame = record { rows = rows; sets = sets }; layers = 4; start_upper = start; reach = reach; mix = Last }
four_sound rows a b d e sets start reach er ea eb ed ee es et eu = rw (er, ea, eb, ed, ee, es, et, eu) first_four_sound

pub two_sound : (rows : List RowLists) (a b : RowLists) (sets : SetLists) (start : List ℕ) (reach : List Bool) (low high : List ℕ)
    → rows ≡ a ∷ b ∷ [] → a ≡ row_of 1 (jump 1 1 ∷ []) → b ≡ row_of 1 (jump 1 1 ∷ []) → sets ≡ first_two.frame.sets
    → start ≡ first_two.start_upper → reach ≡ first_two.reach → low ≡ five_ones → high ≡ five_ones
    → IsSoundPlan
    record {
      frame = record { rows = rows; sets = sets };
      layers = 4;
      start_upper = start;
      reach = reach;
      mix = Poisson record { low = low; high = high } 8;
    }
two_sound rows a b sets start reach low high er ea eb es et eu el eh = rw (er, ea, eb, es, et, eu, el, eh) first_two_sound
