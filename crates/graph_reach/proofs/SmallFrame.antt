-- A small frame is sound.
use Rattle.std.proofs.Common.{◌≡◌, ℕ, zero, suc, ◌<◌, Bool, true, false, List, [], ◌∷◌, refl, lit<, lit≤, arith}
use Rattle.std.specs.List.{All}
use Rattle.std.proofs.lemmas.List.Elements.{All-nil, All-cons}
use Rattle.round_out.specs.declared.entry.Entry.{Entry}
use Rattle.step_core.specs.FrameLists.{RowLists, SetLists}
use Rattle.step_core.specs.SoundFrame.{Ascend, IsSoundRow, IsSoundFrame}

abbrev pub jump : ℕ → Entry
jump to = record { to = to; num = 1 }

abbrev pub sure : ℕ → RowLists
sure to = record { den = 1; entries = jump to ∷ [] }

abbrev pub either : ℕ → ℕ → RowLists
either a b = record { den = 2; entries = jump a ∷ jump b ∷ [] }

sure_row : (n to : ℕ) → to < n → IsSoundRow n (sure to)
sure_row n to l = record {
  targets = All-cons (λ e. e.to < n) (jump to) [] l (All-nil (λ e. e.to < n));
  ascend = λ i short. absurd (omega arith);
  numbers = All-cons (λ e. 0 < e.num) (jump to) [] (lit< tt) (All-nil (λ e. 0 < e.num));
  whole = refl;
  positive = lit< tt;
  fits = lit< tt;
}

ascend-two : (a b : ℕ) → a < b → Ascend (a ∷ b ∷ [])
ascend-two a b up zero short = up
ascend-two a b up (suc i) short = absurd (omega arith)

either_row : (n a b : ℕ) → a < b → b < n → IsSoundRow n (either a b)
either_row n a b up l =
    let first : a < n = omega arith in
    record {
      targets =
          All-cons (λ e. e.to < n) (jump a) (jump b ∷ []) first (All-cons (λ e. e.to < n) (jump b) [] l (All-nil (λ e. e.to < n)));
      ascend = ascend-two a b up;
      numbers =
          All-cons (λ e. 0 < e.num) (jump a) (jump b ∷ []) (lit< tt)
          (All-cons (λ e. 0 < e.num) (jump b) [] (lit< tt) (All-nil (λ e. 0 < e.num)));
      whole = refl;
      positive = lit< tt;
      fits = lit< tt;
    }

abbrev goals : List Bool
goals = false ∷ false ∷ true ∷ false ∷ false ∷ []

abbrev lives : List Bool
lives = true ∷ true ∷ false ∷ true ∷ false ∷ []

abbrev pub five_sets : SetLists
five_sets = record { goal_must = goals; goal_may = goals; live_must = lives; live_may = lives }

five_rows : All (IsSoundRow 5) (sure 1 ∷ sure 2 ∷ sure 3 ∷ either 3 4 ∷ sure 2 ∷ [])
five_rows =
    All-cons (IsSoundRow 5) (sure 1) (sure 2 ∷ sure 3 ∷ either 3 4 ∷ sure 2 ∷ []) (sure_row 5 1 (lit< tt))
    (All-cons (IsSoundRow 5) (sure 2) (sure 3 ∷ either 3 4 ∷ sure 2 ∷ []) (sure_row 5 2 (lit< tt))
    (All-cons (IsSoundRow 5) (sure 3) (either 3 4 ∷ sure 2 ∷ []) (sure_row 5 3 (lit< tt))
    (All-cons (IsSoundRow 5) (either 3 4) (sure 2 ∷ []) (either_row 5 3 4 (lit< tt) (lit< tt))
    (All-cons (IsSoundRow 5) (sure 2) [] (sure_row 5 2 (lit< tt)) (All-nil (IsSoundRow 5))))))

-- a frame that is put together of these parts is sound
pub five_sound : (rows : List RowLists) (a b d e f : RowLists) (sets : SetLists) → rows ≡ a ∷ b ∷ d ∷ e ∷ f ∷ [] → a ≡ sure 1
    → b ≡ sure 2 → d ≡ sure 3 → e ≡ either 3 4 → f ≡ sure 2 → sets ≡ five_sets → IsSoundFrame record { rows = rows; sets = sets }
five_sound rows a b d e f sets er ea eb ed ee ef es =
    rw (er, ea, eb, ed, ee, ef, es)
    record {
      some = lit≤ tt;
      few = lit≤ tt;
      rows = five_rows;
      sets = record {
        goal_must_states = refl;
        goal_may_states = refl;
        live_must_states = refl;
        live_may_states = refl;
        goal = λ s h. h;
        live = λ s h. h;
      };
    }
