-- A small frame is sound.
use Rattle.std.proofs.Common.{◌≡◌, ℕ, zero, suc, ◌+◌, ◌^◌, ◌<◌, Bool, true, false, IsTrue, List, [], ◌∷◌, All, length, map, refl, sym, subst, lit<, arith}
use Rattle.std.specs.List.{AllByRecursion, sum_by}
use Rattle.std.proofs.lemmas.Bool.{false≢true}
use Rattle.std.proofs.lemmas.List.Elements.{All-from_recursion}
use Rattle.ctmc_semantics.specs.Sets.{IsSubset, holds_at}
use Rattle.round_out.specs.declared.entry.Entry.{Entry}
use Rattle.step_core.specs.FrameLists.{RowLists, SetLists}
use Rattle.step_core.specs.SoundFrame.{Ascend, IsSoundRow, AreSoundSets, IsSoundFrame}
use Rattle.step_core.proofs.SmallModels.{jump, row_of}

-- each number is below the next, step by step
abbrev pub Ascends : List ℕ → Type 0
Ascends [] = Unit {0}
Ascends (x ∷ []) = Unit {0}
Ascends (x ∷ y ∷ xs) = (x < y) × Ascends (y ∷ xs)

ascend : (xs : List ℕ) → Ascends xs → Ascend xs
ascend [] h i l = absurd (omega arith)
ascend (x ∷ []) h i l = absurd (omega arith)
ascend (x ∷ y ∷ xs) h zero l = h.0
ascend (x ∷ y ∷ xs) h (suc i) l =
    let e : suc i + 1 ≡ suc (i + 1) = omega arith in
    let m : i + 1 < length (y ∷ xs) = omega arith in
    rw e (ascend (y ∷ xs) h.1 i m)

pub sound_row : (n den : ℕ) (entries : List Entry) → AllByRecursion (λ e. e.to < n) entries → Ascends (map (λ e. e.to) entries)
    → AllByRecursion (λ e. 0 < e.num) entries → sum_by (λ e. e.num) entries ≡ den → 0 < den → den < 2 ^ 63
    → IsSoundRow n (row_of den entries)
sound_row n den entries targets up numbers whole some fits = record {
  targets = All-from_recursion (λ e. e.to < n) entries targets;
  ascend = ascend (map (λ e. e.to) entries) up;
  numbers = All-from_recursion (λ e. 0 < e.num) entries numbers;
  whole = whole;
  positive = some;
  fits = fits;
}

-- what is in one set is in the other, state by state
abbrev Within : List Bool → List Bool → Type 0
Within [] ys = Unit {0}
Within (x ∷ xs) [] = ⊥
Within (x ∷ xs) (y ∷ ys) = (IsTrue x → IsTrue y) × Within xs ys

subset : (xs ys : List Bool) → Within xs ys → IsSubset (holds_at xs) (holds_at ys)
subset [] ys h s t = absurd (false≢true t)
subset (x ∷ xs) [] h s t = absurd h
subset (x ∷ xs) (y ∷ ys) h zero t = h.0 t
subset (x ∷ xs) (y ∷ ys) h (suc s) t = subset xs ys h.1 s t

abbrev pub row_0 : RowLists
row_0 = row_of 12 (jump 3 12 ∷ [])

abbrev pub row_1 : RowLists
row_1 = row_of 12 (jump 0 5 ∷ jump 4 7 ∷ [])

abbrev pub row_2 : RowLists
row_2 = row_of 12 (jump 1 1 ∷ jump 4 4 ∷ jump 7 7 ∷ [])

abbrev pub row_3 : RowLists
row_3 = row_of 12 (jump 0 1 ∷ jump 1 1 ∷ jump 2 1 ∷ jump 3 1 ∷ jump 4 1 ∷ jump 5 1 ∷ jump 6 2 ∷ jump 7 2 ∷ jump 8 2 ∷ [])

abbrev pub row_4 : RowLists
row_4 = row_of 12 (jump 4 12 ∷ [])

abbrev pub row_5 : RowLists
row_5 = row_of 7 (jump 2 3 ∷ jump 4 4 ∷ [])

abbrev pub row_6 : RowLists
row_6 = row_of 1 (jump 7 1 ∷ [])

abbrev pub row_7 : RowLists
row_7 = row_of 12 (jump 2 5 ∷ jump 6 7 ∷ [])

abbrev pub row_8 : RowLists
row_8 = row_of 12 (jump 8 12 ∷ [])

-- the rows of nine states
abbrev pub nine_rows : List RowLists
nine_rows = row_0 ∷ row_1 ∷ row_2 ∷ row_3 ∷ row_4 ∷ row_5 ∷ row_6 ∷ row_7 ∷ row_8 ∷ []

sound_0 : IsSoundRow 9 row_0
sound_0 =
    sound_row 9 12 (jump 3 12 ∷ []) (lit< tt, tt)
    tt (lit< tt, tt) refl (lit< tt) (lit< tt)

sound_1 : IsSoundRow 9 row_1
sound_1 =
    sound_row 9 12 (jump 0 5 ∷ jump 4 7 ∷ []) (lit< tt, (lit< tt, tt))
    (lit< tt, tt) (lit< tt, (lit< tt, tt)) refl (lit< tt) (lit< tt)

sound_2 : IsSoundRow 9 row_2
sound_2 =
    sound_row 9 12 (jump 1 1 ∷ jump 4 4 ∷ jump 7 7 ∷ []) (lit< tt, (lit< tt, (lit< tt, tt)))
    (lit< tt, (lit< tt, tt)) (lit< tt, (lit< tt, (lit< tt, tt))) refl (lit< tt) (lit< tt)

sound_3 : IsSoundRow 9 row_3
sound_3 =
    sound_row 9 12
    (jump 0 1 ∷ jump 1 1 ∷ jump 2 1 ∷ jump 3 1 ∷ jump 4 1 ∷ jump 5 1 ∷ jump 6 2 ∷ jump 7 2 ∷ jump 8 2 ∷ [])
    (lit< tt, (lit< tt, (lit< tt, (lit< tt, (lit< tt, (lit< tt, (lit< tt, (lit< tt, (lit< tt, tt)))))))))
    (lit< tt, (lit< tt, (lit< tt, (lit< tt, (lit< tt, (lit< tt, (lit< tt, (lit< tt, tt))))))))
    (lit< tt, (lit< tt, (lit< tt, (lit< tt, (lit< tt, (lit< tt, (lit< tt, (lit< tt, (lit< tt, tt))))))))) refl (lit< tt) (lit< tt)

sound_4 : IsSoundRow 9 row_4
sound_4 =
    sound_row 9 12 (jump 4 12 ∷ []) (lit< tt, tt)
    tt (lit< tt, tt) refl (lit< tt) (lit< tt)

sound_5 : IsSoundRow 9 row_5
sound_5 =
    sound_row 9 7 (jump 2 3 ∷ jump 4 4 ∷ []) (lit< tt, (lit< tt, tt))
    (lit< tt, tt) (lit< tt, (lit< tt, tt)) refl (lit< tt) (lit< tt)

sound_6 : IsSoundRow 9 row_6
sound_6 =
    sound_row 9 1 (jump 7 1 ∷ []) (lit< tt, tt)
    tt (lit< tt, tt) refl (lit< tt) (lit< tt)

sound_7 : IsSoundRow 9 row_7
sound_7 =
    sound_row 9 12 (jump 2 5 ∷ jump 6 7 ∷ []) (lit< tt, (lit< tt, tt))
    (lit< tt, tt) (lit< tt, (lit< tt, tt)) refl (lit< tt) (lit< tt)

sound_8 : IsSoundRow 9 row_8
sound_8 =
    sound_row 9 12 (jump 8 12 ∷ []) (lit< tt, tt)
    tt (lit< tt, tt) refl (lit< tt) (lit< tt)

rows_sound : All (IsSoundRow 9) nine_rows
rows_sound =
    All-from_recursion (IsSoundRow 9) nine_rows
    (sound_0, (sound_1, (sound_2, (sound_3, (sound_4, (sound_5, (sound_6, (sound_7, (sound_8, tt)))))))))

abbrev nine_sets : SetLists
nine_sets = record {
  goal_must = false ∷ false ∷ false ∷ false ∷ true ∷ false ∷ false ∷ false ∷ false ∷ [];
  goal_may = false ∷ false ∷ false ∷ false ∷ true ∷ false ∷ false ∷ true ∷ false ∷ [];
  live_must = true ∷ true ∷ true ∷ true ∷ true ∷ true ∷ false ∷ true ∷ true ∷ [];
  live_may = true ∷ true ∷ true ∷ true ∷ true ∷ true ∷ true ∷ true ∷ true ∷ [];
}

sets_sound : AreSoundSets 9 nine_sets
sets_sound = record {
  goal_must_states = refl;
  goal_may_states = refl;
  live_must_states = refl;
  live_may_states = refl;
  goal =
      subset nine_sets.goal_must nine_sets.goal_may
      (λ t. t, (λ t. t, (λ t. t, (λ t. t, (λ t. t, (λ t. t, (λ t. t, (λ t. refl, (λ t. t, tt)))))))));
  live =
      subset nine_sets.live_must nine_sets.live_may
      (λ t. t, (λ t. t, (λ t. t, (λ t. t, (λ t. t, (λ t. t, (λ t. refl, (λ t. t, (λ t. t, tt)))))))));
}

-- a frame that is put together of the same parts is sound
pub frame_sound : (rows : List RowLists) (a b d e : List Bool) → All (IsSoundRow 9) rows → length rows ≡ 9 → a ≡ nine_sets.goal_must
    → b ≡ nine_sets.goal_may → d ≡ nine_sets.live_must → e ≡ nine_sets.live_may
    → IsSoundFrame record { rows = rows; sets = record { goal_must = a; goal_may = b; live_must = d; live_may = e } }
frame_sound rows a b d e h n ea eb ed ee = record {
  some = omega (arith, n);
  few = omega (arith, n);
  rows = subst (λ m. All (IsSoundRow m) rows) (sym n) h;
  sets = rw (n, ea, eb, ed, ee) sets_sound;
}

-- rows that are put together of the same parts are sound
pub nine_sound : (rows : List RowLists) (r0 r1 r2 r3 r4 r5 r6 r7 r8 : RowLists)
    → rows ≡ r0 ∷ r1 ∷ r2 ∷ r3 ∷ r4 ∷ r5 ∷ r6 ∷ r7 ∷ r8 ∷ [] → r0 ≡ row_0 → r1 ≡ row_1 → r2 ≡ row_2 → r3 ≡ row_3 → r4 ≡ row_4
    → r5 ≡ row_5 → r6 ≡ row_6 → r7 ≡ row_7 → r8 ≡ row_8 → All (IsSoundRow 9) rows
nine_sound rows r0 r1 r2 r3 r4 r5 r6 r7 r8 e e0 e1 e2 e3 e4 e5 e6 e7 e8 = rw (e, e0, e1, e2, e3, e4, e5, e6, e7, e8) rows_sound
