-- The notes of a state's words, layer by layer.
use Rattle.std.proofs.Common.{◌≡◌, ◌≢◌, ℕ, suc, ◌+◌, ◌*◌, ◌≤◌, ◌<◌, List, [], ◌∷◌, ◌++◌, length, map, set, sym, ap, ◌∙◌, subst, arith}
use Rattle.std.proofs.lemmas.List.{ext_get_or, get_or-set_same, get_or-set_other, length-set}
use Rattle.std.proofs.lemmas.List.FromFn.{get_or-map-range_with_len, length-map-range_with_len, map-range_with_len_more}
use Rattle.std.specs.List.{range_with_len}
use Rattle.reader_pass.specs.NotedWords.{lower_notes, upper_notes}
use Rattle.step_core.specs.CoreLists.{lower_at, upper_at}
use Rattle.step_core.specs.Limits.{sizes_of}
use Rattle.step_core.specs.Places.{Sizes, cells, lower_place, upper_place, word_count}
use Rattle.step_core.specs.PlanLists.{PlanLists}
use Rattle.step_core.proofs.PlaceLemmas.{in_row, same_row, lower_in, upper_in}
use Rattle.mix_columns.specs.MixNumbers.{MixNumbers, StandsFor}
use Rattle.mix_columns.specs.Mixed.{plan_mix, whole_mix}
use Rattle.mix_columns.proofs.MixLawLemmas.{mix_reads}

-- ---- the first values of a function
abbrev pub firsts : (ℕ → ℕ) → ℕ → List ℕ
firsts f n = map f (range_with_len 0 n)

pub length-firsts : (f : ℕ → ℕ) (n : ℕ) → length (firsts f n) ≡ n
length-firsts f n = length-map-range_with_len f 0 n

firsts_same : (f g : ℕ → ℕ) (n : ℕ) → ((k : ℕ) → k < n → f k ≡ g k) → firsts f n ≡ firsts g n
firsts_same f g n same =
    ext_get_or 0 (firsts f n) (firsts g n) (length-firsts f n ∙ sym (length-firsts g n))
    (λ k l.
    let less : k < n = omega (arith, l, length-firsts f n) in
    get_or-map-range_with_len f 0 n k k 0 less (omega arith)
    ∙ (same k less ∙ sym (get_or-map-range_with_len g 0 n k k 0 less (omega arith))))

firsts_more : (f g : ℕ → ℕ) (n x : ℕ) → ((k : ℕ) → k < n → f k ≡ g k) → g n ≡ x → firsts g (n + 1) ≡ firsts f n ++ x ∷ []
firsts_more f g n x same next =
    map-range_with_len_more g 0 n n (omega arith)
    ∙ (ap (λ xs. xs ++ g n ∷ []) (sym (firsts_same f g n same)) ∙ ap (λ y. firsts f n ++ y ∷ []) next)

module _ (plan : PlanLists) (s : ℕ) where
  abbrev z : Sizes
  z = sizes_of plan

  -- the mix of whole columns is that of all notes
  pub mix_of_notes : (notes : List ℕ) (n : ℕ) → n ≡ suc plan.layers
      → whole_mix plan (lower_notes plan s notes n) (upper_notes plan s notes n)
      ≡ plan_mix plan (λ k. lower_at z notes k s) (λ k. upper_at z notes k s)
  mix_of_notes notes n all =
      mix_reads plan.layers plan.mix _ _ (λ k. lower_at z notes k s) (λ k. upper_at z notes k s)
      (λ k le. get_or-map-range_with_len (λ i. lower_at z notes i s) 0 n k k 0 (omega (arith, all, le)) (omega arith))
      (λ k le. get_or-map-range_with_len (λ i. upper_at z notes i s) 0 n k k 0 (omega (arith, all, le)) (omega arith))

  -- ---- both words of a layer are noted
  abbrev one_noted : List ℕ → ℕ → ℕ → List ℕ
  one_noted notes k x = set notes (lower_place z k s) x

  abbrev pub both_noted : List ℕ → ℕ → ℕ → ℕ → List ℕ
  both_noted notes k x y = set (one_noted notes k x) (upper_place z k s) y

  module _ (notes : List ℕ) (k x y : ℕ) (le : k ≤ plan.layers) (inside : s < length plan.frame.rows)
      (size : length notes ≡ word_count z) where
    abbrev one : List ℕ
    one = one_noted notes k x

    abbrev both : List ℕ
    both = both_noted notes k x y

    row : (j : ℕ) → j ≤ plan.layers → j * z.states + s < cells z
    row j l = in_row plan.layers j z.states s l inside

    low_not_high : (j : ℕ) → j ≤ plan.layers → lower_place z j s ≢ upper_place z k s
    low_not_high j l e = let here = row j l in omega (arith, e, here)

    high_not_low : (j : ℕ) → upper_place z j s ≢ lower_place z k s
    high_not_low j e = let here = row k le in omega (arith, e, here)

    rows_apart : (j : ℕ) → j < k → (j * z.states + s ≡ k * z.states + s) → ⊥
    rows_apart j l e = let same = same_row z.states j s k s inside inside e in omega (arith, same, l)

    low_not_low : (j : ℕ) → j < k → lower_place z j s ≢ lower_place z k s
    low_not_low j l e = rows_apart j l (omega (arith, e))

    high_not_high : (j : ℕ) → j < k → upper_place z j s ≢ upper_place z k s
    high_not_high j l e = rows_apart j l (omega (arith, e))

    pub lower_here : lower_at z both k s ≡ x
    lower_here =
        get_or-set_other one (upper_place z k s) (lower_place z k s) y 0 (low_not_high k le)
        ∙ get_or-set_same notes (lower_place z k s) x 0 (let i = lower_in z k s le inside in omega (arith, i, size))

    pub upper_here : upper_at z both k s ≡ y
    upper_here =
        let same : length one ≡ length notes = length-set notes (lower_place z k s) x in
        get_or-set_same one (upper_place z k s) y 0 (let i = upper_in z k s le inside in omega (arith, i, size, same))

    pub lower_before : (j : ℕ) → j < k → lower_at z both j s ≡ lower_at z notes j s
    lower_before j l =
        get_or-set_other one (upper_place z k s) (lower_place z j s) y 0 (low_not_high j (omega (arith, l, le)))
        ∙ get_or-set_other notes (lower_place z k s) (lower_place z j s) x 0 (low_not_low j l)

    pub upper_before : (j : ℕ) → j < k → upper_at z both j s ≡ upper_at z notes j s
    upper_before j l =
        get_or-set_other one (upper_place z k s) (upper_place z j s) y 0 (high_not_high j l)
        ∙ get_or-set_other notes (lower_place z k s) (upper_place z j s) x 0 (high_not_low j)

    pub lower_next : lower_notes plan s both (k + 1) ≡ lower_notes plan s notes k ++ x ∷ []
    lower_next =
        firsts_more (λ i. lower_at z notes i s) (λ i. lower_at z both i s) k x (λ j l. sym (lower_before j l)) lower_here

    pub upper_next : upper_notes plan s both (k + 1) ≡ upper_notes plan s notes k ++ y ∷ []
    upper_next =
        firsts_more (λ i. upper_at z notes i s) (λ i. upper_at z both i s) k y (λ j l. sym (upper_before j l)) upper_here

    -- so a mixer that stands for the notes and takes both words stands for the notes as they are then
    pub stands_next : (m : MixNumbers) → StandsFor plan m (lower_notes plan s notes k ++ x ∷ []) (upper_notes plan s notes k ++ y ∷ [])
        → StandsFor plan m (lower_notes plan s both (k + 1)) (upper_notes plan s both (k + 1))
    stands_next m h =
        subst (λ xs. StandsFor plan m xs (upper_notes plan s both (k + 1))) (sym lower_next)
        (subst (λ ys. StandsFor plan m (lower_notes plan s notes k ++ x ∷ []) ys) (sym upper_next) h)
