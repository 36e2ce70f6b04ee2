-- The mixers take the layers of a plan.
use Rattle.std.proofs.Common.{◌≡◌, ℕ, ◌+◌, ◌<◌, List, [], ◌∷◌, ◌++◌, length, ap, subst, sym, ◌∙◌, arith}
use Rattle.std.specs.Prelude.{EachIndex}
use Rattle.std.proofs.lemmas.List.FromFn.{length-map-range_with_len, map-range_with_len_more}
use Rattle.step_core.specs.PlanLists.{PlanLists}
use Rattle.step_core.specs.PlanTables.{plan_low, plan_high}
use Rattle.step_core.specs.WordPairs.{low_of, high_of}
use Rattle.step_core.specs.declared.words.Words.{Words}
use Rattle.mix_columns.specs.MixNumbers.{MixNumbers, StandsFor}
use Rattle.mix_columns.specs.SideBySide.{mixer_at}
use Rattle.window_engine.specs.PlanLayers.{IsPlanLayer, TookLayers, first_lows, first_highs}

module _ (plan : PlanLists) where
  lows_more : (n s x : ℕ) → x ≡ plan_low plan n s → first_lows plan n s ++ x ∷ [] ≡ first_lows plan (n + 1) s
  lows_more n s x e = rw e (sym (map-range_with_len_more (λ k. plan_low plan k s) 0 n n (omega arith)))

  highs_more : (n s x : ℕ) → x ≡ plan_high plan n s → first_highs plan n s ++ x ∷ [] ≡ first_highs plan (n + 1) s
  highs_more n s x e = rw e (sym (map-range_with_len_more (λ k. plan_high plan k s) 0 n n (omega arith)))

  module _ (n : ℕ) (mixers : List MixNumbers) (took : TookLayers plan n mixers) where
    pub some_stand : EachIndex mixers (λ s. (xs ys : List ℕ) × StandsFor plan (mixer_at mixers s) xs ys)
    some_stand s l = (first_lows plan n s, first_highs plan n s, took.took s (omega (arith, l, took.states)))

    pub count_is : (s : ℕ) → s < length mixers → (mixer_at mixers s).count ≡ n
    count_is s l =
        sym (took.took s (omega (arith, l, took.states))).low_count ∙ length-map-range_with_len (λ k. plan_low plan k s) 0 n

    module _ (new : List MixNumbers) (states : length new ≡ length mixers) (first : List Words) (is_first : IsPlanLayer plan n first) where
      -- one more layer
      pub one_more : ((s : ℕ) (xs ys : List ℕ) → s < length mixers → StandsFor plan (mixer_at mixers s) xs ys
          → StandsFor plan (mixer_at new s) (xs ++ low_of first s ∷ []) (ys ++ high_of first s ∷ []))
          → TookLayers plan (n + 1) new
      one_more stand = record {
        states = states ∙ took.states;
        took = λ s l.
            let here = stand s _ _ (omega (arith, l, took.states)) (took.took s l) in
            let low = lows_more n s (low_of first s) (ap (λ w. w.low) (is_first.words s l)) in
            let high = highs_more n s (high_of first s) (ap (λ w. w.high) (is_first.words s l)) in
            subst (λ xs. StandsFor plan (mixer_at new s) xs (first_highs plan (n + 1) s)) low
            (subst (λ ys. StandsFor plan (mixer_at new s) (first_lows plan n s ++ low_of first s ∷ []) ys) high here);
      }

      -- two more layers
      pub two_more : (second : List Words) → IsPlanLayer plan (n + 1) second
          → ((s : ℕ) (xs ys : List ℕ) → s < length mixers → StandsFor plan (mixer_at mixers s) xs ys
          → StandsFor plan (mixer_at new s) (xs ++ low_of first s ∷ [] ++ low_of second s ∷ [])
          (ys ++ high_of first s ∷ [] ++ high_of second s ∷ []))
          → TookLayers plan (n + 2) new
      two_more second is_second stand =
          let two : n + 2 ≡ n + 1 + 1 = omega arith in
          rw two
          (record {
            states = states ∙ took.states;
            took = λ s l.
                let here = stand s _ _ (omega (arith, l, took.states)) (took.took s l) in
                let low = ap (λ xs. xs ++ low_of second s ∷ []) (lows_more n s (low_of first s) (ap (λ w. w.low) (is_first.words s l)))
                ∙ lows_more (n + 1) s (low_of second s) (ap (λ w. w.low) (is_second.words s l)) in
                let high = ap (λ ys. ys ++ high_of second s ∷ []) (highs_more n s (high_of first s) (ap (λ w. w.high) (is_first.words s l)))
                ∙ highs_more (n + 1) s (high_of second s) (ap (λ w. w.high) (is_second.words s l)) in
                subst (λ xs. StandsFor plan (mixer_at new s) xs (first_highs plan (n + 1 + 1) s)) low
                (subst
                (λ ys. StandsFor plan (mixer_at new s) (first_lows plan n s ++ low_of first s ∷ [] ++ low_of second s ∷ []) ys) high
                here);
          })
