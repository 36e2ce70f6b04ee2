-- Layers of a plan, each from the one before.
use Rattle.std.proofs.Common.{◌≡◌, ℕ, suc, ◌+◌, ◌^◌, ◌≤◌, ◌<◌, Bool, false, cond, List, length, refl, ap, sym, inl, inr, ◌∙◌, arith}
use Rattle.std.proofs.lemmas.Bool.{cases_Bool, false≢true}
use Rattle.std.specs.Prelude.{IsTrue, slice_index}
use Rattle.ctmc_semantics.specs.RoundedTables.{one_word, set_words}
use Rattle.ctmc_semantics.specs.Sets.{holds_at}
use Rattle.step_core.specs.FrameRows.{frame_rows}
use Rattle.step_core.specs.PlanLists.{PlanLists}
use Rattle.step_core.specs.PlanTables.{plan_low, plan_high}
use Rattle.step_core.specs.Reach.{CanReach}
use Rattle.step_core.specs.SoundPlan.{IsSoundPlan, starts_at_one}
use Rattle.step_core.specs.Walk.{arrives, goes}
use Rattle.step_core.specs.WordPairs.{words_at, low_of, high_of}
use Rattle.step_core.specs.declared.mix.Mix.{Mix}
use Rattle.step_core.specs.declared.mix.Mix.TheVariants.{Poisson, Last}
use Rattle.step_core.specs.declared.words.Words.{Words}
use Rattle.step_core.proofs.Layers.{row_low-same, row_high-same, set_word_le}
use Rattle.flat_rows.specs.NextWords.{next_word, CanStep, IsNextPart, HasFixed}
use Rattle.flat_rows.specs.RowsOf.{high_needs_row}
use Rattle.window_engine.specs.PlanLayers.{IsPlanLayer}

abbrev pair : ℕ → ℕ → Words
pair l h = record { low = l; high = h }

pairs_same : (a b c d : ℕ) → a ≡ b → c ≡ d → pair a c ≡ pair b d
pairs_same a b c d e f = rw (e, f) refl

-- a state that needs no row can reach the goal exactly if it is the goal
module _ (plan : PlanLists) (sound : IsSoundPlan plan) (s : ℕ) (inside : s < length plan.frame.rows)
    (none : high_needs_row plan.frame.sets plan.reach s ≡ false) where
  abbrev goals : ℕ → Bool
  goals = holds_at plan.frame.sets.goal_may

  abbrev lives : ℕ → Bool
  lives = holds_at plan.frame.sets.live_may

  no_walk : goals s ≡ false → CanReach plan.frame s → IsTrue (holds_at plan.reach s) → holds_at plan.reach s ≡ false
  no_walk g (arrives here) t = absurd (false≢true (sym g ∙ here))
  no_walk g (goes live inside positive walk) t = absurd (false≢true (sym none ∙ rw (live, g, t) refl))

  reach_is_goal : holds_at plan.reach s ≡ goals s
  reach_is_goal =
      elim (cases_Bool (goals s)) [
        | inl g ↦ (sound.reach.exact s inside).1 (arrives g) ∙ sym g
        | inr g ↦ elim (cases_Bool (holds_at plan.reach s)) [
          | inl t ↦ no_walk g ((sound.reach.exact s inside).0 t) t ∙ sym g
          | inr f ↦ f ∙ sym g
        ]
      ]

  either : (mix : Mix) → set_words (starts_at_one mix goals (holds_at plan.reach)) s ≡ set_words goals s
  either (Poisson weights bits) = refl
  either Last = ap (λ b. cond b one_word 0) reach_is_goal

  pub start_is_fixed : slice_index plan.start_upper s ≡ set_words goals s
  start_is_fixed = sound.start s inside ∙ either plan.mix

module _ (plan : PlanLists) where
  -- the next layer
  pub next_layer : (k : ℕ) (before after : List Words) → IsPlanLayer plan k before → length after ≡ length plan.frame.rows
      → IsNextPart plan.frame.rows plan.frame.sets 0 before after → IsPlanLayer plan (k + 1) after
  next_layer k before after is len next =
      let more : k + 1 ≡ suc k = omega arith in
      rw more
      (record {
        states = len;
        words = λ s l.
            let at : 0 + s ≡ s = omega arith in
            let here : words_at after s ≡ next_word plan.frame.rows plan.frame.sets before s =
            next s (omega (arith, l, len)) ∙ ap (next_word plan.frame.rows plan.frame.sets before) at in
            here
            ∙ pairs_same _ _ _ _
            (row_low-same (frame_rows plan.frame.rows) (holds_at plan.frame.sets.live_must) (holds_at plan.frame.sets.goal_must)
            (low_of before) (plan_low plan k) (λ t i. ap (λ w. w.low) (is.words t i)) s)
            (row_high-same (frame_rows plan.frame.rows) (holds_at plan.frame.sets.live_may) (holds_at plan.frame.sets.goal_may)
            (high_of before) (plan_high plan k) (λ t i. ap (λ w. w.high) (is.words t i)) s);
      })

  module _ (sound : IsSoundPlan plan) where
    -- the first layer has the words that need no row
    pub fixed_at_start : (words : List Words) → IsPlanLayer plan 0 words → HasFixed plan.frame.sets plan.reach 0 words
    fixed_at_start words is p l e f =
        let at : 0 + p ≡ p = omega arith in
        let inside : p < length plan.frame.rows = omega (arith, l, is.states) in
        let start = start_is_fixed plan sound p inside (rw at at f) in
        rw at (is.words p inside ∙ pairs_same _ _ _ _ refl start)

    pub start_small : (s : ℕ) → s < length plan.start_upper → slice_index plan.start_upper s ≤ 2 ^ 62
    start_small s l = rw (sound.start s (omega (arith, l, sound.start_states))) (set_word_le _)

    -- a step from a layer is right
    pub can_step : (words part : List Words) → length words ≡ length plan.frame.rows → length part ≡ length plan.frame.rows
        → HasFixed plan.frame.sets plan.reach 0 words → HasFixed plan.frame.sets plan.reach 0 part
        → CanStep plan.frame plan.reach 0 words part
    can_step words part states part_states words_fixed part_fixed = record {
      frame_sound = sound.frame;
      tells = sound.reach;
      states = states;
      inside = omega (arith, part_states);
      words_fixed = words_fixed;
      part_fixed = part_fixed;
    }
