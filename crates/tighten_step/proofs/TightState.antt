-- The words of a state after they were brought to their values.
use Rattle.std.proofs.Common.{◌≡◌, ℕ, ◌-◌, ◌<◌, ◌≤◌, length, set, ◌∙◌, arith}
use Rattle.bound_grid.specs.Passes.{KnowsMore, notes_of, lower_note, upper_note}
use Rattle.bound_grid.specs.declared.board.Board.{Board}
use Rattle.bound_grid.specs.declared.board.Pass.{Pass}
use Rattle.bound_grid.proofs.KnownLemmas.{note_under, note_over, lower_more, upper_less}
use Rattle.ctmc_semantics.specs.Sets.{holds_at}
use Rattle.step_core.specs.FrameRows.{frame_rows}
use Rattle.step_core.specs.GoodLaws.{EqualTables}
use Rattle.step_core.specs.Limits.{sizes_of}
use Rattle.step_core.specs.Places.{lower_place, upper_place}
use Rattle.step_core.specs.SoundPlan.{IsSoundPlan}
use Rattle.step_core.proofs.Layers.{row_low-same, row_high-same}
use Rattle.step_core.proofs.RowLemmas.{row_low_rises, row_high_rises}
use Rattle.tighten_step.specs.Quotients.{KnowsMoreWords}
use Rattle.tighten_step.specs.Tight.{AreTight}
use Rattle.tighten_step.specs.Values.{AreValues, AreFinal}
use Rattle.tighten_step.proofs.LoadedWords.{words_then, words_lower, words_upper, lower_before_noted, upper_before_noted, lower_stays_noted, upper_stays_noted}

-- p the pass before, q with the values, r after the raise, w after the cut
module _ (b : Board) (p q r w : Pass) (k s : ℕ) (above : 0 < k) (le : k ≤ b.plan.layers) (lt : s < length b.plan.frame.rows)
    (first : KnowsMoreWords b p q) (raise : KnowsMore b q r)
    (raised : notes_of r ≡ set (notes_of q) (lower_place (sizes_of b.plan) k s) (lower_note b r k s)) (cut : KnowsMore b r w)
    (is_cut : notes_of w ≡ set (notes_of r) (upper_place (sizes_of b.plan) k s) (upper_note b w k s)) where
  pub words_all : KnowsMoreWords b p w
  words_all =
      words_then b p r w (words_then b p q r first (words_lower b q r k s (lower_note b r k s) le lt raise raised))
      (words_upper b r w k s (upper_note b w k s) le lt cut is_cut)

  lower_same : lower_note b w k s ≡ lower_note b r k s
  lower_same = lower_stays_noted b r w k s (upper_note b w k s) le lt cut is_cut k s le lt

  lower_below : (t : ℕ) → t < length b.plan.frame.rows → lower_note b w (k - 1) t ≡ lower_note b q (k - 1) t
  lower_below t l =
      lower_stays_noted b r w k s (upper_note b w k s) le lt cut is_cut (k - 1) t (omega (arith, le)) l
      ∙ lower_before_noted b q r k s (lower_note b r k s) le lt raise raised (k - 1) t (omega (arith, above)) l

  upper_below : (t : ℕ) → t < length b.plan.frame.rows → upper_note b w (k - 1) t ≡ upper_note b q (k - 1) t
  upper_below t l =
      upper_before_noted b r w k s (upper_note b w k s) le lt cut is_cut (k - 1) t (omega (arith, above)) l
      ∙ upper_stays_noted b q r k s (lower_note b r k s) le lt raise raised (k - 1) t

  module _ (low high : ℕ) (above_low : low ≤ lower_note b r k s) (below_high : upper_note b w k s ≤ high) where
    pub are_tight : AreValues b.plan (notes_of q) k s low high → AreTight b.plan (notes_of w) (notes_of w) k s
    are_tight values =
        let row_low = row_low-same (frame_rows b.plan.frame.rows) (holds_at b.plan.frame.sets.live_must)
        (holds_at b.plan.frame.sets.goal_must) (lower_note b w (k - 1)) (lower_note b q (k - 1)) lower_below s in
        let row_high = row_high-same (frame_rows b.plan.frame.rows) (holds_at b.plan.frame.sets.live_may)
        (holds_at b.plan.frame.sets.goal_may) (upper_note b w (k - 1)) (upper_note b q (k - 1)) upper_below s in
        let lower = values.lower in
        let upper = values.upper in
        record {
          lower = omega (arith, row_low, lower, above_low, lower_same);
          upper = omega (arith, row_high, upper, below_high);
        }

    pub are_equal : AreFinal b.plan k s low high → EqualTables b.plan (notes_of w) k s
    are_equal final =
        let under = note_under b w cut.pass k s le lt in
        let over = note_over b w cut.pass k s le lt in
        let lower = final.lower in
        let upper = final.upper in
        record {
          lower = omega (arith, under, lower, above_low, lower_same);
          upper = omega (arith, over, upper, below_high);
        }

-- what is tight over notes is so over earlier ones, and later on
module _ (b : Board) (p q r w : Pass) (sound : IsSoundPlan b.plan) (before : KnowsMore b p q) (after : KnowsMore b r w) (k s : ℕ)
    (le : k ≤ b.plan.layers) (lt : s < length b.plan.frame.rows) where
  pub tight_wider : AreTight b.plan (notes_of q) (notes_of r) k s → AreTight b.plan (notes_of p) (notes_of w) k s
  tight_wider tight =
      let in_layers : k - 1 ≤ b.plan.layers = omega (arith, le) in
      let row_low = row_low_rises b.plan sound s lt (lower_note b p (k - 1)) (lower_note b q (k - 1))
      (λ t l. lower_more b p q before (k - 1) t in_layers l) in
      let row_high = row_high_rises b.plan sound s lt (upper_note b q (k - 1)) (upper_note b p (k - 1))
      (λ t l. upper_less b p q before (k - 1) t in_layers l) in
      let lower = tight.lower in
      let upper = tight.upper in
      record {
        lower = omega (arith, row_low, lower, lower_more b r w after k s le lt);
        upper = omega (arith, row_high, upper, upper_less b r w after k s le lt);
      }
