use Rattle.std.proofs.Common.{◌≡◌, ◌≤◌, ◌<◌, ◌^◌, ◌∙◌, ℕ, length, ap, sym, subst, rules, arith}
use Rattle.std.proofs.lemmas.List.{get_or_default}
use Rattle.std.proofs.lemmas.List.Elements.{All-set}
use Rattle.ctmc_semantics.specs.Sets.{holds_at}
use Rattle.ctmc_semantics.proofs.ColumnLemmas.{one_more_place}
use Rattle.step_core.specs.FrameRows.{row_at}
use Rattle.step_core.specs.SoundFrame.{IsSoundRow}
use Rattle.step_core.proofs.Layers.{low_is, high_is, truth_at}
use Rattle.step_core.proofs.one_thread.next_layer.Goals as goal

pub loop-state-preserved : goal.loop-state-preserved
loop-state-preserved c =
    let rows = c.args.rows.now in
    let sets = c.args.sets.now in
    let s = c.loop-state.state in
    let row = c.index-rows-state.result in
    let inside : s < length rows = omega arith in
    let here : row ≡ row_at rows s = c.index-rows-state.is ∙ get_or_default rows s _ _ inside in
    let sound : IsSoundRow (length rows) row =
    subst (IsSoundRow (length rows)) (sym c.index-rows-state.is) (c.requires.rows s row inside) in
    record {
      low_states = search rules;
      low =
          one_more_place _ _ _ _ (omega (arith, c.loop-state.invariant.low_states)) c.loop-state.invariant.low
          (low_is rows (holds_at sets.live_must) (holds_at sets.goal_must) _ s here
          (truth_at c.index.ensures (ap (λ f. f.goal_must) c.sets.view_is) (omega (arith, c.requires.sets.goal_must_states)))
          (truth_at c.index-in-loop-state.ensures (ap (λ f. f.live_must) c.sets.view_is) (omega (arith, c.requires.sets.live_must_states)))
          sound.targets c.both_words-low_word.ensures.low);
      low_words =
          All-set (λ (w : ℕ). w ≤ 2 ^ 62) _ _ _ c.both_words-low_word.ensures.low_at_most_one c.loop-state.invariant.low_words;
      high_states = search rules;
      high =
          one_more_place _ _ _ _ (omega (arith, c.loop-state.invariant.high_states)) c.loop-state.invariant.high
          (high_is rows (holds_at sets.live_may) (holds_at sets.goal_may) _ s here
          (truth_at c.index-in-loop-state-2.ensures (ap (λ f. f.goal_may) c.sets.view_is) (omega (arith, c.requires.sets.goal_may_states)))
          (truth_at c.index-in-loop-state-3.ensures (ap (λ f. f.live_may) c.sets.view_is) (omega (arith, c.requires.sets.live_may_states)))
          sound.targets c.both_words-low_word.ensures.high);
      high_words =
          All-set (λ (w : ℕ). w ≤ 2 ^ 62) _ _ _ c.both_words-low_word.ensures.high_at_most_one c.loop-state.invariant.high_words;
    }
