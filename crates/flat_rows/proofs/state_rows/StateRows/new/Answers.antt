use Rattle.std.proofs.Common.{◌≡◌, ◌<◌, ◌∙◌, length, subst}
use Rattle.std.proofs.lemmas.List.{get_or_default}
use Rattle.step_core.specs.FrameRows.{row_at}
use Rattle.flat_rows.specs.StateRows.{AddsStateRow}
use Rattle.flat_rows.proofs.ReadyRows.{one_more, rows_more}
use Rattle.flat_rows.proofs.state_rows.StateRows.new.Goals as goal

pub loop-state-preserved : goal.loop-state-preserved
loop-state-preserved c =
    let inv = c.loop-state.invariant in
    let rows = c.args.rows.now in
    let s = c.loop-state.state in
    let inside : s < length rows = c.loop-state-test.true in
    let here : c.index-rows-state.result ≡ row_at rows s = c.index-rows-state.is ∙ get_or_default rows s _ _ inside in
    let adds = subst (λ r. AddsStateRow r c.needs_row-low.result.0 c.needs_row-low.result.1 c.loop-state.all c.push.new.self) here
    c.in_ok-push.ensures in
    let sound = c.requires.rows s _ inside in
    record {
      states = one_more rows c.args.sets.now c.args.reach.now s _ _ c.loop-state.all c.push.new.self sound adds c.needs_row-low.ensures.low
          c.needs_row-low.ensures.high inv.states;
      each = rows_more rows c.args.sets.now c.args.reach.now s _ _ c.loop-state.all c.push.new.self sound adds c.needs_row-low.ensures.low
          c.needs_row-low.ensures.high inv.states inv.each;
    }
