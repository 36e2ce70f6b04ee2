use Rattle.std.proofs.Common.{◌≡◌, ℕ, zero, suc, ◌<◌, ◌≤◌, length, arith}
use Rattle.step_core.specs.PlanTables.{plan_low, plan_high}
use Rattle.bound_grid.specs.Passes.{KnowsMore, lower_note, upper_note}
use Rattle.bound_grid.specs.declared.board.Board.{Board}
use Rattle.bound_grid.specs.declared.board.Pass.{Pass}
use Rattle.bound_grid.proofs.KnownLemmas.{knows_then, lower_stays, upper_stays}
use Rattle.bound_grid.proofs.tests.finish_layer.Goals as goal

-- four states that are finished one after another
module _ (b : Board) (p q r t : Pass) (k : ℕ) (le : k ≤ b.plan.layers) (four : length b.plan.frame.rows ≡ 4) (one : KnowsMore b p q)
    (two : KnowsMore b q r) (three : KnowsMore b r t) where
  later : KnowsMore b q t
  later = knows_then b q r t two three

  all_later : KnowsMore b p t
  all_later = knows_then b p q t one later

  all_low : lower_note b p k 0 ≡ plan_low b.plan k 0 → lower_note b q k 1 ≡ plan_low b.plan k 1
      → lower_note b r k 2 ≡ plan_low b.plan k 2 → lower_note b t k 3 ≡ plan_low b.plan k 3
      → (s : ℕ) → s < length b.plan.frame.rows → lower_note b t k s ≡ plan_low b.plan k s
  all_low e f g h zero lt = lower_stays b p t all_later k 0 le lt e
  all_low e f g h (suc zero) lt = lower_stays b q t later k 1 le lt f
  all_low e f g h (suc (suc zero)) lt = lower_stays b r t three k 2 le lt g
  all_low e f g h (suc (suc (suc zero))) lt = h
  all_low e f g h (suc (suc (suc (suc s)))) lt = absurd (omega (arith, lt, four))

  all_high : upper_note b p k 0 ≡ plan_high b.plan k 0 → upper_note b q k 1 ≡ plan_high b.plan k 1
      → upper_note b r k 2 ≡ plan_high b.plan k 2 → upper_note b t k 3 ≡ plan_high b.plan k 3
      → (s : ℕ) → s < length b.plan.frame.rows → upper_note b t k s ≡ plan_high b.plan k s
  all_high e f g h zero lt = upper_stays b p t all_later k 0 le lt e
  all_high e f g h (suc zero) lt = upper_stays b q t later k 1 le lt f
  all_high e f g h (suc (suc zero)) lt = upper_stays b r t three k 2 le lt g
  all_high e f g h (suc (suc (suc zero))) lt = h
  all_high e f g h (suc (suc (suc (suc s)))) lt = absurd (omega (arith, lt, four))

pub seal-requires-clause-lower : goal.seal-requires-clause-lower
seal-requires-clause-lower c = λ s lt _.
    all_low c.args.board.now c.finish_state.new.pass c.finish_state-2.new.pass c.finish_state-3.new.pass c.finish_state-4.new.pass c.args.k
    c.requires.layer c.requires.states c.finish_state-2.ensures.knows c.finish_state-3.ensures.knows c.finish_state-4.ensures.knows
    c.finish_state.ensures.lower c.finish_state-2.ensures.lower c.finish_state-3.ensures.lower c.finish_state-4.ensures.lower s lt

pub seal-requires-clause-upper : goal.seal-requires-clause-upper
seal-requires-clause-upper c = λ s lt _.
    all_high c.args.board.now c.finish_state.new.pass c.finish_state-2.new.pass c.finish_state-3.new.pass c.finish_state-4.new.pass c.args.k
    c.requires.layer c.requires.states c.finish_state-2.ensures.knows c.finish_state-3.ensures.knows c.finish_state-4.ensures.knows
    c.finish_state.ensures.upper c.finish_state-2.ensures.upper c.finish_state-3.ensures.upper c.finish_state-4.ensures.upper s lt
