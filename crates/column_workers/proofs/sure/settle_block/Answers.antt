use Rattle.std.proofs.Common.{◌≡◌, ℕ, zero, suc, ◌-◌, ◌<◌, ◌≤◌, Bool, true, false, true≢false, refl, sym, ◌∙◌, arith}
use Rattle.bound_grid.proofs.KnownLemmas.{knows_then}
use Rattle.tighten_step.proofs.SeenSeals.{layer_stays}
use Rattle.column_workers.proofs.sure.settle_block.Goals as goal

-- a block that isn't sealed is of a later layer than 0
above : (k : ℕ) (set : Bool) → (k ≡ 0 → set ≡ true) → set ≡ false → 0 < k
above zero set sealed unset = absurd (true≢false (sym (sealed refl) ∙ unset))
above (suc k) set sealed unset = omega arith

pub finish_block-requires-clause-above : goal.finish_block-requires-clause-above
finish_block-requires-clause-above c = above c.args.k c.sealed.result c.sealed.ensures.layer_zero c.if-sealed.false

pub finish_block-requires-clause-before : goal.finish_block-requires-clause-before
finish_block-requires-clause-before c =
    let up = above c.args.k c.sealed.result c.sealed.ensures.layer_zero c.if-sealed.false in
    let before : c.args.k - 1 ≤ c.args.board.now.plan.layers = omega (arith, c.requires.layer) in
    layer_stays c.args.board.now _ _ (c.args.k - 1) c.sealed.ensures.knows before (c.requires.before up)

pub returns-clause-knows : goal.returns-clause-knows
returns-clause-knows c = knows_then c.args.board.now _ _ _ c.sealed.ensures.knows c.finish_block.ensures.knows
