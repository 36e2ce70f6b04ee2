use Rattle.std.proofs.Common.{◌≡◌, ℕ, ◌-◌, ◌≤◌, subst, sym, inl, inr, arith}
use Rattle.std.proofs.lemmas.Bool.{cases_eq}
use Rattle.bound_grid.specs.Passes.{seal_note}
use Rattle.bound_grid.proofs.KnownLemmas.{knows_itself, knows_then, seal_stays}
use Rattle.tighten_step.proofs.SeenSeals.{layer_stays}
use Rattle.column_workers.proofs.sure.make_sure.Goals as goal

pub loop-b-init : goal.loop-b-init
loop-b-init c = record {
  knows = knows_itself c.args.board.now c.args.pass.now c.requires.pass;
  sealed = λ g lt. absurd (omega (arith, lt));
}

pub settle_block-requires-clause-pass : goal.settle_block-requires-clause-pass
settle_block-requires-clause-pass c = c.loop-b.invariant.knows.pass

pub settle_block-requires-clause-before : goal.settle_block-requires-clause-before
settle_block-requires-clause-before c above =
    let before : c.args.k - 1 ≤ c.args.board.now.plan.layers = omega (arith, c.requires.layer) in
    layer_stays c.args.board.now _ _ (c.args.k - 1) c.loop-b.invariant.knows before (c.requires.before above)

pub loop-b-preserved : goal.loop-b-preserved
loop-b-preserved c =
    let b = c.args.board.now in
    let k : ℕ = c.args.k in
    let went = c.settle_block.ensures in
    record {
      knows = knows_then b _ _ _ c.loop-b.invariant.knows went.knows;
      sealed = λ g lt. elim (cases_eq g c.loop-b.b) [
        | inl e ↦ subst (λ (h : ℕ). seal_note b c.settle_block.new.pass k h ≡ 1) (sym e) went.sealed
        | inr ne ↦ seal_stays b _ _ went.knows k g c.requires.layer (omega (arith, lt, c.loop-b-test.true, c.blocks-b-end.ensures))
            (c.loop-b.invariant.sealed g (omega (arith, lt, ne)))
      ];
    }

pub returns-clause-sealed : goal.returns-clause-sealed
returns-clause-sealed c =
    record { at = λ b lt. c.loop-b.invariant.sealed b (omega (arith, lt, c.loop-b-test.false, c.blocks-b-end.ensures)) }
